-- strip_run: what is copied and what is cleared are together the run stripped.
use Rattle.std.proofs.Common.{refl, length, ◌+◌, ◌-◌, ◌≤◌, get_or, arith, rules}
use Rattle.std.proofs.lemmas.Grind.{common_steps}
use borrow.Rule.Slice.PartMut.{mid_of}
use Rattle.buffers.specs.Change.{Changed}
use Rattle.buffers.proofs.Part.{len_mid, lift}
use Rattle.within.proofs.Read.{stripped}
use Rattle.within.proofs.strip_run.Goals as goal

pub returns : goal.returns
returns c =
    let x = c.args in
    let d = x.work.now in
    let e = c.copy_within.new.self in
    let at = x.b + (x.n - x.v) in
    let k = x.b + x.n - at in
    let copied : Changed (λ i. get_or d (x.a + x.v + i) 0) x.b (x.n - x.v) d e = search rules in
    let fits : at + k ≤ length e = omega (arith, copied.len) in
    let part = mid_of at k e in
    let filled : Changed (λ i. 0) 0 (length part) part c.fill.new.self = grind (arith, common_steps) in
    stripped x.a x.b x.v x.n c.requires.1 copied (lift (λ i. 0) at at k x.v fits filled (omega (arith, len_mid at k e fits)) (omega arith) (omega arith) (λ j l. refl))
