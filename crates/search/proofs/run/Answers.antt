-- run: the curve of the spare is stripped into the first slot behind it, where the visit starts.
use mathlib.Core.Path.{refl, sym}
use Prim.Native.Nat.{◌+◌, ◌*◌}
use native.Mathlib.Omega.{arith}
use Rattle.followers.proofs.Heads.{run_front}
use Rattle.search.proofs.Start.{started, given}
use Rattle.search.proofs.run.Goals as goal

pub visit-requires : goal.visit-requires
visit-requires c =
    let x = c.args in
    let S = (x.sizes.rows.l + 1) * x.sizes.rows.w in
    let e = c.size-size.ensures in
    rw e (started x.sizes c.requires (rw e at c.strip.ensures) refl (λ j m. sym (run_front S x.work.now j m)) _ (omega (arith, c.requires.few)))

pub returns : goal.returns
returns c =
    let x = c.args in
    let S = (x.sizes.rows.l + 1) * x.sizes.rows.w in
    let e = c.size-size.ensures in
    given x.sizes c.requires (rw e at c.strip.ensures) refl (λ j m. sym (run_front S x.work.now j m)) (rw e at c.visit.ensures)
