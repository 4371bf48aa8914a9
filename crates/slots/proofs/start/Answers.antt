-- start: the goals that the search leaves, by the lemmas of Seed.
use mathlib.Core.Path.{◌≡◌, ap}
use Prim.Native.Nat.{ℕ, ◌+◌, ◌*◌}
use Rattle.slots.proofs.Seed.{cleared, seeded_more, seeded_started}
use native.Mathlib.Omega.{arith}
use borrow.Author.Rules.{rules}
use Rattle.slots.proofs.start.Goals as goal

pub loop-j-preserved : goal.loop-j-preserved
loop-j-preserved c =
    let a = c.args.shape in
    let o = c.loop-j in
    seeded_more _ _ _ _ a.shaped.some (omega arith) o.invariant (rw c.size-size.ensures (omega arith)) (search rules)

pub returns : goal.returns
returns c =
    let a = c.args.shape in
    let o = c.loop-j in
    let z : o.j ≡ a.l + 1 = omega arith in
    let e = ap (λ (x : ℕ). (a.l + 1) * x) c.size-size.ensures in
    seeded_started _ _ _ (rw z at o.invariant) (λ m u. rw (c.fill.ensures.after (λ y h. h)) (cleared ((a.l + 1) * c.size-size.result) _ _ m (omega (arith, e)) (omega (arith, e))))
