-- along: the conditions of the first a orders in x are met.
use mathlib.Core.Path.{◌≡◌}
use mathlib.Core.List.{map}
use Prim.Native.Nat.{ℕ, ◌+◌}
use lib.ListN.{length}
use Rattle.rules.specs.Lists.{below}
use Rattle.algebra.specs.Conditions.{condition}
use Rattle.weights.specs.Weights.{Weights}
use Rattle.condition.specs.Kept.{Row}
use Rattle.triple.specs.Grown.{triple, Grown}
use Rattle.triple.proofs.along.Given as goal

abbrev pub invariant-loop-a : goal.invariant-loop-a
invariant-loop-a l =
    let h = l.initial.basis.shape in
    (l.basis.shape ≡ h) × (l.basis.work.ghost_name ≡ l.initial.basis.work.ghost_name) × (length l.basis.work.now ≡ length l.initial.basis.work.now) ×
    ((r b m : ℕ) → Weights h.field.q l.alpha l.n h.w l.xs → Row h.field.q r b (h.l + 1) l.y →
    Grown h.field.q h.k h.w h.l (λ g. map (condition (triple h.field.q g l.alpha r m) b) (below l.a)) l.initial.basis.leads l.basis.leads
    l.initial.basis.work.now l.basis.work.now)
