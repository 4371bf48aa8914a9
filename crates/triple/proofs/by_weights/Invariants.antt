-- by_weights: the conditions of the first b orders in y are met.
use mathlib.Core.Path.{◌≡◌}
use mathlib.Core.List.{flat_map}
use Prim.Native.Nat.{ℕ, ◌+◌}
use lib.ListN.{length}
use Rattle.rules.specs.Lists.{below}
use Rattle.algebra.specs.Conditions.{conditions_along}
use Rattle.weights.specs.Weights.{Weights}
use Rattle.triple.specs.Grown.{triple, Grown}
use Rattle.triple.proofs.by_weights.Given as goal

abbrev pub invariant-loop-b : goal.invariant-loop-b
invariant-loop-b l =
    let h = l.initial.basis.shape in
    (l.basis.shape ≡ h) × (l.basis.work.ghost_name ≡ l.initial.basis.work.ghost_name) × (length l.basis.work.now ≡ length l.initial.basis.work.now) ×
    ((r : ℕ) → Weights h.field.q l.alpha l.m h.w l.xs → Weights h.field.q r l.m (h.l + 1) l.ys →
    Grown h.field.q h.k h.w h.l (λ g. flat_map (conditions_along (triple h.field.q g l.alpha r l.m)) (below l.b))
    l.initial.basis.leads l.basis.leads l.initial.basis.work.now l.basis.work.now)
