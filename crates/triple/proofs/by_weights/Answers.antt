-- by_weights: the goals that the search leaves, by the lemmas of Weights and Grow.
use mathlib.Core.Path.{◌≡◌, refl, ◌∙◌}
use Rattle.weights.proofs.Weights.{fewer}
use Rattle.triple.proofs.Grow.{row_part, orders_none, orders_more, orders_all}
use native.Mathlib.Omega.{arith}
use Rattle.triple.proofs.by_weights.Goals as goal

pub loop-b-init : goal.loop-b-init
loop-b-init c = (refl, refl, refl, λ r X Y. orders_none _ _ _ _ _ r _ _ _)

pub loop-b-preserved : goal.loop-b-preserved
loop-b-preserved c =
    let a = c.args in
    let o = c.loop-b in
    let d = c.along in (
      d.ensures.same ∙ o.invariant.0,
      d.ensures.lent ∙ o.invariant.1,
      d.ensures.long ∙ o.invariant.2,
      λ r X Y. orders_more _ _ _ _ _ r _ o.b (o.invariant.3 r X Y)
          ((rw o.invariant.0 at d.ensures.grown) r o.b a.m (fewer X (omega arith))
          (row_part o.b c.row.ensures.0 Y (omega arith) (omega (arith, c.requires)) (omega (arith, a.basis.now.shape.shaped.few)))),
    )

pub returns : goal.returns
returns c =
    let o = c.loop-b in
    let z : o.b ≡ c.args.m = omega arith in
    record { same = o.invariant.0; lent = o.invariant.1; long = o.invariant.2; grown = λ r X Y. orders_all _ _ _ _ _ r _ (rw z at (o.invariant.3 r X Y)) }
