-- along: the goals that the search leaves, by the lemmas of Grow.
use mathlib.Core.Path.{◌≡◌, refl, ◌∙◌}
use Rattle.triple.proofs.Grow.{row_part, along_none, along_more}
use native.Mathlib.Omega.{arith}
use Rattle.triple.proofs.along.Goals as goal

pub loop-a-init : goal.loop-a-init
loop-a-init c = (refl, refl, refl, λ r b m X Y. along_none _ _ _ _ _ r m b _ _)

pub loop-a-preserved : goal.loop-a-preserved
loop-a-preserved c =
    let o = c.loop-a in
    let d = c.condition in (
      d.ensures.same ∙ o.invariant.0,
      d.ensures.lent ∙ o.invariant.1,
      d.ensures.long ∙ o.invariant.2,
      λ r b m X Y. along_more _ _ _ _ _ r m b o.a (o.invariant.3 r b m X Y) (rw o.invariant.0 at d.ensures.met)
          (row_part o.a c.row.ensures.0 X (omega arith) (omega (arith, c.requires.0)) c.args.basis.now.shape.shaped.narrow) Y,
    )

pub returns : goal.returns
returns c =
    let o = c.loop-a in
    let z : o.a ≡ c.args.n = omega arith in
    record { same = o.invariant.0; lent = o.invariant.1; long = o.invariant.2; grown = λ r b m X Y. rw z at (o.invariant.3 r b m X Y) }
