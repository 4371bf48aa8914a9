-- weighted: the test of each row, by the lemmas of Tests and Clear.
use mathlib.Core.Path.{refl, ◌∙◌}
use Rattle.std.proofs.Common.{rules, tests, arith, ◌+◌}
use Rattle.std.proofs.lemmas.Iterator.{YieldsList-from_range}
use Rattle.std.proofs.lemmas.Iterator.Search.{all_from_yields_List}
use Rattle.rules.specs.Curve.{weighted, coefficient}
use Rattle.runs.specs.Runs.{blank}
use Rattle.weights.proofs.Pairing.{row_inside}
use Rattle.multiplicity.proofs.Tests.{below_all, below_same}
use Rattle.curve.specs.Behind.{behind}
use Rattle.curve.proofs.Clear.{behind_zero}
use Rattle.curve.proofs.weighted.Goals as goal

pub returns : goal.returns
unfolding weighted coefficient
returns c =
    let x = c.args in
    let shape = x.curve.shape in
    all_from_yields_List (λ t. blank (behind shape.k shape.w t x.curve.numbers.now)) _ _ _ c.all.ensures.ran
    (YieldsList-from_range 0 (shape.l + 1) (shape.l + 1) refl (omega arith)) (λ x b q k. search (rules, tests))
    ∙ below_all _ (shape.l + 1)
    ∙ below_same _ _ (shape.l + 1) (λ t l.
    let r = row_inside shape.k shape.w shape.l t shape.shaped.fits (omega arith) in
    behind_zero shape.field.q shape.k shape.w t x.curve.numbers.now c.requires r.0 (omega (arith, x.curve.whole)))
