-- holds_with: the test of each order, by the lemmas of Tests.
use mathlib.Core.Path.{refl, ◌∙◌}
use lib.Dec.{eqb}
use Rattle.std.proofs.Common.{rules, tests, arith, ◌+◌}
use Rattle.std.proofs.lemmas.Iterator.{YieldsList-from_range}
use Rattle.std.proofs.lemmas.Iterator.Search.{all_from_yields_List}
use Rattle.weights.specs.Value.{pairing}
use Rattle.multiplicity.specs.Met.{line, zero_with}
use Rattle.multiplicity.proofs.Tests.{below_all}
use Rattle.multiplicity.proofs.holds_with.Goals as goal

pub returns : goal.returns
unfolding zero_with
returns c =
    let x = c.args in
    let shape = x.curve.shape in
    all_from_yields_List (λ b. eqb (pairing shape.field.q shape.k shape.w shape.l x.x.now (line b (shape.l + 1) x.ys.now) x.curve.numbers.now) 0) _ _ _ c.all.ensures.ran
    (YieldsList-from_range 0 x.n x.n refl (omega arith)) (λ x b q k. search (rules, tests))
    ∙ below_all _ x.n
