-- holds: the test of each order, by the lemmas of Tests.
use mathlib.Core.Path.{refl, ◌∙◌}
use Rattle.std.proofs.Common.{rules, tests, arith, ◌-◌}
use Rattle.std.proofs.lemmas.Iterator.{YieldsList-from_range}
use Rattle.std.proofs.lemmas.Iterator.Search.{all_from_yields_List}
use Rattle.multiplicity.specs.Met.{line, zero_with, zero_below}
use Rattle.multiplicity.proofs.Tests.{below_all}
use Rattle.multiplicity.proofs.holds.Goals as goal

pub returns : goal.returns
unfolding zero_below
returns c =
    let x = c.args in
    let shape = x.curve.shape in
    all_from_yields_List (λ a. zero_with shape.field.q shape.k shape.w shape.l (x.m - a) (line a shape.w x.xs.now) x.ys.now x.curve.numbers.now) _ _ _ c.all.ensures.ran
    (YieldsList-from_range 0 x.m x.m refl (omega arith)) (λ x b q k. search (rules, tests))
    ∙ below_all _ x.m
