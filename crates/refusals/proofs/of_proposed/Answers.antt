-- of_proposed: the first test that fails is the cause of its number.
use mathlib.Core.Path.{sym, ◌∙◌}
use mathlib.Core.Bool.{and-true}
use Rattle.rules.specs.Lists.{all}
use Rattle.rules.specs.Refusal.{lowest, symbol_causes, point_causes}
use Rattle.refusals.proofs.of_proposed.Goals as goal

pub returns-then-not-three_long : goal.returns-then-not-three_long
unfolding point_causes symbol_causes all lowest
returns-then-not-three_long c = simp (and-true, sym c.three_long.ensures ∙ c.if-not-three_long.true)

pub returns-then-not-three_below : goal.returns-then-not-three_below
unfolding point_causes symbol_causes all lowest
returns-then-not-three_below c =
    simp (and-true, sym c.three_long.ensures ∙ c.if-not-three_long.false, sym c.three_below.ensures ∙ c.if-not-three_below.true)

pub returns-then-not-all_distinct : goal.returns-then-not-all_distinct
unfolding point_causes symbol_causes all lowest
returns-then-not-all_distinct c =
    let long = sym c.three_long.ensures ∙ c.if-not-three_long.false in
    let below = sym c.three_below.ensures ∙ c.if-not-three_below.false in
    simp (and-true, long, below, sym c.all_distinct.ensures ∙ c.if-not-all_distinct.true)

pub returns : goal.returns
unfolding point_causes symbol_causes all lowest
returns c =
    let long = sym c.three_long.ensures ∙ c.if-not-three_long.false in
    let below = sym c.three_below.ensures ∙ c.if-not-three_below.false in
    simp (and-true, long, below, sym c.all_distinct.ensures ∙ c.if-not-all_distinct.false)
