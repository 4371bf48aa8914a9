-- through: the rows made are the weights of the triple's conditions.
use mathlib.Core.Path.{◌∙◌}
use native.Mathlib.Omega.{arith}
use Rattle.multiplicity.proofs.Conditions.{below_met}
use Rattle.multiplicity.proofs.through.Goals as goal

pub returns : goal.returns
returns c =
    let x = c.args in
    let shape = x.curve.shape in
    c.holds.ensures
    ∙ below_met shape.field.q shape.k shape.w shape.l x.curve.numbers.now (record { point = x.alpha; symbol = x.symbol; times = x.m }) _ _
    shape.shaped.narrow (omega (arith, shape.shaped.few)) c.requires c.weigh_all.ensures c.weigh_all-2.ensures
