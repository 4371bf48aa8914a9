-- Field::euclid: Factors.antt has what a call is handed and what its answer is good for.
use Rattle.std.proofs.Common.{arith}
use Rattle.symbols.proofs.Factors.{hands, answers}
use Rattle.symbols.proofs.Field.+euclid.Goals as goal

pub euclid-requires : goal.euclid-requires
euclid-requires t c = let n = hands _ _ _ _ _ c.requires c.mul_add.ensures c.if-r1-eq1.false in (omega (arith, n.falls), n)

pub returns : goal.returns
returns t c = answers _ _ _ _ _ c.requires c.mul_add.ensures c.euclid.ensures
