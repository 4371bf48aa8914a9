-- Field::mul_add: one remainder of the whole sum is what the definition reduces twice.
use Rattle.symbols.proofs.Reduce.{mixed_is}
use Rattle.symbols.proofs.Field.mul_add.Goals as goal

pub returns : goal.returns
returns c = let e = mixed_is c.args.self.q c.args.d c.args.c c.args.s in cc
