-- Field::new: a modulus is at least two.
use Rattle.std.proofs.Common.{arith}
use Rattle.prime.proofs.Below.{modulus_two}
use Rattle.symbols.proofs.Field.new.Goals as goal

pub reciprocal-requires : goal.reciprocal-requires
reciprocal-requires c = omega (arith, modulus_two c.args.q c.requires)
