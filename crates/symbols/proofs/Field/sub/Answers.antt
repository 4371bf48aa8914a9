-- Field::sub: q less b's remainder is not below 0, and the remainder of the sum is the definition.
use Rattle.std.proofs.Common.{arith}
use Rattle.rules.specs.Field.{minus}
use Rattle.prime.proofs.Below.{reduced_below}
use Rattle.symbols.proofs.Field.sub.Goals as goal

pub overflow_sub-less : goal.overflow_sub-less
overflow_sub-less c = let f = c.args.self in omega (arith, reduced_below f.q f.is_modulus c.args.b, c.reduce.ensures, c.from.ensures)

pub returns : goal.returns
unfolding minus
returns c = cc
