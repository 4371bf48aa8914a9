-- Field::mul: the remainder of the product is the definition.
use Rattle.rules.specs.Field.{times}
use Rattle.symbols.proofs.Field.mul.Goals as goal

pub returns : goal.returns
unfolding times
returns c = cc
