-- Field::add: the remainder of the sum is the definition.
use Rattle.rules.specs.Field.{plus}
use Rattle.symbols.proofs.Field.add.Goals as goal

pub returns : goal.returns
unfolding plus
returns c = cc
