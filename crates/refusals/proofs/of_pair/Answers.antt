-- of_pair: an empty run that has to be empty adds no cause.
use Rattle.rules.specs.Lists.{all}
use Rattle.rules.specs.Refusal.{long, under, symbol_causes, point_causes}
use Rattle.refusals.proofs.of_pair.Goals as goal

pub returns : goal.returns
unfolding point_causes symbol_causes all long under
returns c = c.of_proposed.ensures
