-- kind: the kind is the second number.
use Rattle.rules.specs.Patch.{kind}
use Rattle.parsing.proofs.Record.kind.Goals as goal

pub returns : goal.returns
unfolding kind
returns c = c.pair.ensures
