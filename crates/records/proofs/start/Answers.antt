-- start: no turn was taken, and nothing is held.
use Rattle.std.proofs.Common.{refl}
use Rattle.kinds.specs.Holding.{stock}
use Rattle.records.proofs.start.Goals as goal

pub returns : goal.returns
unfolding stock
returns c = refl
