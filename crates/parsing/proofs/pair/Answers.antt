-- pair: number j has the bytes 2·j and 2·j + 1.
use Rattle.std.proofs.Common.{◌∙◌}
use Rattle.parsing.proofs.Pairs.{pair_at}
use Rattle.parsing.proofs.pair.Goals as goal

pub returns : goal.returns
returns c = c.from_le_bytes.ensures ∙ pair_at c.args.bytes.now c.args.j c.requires
