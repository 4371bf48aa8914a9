-- take_row: what the two calls change, put together.
use Rattle.lengthening.proofs.Rows.{row_taken}
use Rattle.lengthening.proofs.take_row.Goals as goal

pub returns : goal.returns
returns c = row_taken c.args.rows.l c.requires.0 c.add_within.ensures c.carry.ensures
