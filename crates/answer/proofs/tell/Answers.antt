-- tell: the front of the answer takes the results that it has places for.
use Rattle.std.proofs.Common.{rules}
use Rattle.answer.proofs.Told.{told_front}
use Rattle.answer.proofs.tell.Goals as goal

pub returns : goal.returns
returns c = rw c.copy_from_slice.ensures.after (told_front c.args.results.now c.args.answer.now c.min-count.result (search rules))
