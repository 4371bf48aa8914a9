-- take_word: where points are held, what read_word did; the check finds the 12 of the others by itself.
use Rattle.kinds.proofs.Turns.{did_as}
use Rattle.words.proofs.Answered.{word_ready}
use Rattle.words.proofs.take_word.Goals as goal

pub read_word-requires : goal.read_word-requires
read_word-requires c = (rw c.in-Ready.is at c.requires.0, c.requires.1)

pub returns-in-Ready-clause-did : goal.returns-in-Ready-clause-did
returns-in-Ready-clause-did c = did_as c.read_word.ensures.did (word_ready _ _ c.in-Ready.is)
