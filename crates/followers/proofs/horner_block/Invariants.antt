-- horner_block: the first i values have the coefficient, and what is read at i is still the old one.
use Rattle.buffers.specs.Change.{Changed}
use Rattle.followers.specs.Followers.{horner_at}
use Rattle.followers.proofs.horner_block.Given as goal

abbrev pub invariant-loop-i : goal.invariant-loop-i
invariant-loop-i l = Changed (horner_at l.field.q l.first l.c l.initial.acc) 0 l.i l.initial.acc l.acc
