-- add_within: of what is lent, only the first i numbers of the run are changed, as the loop has read them.
use Rattle.buffers.specs.Change.{Changed}
use Rattle.within.specs.Runs.{added}
use Rattle.within.proofs.add_within.Given as goal

abbrev pub invariant-loop-i : goal.invariant-loop-i
invariant-loop-i l = Changed (added l.field.q l.c l.initial.work l.a l.b) l.b l.i l.initial.work l.work
