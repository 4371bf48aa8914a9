-- copy: the first i numbers are those of src, and in the end all are.
use lib.ListN.{get_or}
use Rattle.buffers.specs.Change.{Changed}
use Rattle.runs.proofs.copy.Given as goal

abbrev pub invariant-loop-i : goal.invariant-loop-i
invariant-loop-i l = Changed (λ k. get_or l.src k 0) 0 l.i l.initial.dst l.dst
