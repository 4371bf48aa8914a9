-- write_patch: the first j numbers are the values at the first j points, and in the end all are.
use Rattle.std.proofs.Common.{get_or}
use Rattle.rules.specs.Field.{ops}
use Rattle.rules.specs.Code.{eval}
use Rattle.buffers.specs.Change.{Changed}
use Rattle.writing.proofs.write_patch.Given as goal

abbrev pub invariant-loop-j : goal.invariant-loop-j
invariant-loop-j l = Changed (λ i. eval (ops l.field.q) l.message (get_or l.points i 0)) 0 l.j l.initial.patch l.patch
