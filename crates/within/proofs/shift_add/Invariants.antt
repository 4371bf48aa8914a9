-- shift_add: the run is moved and added to up to the place i, and last is what the next place moves.
use Rattle.std.proofs.Common.{◌≡◌}
use Rattle.buffers.specs.Change.{Changed}
use Rattle.within.specs.Runs.{moved, shifted}
use Rattle.within.proofs.shift_add.Given as goal

abbrev pub invariant-loop-i : goal.invariant-loop-i
invariant-loop-i l = (l.last ≡ moved l.initial.work l.b l.i) × Changed (shifted l.field.q l.c l.initial.work l.a l.b) l.b l.i l.initial.work l.work
