-- raise: the first t rows are treated.
use Rattle.slots.specs.Slot.{raised_at, Treated}
use Rattle.slots.proofs.raise.Given as goal

abbrev pub invariant-loop-t : goal.invariant-loop-t
invariant-loop-t l = Treated (raised_at l.shape.field.q l.c l.shape.w l.initial.work l.at) l.at l.shape.k l.shape.w l.t l.initial.work l.work
