-- reduce: the first t rows are treated.
use Rattle.slots.specs.Slot.{mixed_at, Treated}
use Rattle.slots.proofs.reduce.Given as goal

abbrev pub invariant-loop-t : goal.invariant-loop-t
invariant-loop-t l = Treated (mixed_at l.shape.field.q l.c l.shape.w l.initial.work l.from l.to) l.to l.shape.k l.shape.w l.t l.initial.work l.work
