-- sweep: the first j curves are swept.
use Rattle.slots.specs.Slot.{Swept}
use Rattle.slots.proofs.sweep.Given as goal

abbrev pub invariant-loop-j : goal.invariant-loop-j
invariant-loop-j l = Swept l.shape.field.q l.shape.k l.shape.w l.shape.l l.p l.over l.values l.j l.initial.work l.work
