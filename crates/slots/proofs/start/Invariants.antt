-- start: all is cleared, and the first j curves have their one.
use Rattle.slots.proofs.Seed.{Seeded}
use Rattle.slots.proofs.start.Given as goal

abbrev pub invariant-loop-j : goal.invariant-loop-j
invariant-loop-j l = Seeded l.shape.w l.shape.l l.j l.initial.work l.work
