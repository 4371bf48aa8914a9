-- divide: the first t rows are moved, and no others.
use Rattle.lengthening.specs.Lengthened.{Moved}
use Rattle.lengthening.proofs.divide.Given as goal

abbrev pub invariant-loop-t : goal.invariant-loop-t
invariant-loop-t l = Moved l.w l.t l.v l.b l.initial.work l.work
