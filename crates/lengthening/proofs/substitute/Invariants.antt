-- substitute: the rows from u on hold what the step makes of the rows from u on of the curve.
use Rattle.lengthening.proofs.Stepping.{Stepping}
use Rattle.lengthening.proofs.substitute.Given as goal

abbrev pub invariant-loop-u : goal.invariant-loop-u
invariant-loop-u l = Stepping l.rows.field.q l.g l.rows.w l.rows.l l.u l.initial.work l.work
