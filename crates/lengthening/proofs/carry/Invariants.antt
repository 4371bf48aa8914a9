-- carry: the rows from u on and before t are carried.
use Rattle.lengthening.proofs.Rows.{Carrying}
use Rattle.lengthening.proofs.carry.Given as goal

abbrev pub invariant-loop-t : goal.invariant-loop-t
invariant-loop-t l = Carrying l.rows.field.q l.g l.rows.w l.u l.t l.initial.work l.work
