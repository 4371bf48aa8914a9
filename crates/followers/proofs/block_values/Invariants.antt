-- block_values: the rows from t on are taken in: acc has the values of what they begin with.
use Rattle.followers.proofs.Blocks.{Partly}
use Rattle.followers.proofs.block_values.Given as goal

abbrev pub invariant-loop-t : goal.invariant-loop-t
invariant-loop-t l = Partly l.rows.field.q l.first l.rows.w l.rows.l l.b l.t l.work l.acc
