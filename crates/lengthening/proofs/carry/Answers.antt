-- carry: the rows from u on and before t are carried.
use native.Mathlib.Omega.{arith}
use Rattle.lengthening.proofs.Rows.{carrying_more, carrying_to, carried_last}
use Rattle.lengthening.proofs.carry.Goals as goal

pub loop-t-preserved : goal.loop-t-preserved
loop-t-preserved c = carrying_more c.loop-t.t (omega arith) c.loop-t.invariant c.shift_add.ensures

pub returns : goal.returns
returns c = carried_last c.args.rows.l c.requires.0 (carrying_to c.loop-t.invariant (omega arith)) c.shift.ensures
