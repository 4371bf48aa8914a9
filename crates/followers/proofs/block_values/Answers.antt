-- block_values: the values of what the rows from t on begin with.
use native.Mathlib.Omega.{arith}
use Rattle.followers.proofs.Blocks.{partly_none, partly_more, partly_all}
use Rattle.followers.proofs.block_values.Goals as goal

pub loop-t-init : goal.loop-t-init
loop-t-init c = partly_none _ _ _ _ _ _

pub loop-t-preserved : goal.loop-t-preserved
loop-t-preserved c = partly_more c.loop-t.invariant c.args.rows.wide (omega arith) (omega arith) c.horner_block.ensures

pub returns : goal.returns
returns c = partly_all c.loop-t.invariant (omega arith)
