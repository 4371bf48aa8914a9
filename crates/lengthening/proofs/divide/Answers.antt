-- divide: one more row is moved.
use Prim.Native.Nat.{◌+◌, ◌<◌}
use native.Mathlib.Omega.{arith}
use Rattle.buffers.proofs.Rows.{row_fits}
use Rattle.lengthening.proofs.Rows.{moved_more}
use Rattle.lengthening.proofs.divide.Goals as goal

pub loop-t-preserved : goal.loop-t-preserved
loop-t-preserved c =
    let l = c.loop-t in
    let f : l.t < c.args.l + 1 = omega arith in
    moved_more l.t (omega (arith, row_fits c.args.w f)) c.requires.0 l.invariant c.strip_run.ensures
