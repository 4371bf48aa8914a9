-- sift: nothing is kept of no messages; and the message in hand, cut from those found, is kept as the next is.
use Prim.Native.Nat.{◌+◌, ◌-◌, ◌*◌, ◌≤◌}
use lib.ListN.{length, take, drop}
use Rattle.buffers.proofs.Rows.{row_fits}
use Rattle.sift.specs.Sift.{scores}
use Rattle.demands.proofs.Runs.{run_is, run_long}
use Rattle.sift.proofs.Sifted.{at_most, sift_none, sift_more}
use native.Mathlib.Omega.{arith}
use Rattle.sift.proofs.sift.Goals as goal

pub loop-i-init : goal.loop-i-init
loop-i-init c = (omega arith, sift_none _ _ _ _ _ _ _ _)

pub loop-i-preserved : goal.loop-i-preserved
loop-i-preserved c =
    let k = c.args.k in
    let z = c.args.triples in
    let a = c.loop-i.i * k in
    let message = take (a + k - a) (drop a c.args.found.now) in
    let enough = scores c.args.field.q c.args.least z.points.now z.word.now z.times.now message in
    let within : a + k ≤ length c.args.found.now = omega (arith, row_fits {t = c.loop-i.i} {n = c.args.count} k c.loop-i-test.true, c.requires.3) in (
      omega (arith, c.loop-i.invariant.0, c.keep-kept.ensures.number, at_most enough c.loop-i.kept),
      sift_more _ _ _ _ _ _ _ _ c.loop-i.i c.loop-i.kept _ c.loop-i.invariant.1 (run_is _ k c.args.found.now)
          (run_long _ k c.args.found.now within) (omega (arith, within)) c.keep-kept.ensures,
    )
