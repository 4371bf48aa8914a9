-- candidates: each turn writes the line of one message more.
use Prim.Native.Nat.{◌+◌, ◌*◌}
use native.Mathlib.Omega.{arith}
use Rattle.buffers.proofs.Rows.{row_end, row_fits}
use Rattle.text.proofs.Written.{writes_none, writes_then, writes_as, writes_room}
use Rattle.demands.proofs.Runs.{run_long}
use Rattle.bodies.proofs.Lines.{lines_none, lines_more}
use Rattle.bodies.proofs.candidates.Goals as goal

pub loop-j-init : goal.loop-j-init
loop-j-init c = record { short = omega arith; wrote = writes_as (writes_none _) (lines_none _ _) }

pub plus_line-requires : goal.plus_line-requires
plus_line-requires c =
    let l = c.loop-j in
    let x = c.args in
    let f = row_fits {t = l.j} {n = x.found} x.k c.loop-j-test.true in
    omega (
      arith,
      row_fits {t = l.j} {n = x.found} (x.k * 6 + 2) c.loop-j-test.true,
      run_long (l.j * x.k) x.k x.list.now (omega arith),
      writes_room l.invariant.wrote,
    )

pub loop-j-preserved : goal.loop-j-preserved
loop-j-preserved c =
    let l = c.loop-j in
    let x = c.args in
    let w = c.plus_line.ensures in
    let f = row_fits {t = l.j} {n = x.found} x.k c.loop-j-test.true in record {
      short = omega (arith, row_end l.j (x.k * 6 + 2), w.0, run_long (l.j * x.k) x.k x.list.now (omega arith));
      wrote = writes_as (writes_then l.invariant.wrote w.1) (lines_more x.k l.j _ x.list.now (omega arith));
    }
