-- substitute: the rows from u on hold the step of the rows from u on of the curve.
use mathlib.Core.Path.{◌≡◌}
use Prim.Native.Nat.{suc, ◌-◌}
use native.Mathlib.Omega.{arith}
use Rattle.lengthening.proofs.Stepping.{stepping_none, stepping_more, stepping_to}
use Rattle.lengthening.proofs.substitute.Goals as goal

pub loop-u-init : goal.loop-u-init
loop-u-init c =
    let x = c.args in
    stepping_none x.rows.field.q x.rows.field.is_modulus x.g c.requires.0 x.rows.w x.rows.l x.work.now c.requires.2

pub loop-u-preserved : goal.loop-u-preserved
loop-u-preserved c =
    let x = c.args in
    let u = c.loop-u.u in
    let f : u ≡ suc (u - 1) = omega arith in
    stepping_more x.rows.field.q x.rows.field.is_modulus x.g c.requires.0 x.rows.w x.rows.l x.work.now c.requires.2 (u - 1) (omega arith) (stepping_to c.loop-u.invariant f) c.take_row.ensures
