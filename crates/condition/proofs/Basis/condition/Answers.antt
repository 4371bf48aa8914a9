-- condition: where no alive curve misses it nothing changes, and otherwise the pivot makes the step.
use mathlib.Core.Path.{ap}
use Prim.Native.Nat.{ℕ, ◌+◌, ◌*◌}
use Rattle.buffers.proofs.Rows.{row_fits}
use Rattle.slots.specs.Slot.{slot}
use Rattle.condition.proofs.Values.{valued_below}
use Rattle.condition.proofs.Keep.{met_quiet, met_step}
use native.Mathlib.Omega.{arith}
use Rattle.condition.proofs.Basis.condition.Goals as goal

pub inverse-over-requires : goal.inverse-over-requires
inverse-over-requires c =
    let p = c.in-Some.p in
    rw (c.evaluate-values.ensures p (omega (arith, c.in-Some.ensures.alive.column))) (valued_below c.args.self.now.shape.shaped _ _ _ _ p)

pub raise-requires : goal.raise-requires
raise-requires c =
    let a = c.args.self.now.shape in
    let f = row_fits {t = c.in-Some.p} {n = a.l + 1} (slot a.w a.l) (omega (arith, c.in-Some.ensures.alive.column)) in
    rw c.size.ensures (omega (arith, f, c.args.self.now.room, c.sweep.ensures.len))

pub returns-in-Some-clause-met : goal.returns-in-Some-clause-met
returns-in-Some-clause-met c =
    let a = c.args in
    let P = c.in-Some.ensures in
    met_step a.self.now.shape.shaped a.alpha a.x.now a.y.now a.self.now.leads a.self.now.work.now _ a.self.now.fit c.evaluate-values.ensures
    P (omega (arith, P.alive.column, a.self.now.shape.shaped.few)) (omega (arith, P.alive.column, a.self.now.shape.shaped.few)) c.inverse-over.ensures
    c.sweep.ensures (rw (ap (λ (x : ℕ). c.in-Some.p * x) c.size.ensures) at c.raise.ensures)

pub returns-in_default-clause-met : goal.returns-in_default-clause-met
returns-in_default-clause-met c =
    let a = c.args in
    met_quiet a.self.now.shape.shaped a.alpha a.x.now a.y.now a.self.now.leads a.self.now.work.now _ a.self.now.fit c.evaluate-values.ensures c.in_default.ensures
