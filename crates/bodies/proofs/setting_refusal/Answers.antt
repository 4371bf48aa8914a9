-- setting_refusal: what the setting call refuses, and 8 by the room R that it gives.
use mathlib.Core.Path.{sym, ap, ◌∙◌}
use native.Mathlib.Omega.{arith}
use Rattle.std.proofs.Common.{Ok, Err}
use Rattle.causes.specs.Number.{refused}
use Rattle.causes.proofs.Number.{never_zero, passed_on}
use Rattle.setting.proofs.Taken.{refusal_is, taken}
use Rattle.bodies.proofs.Refused.{call_refuses, too_much_work, enough_work}
use Rattle.bodies.proofs.setting_refusal.Goals as goal

pub returns-in_err-derived : goal.returns-in_err-derived
returns-in_err-derived c =
    let cause = c.in_err-derived.field-0.0 in
    ap refused (passed_on _ c.from_residual.ensures.1) ∙ call_refuses _ (refusal_is _ (Err cause) c.in_err-derived.ensures) (never_zero cause)

pub returns-then-derived-gt-WORK : goal.returns-then-derived-gt-WORK
returns-then-derived-gt-WORK c =
    let d = c.in_ok-derived in
    too_much_work _ (sym (refusal_is _ (Ok d.derived) d.ensures)) (omega (arith, (taken _ d.derived d.ensures).is_R))

pub returns : goal.returns
returns c =
    let d = c.in_ok-derived in
    enough_work _ (sym (refusal_is _ (Ok d.derived) d.ensures)) (omega (arith, (taken _ d.derived d.ensures).is_R))
