-- Any two outcomes that the contract of `derive` allows are equal.
use mathlib.Core.Path.{◌≡◌, ap, sym, ◌∙◌}
use Rattle.std.specs.Prelude.{Result, Ok, Err}
use Rattle.rules.specs.Outcome.{Derived as Outcome, setting_call}
use Rattle.causes.specs.declared.Refusal.{Refusal}
use Rattle.causes.proofs.Number.{never_zero, same_cause}
use Rattle.setting.specs.declared.Setting.{Setting}
use Rattle.setting.specs.declared.Derived.{Derived}
use Rattle.setting.specs.Call.{asked, outcome}

same : (a b : Result Derived Refusal) → outcome a ≡ outcome b → a ≡ b
same (Ok a) (Ok b) e = ap (λ (o : Outcome). Ok (record { w = o.W; l = o.ℓ; c = o.C; u = o.U; r = o.R })) e
same (Ok a) (Err d) e = absurd (never_zero d (sym (ap (λ (o : Outcome). o.refusal) e)))
same (Err c) (Ok b) e = absurd (never_zero c (ap (λ (o : Outcome). o.refusal) e))
same (Err c) (Err d) e = ap Err (same_cause c d (ap (λ (o : Outcome). o.refusal) e))

pub unique : (setting : Setting) (a b : Result Derived Refusal) → outcome a ≡ setting_call (asked setting) → outcome b ≡ setting_call (asked setting) → a ≡ b
unique setting a b e f = same a b (e ∙ sym f)
