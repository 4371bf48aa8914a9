-- Every call tests the setting's causes first: where one applies it decides, and else the others do.
use mathlib.Core.Path.{◌≡◌, sym}
use mathlib.Core.List.{List, ◌++◌}
use lib.Dec.{T}
use Rattle.std.specs.Prelude.{Ok, Err}
use Rattle.rules.specs.Setting.{Setting}
use Rattle.rules.specs.Refusal.{Cause, lowest, setting_causes, setting_refusal}
use Rattle.rules.proofs.Lowest.{named, first_refuses, first_accept}
use Rattle.causes.specs.declared.Refusal.{Refusal}
use Rattle.causes.specs.Number.{number}
use Rattle.causes.proofs.Number.{never_zero}
use Rattle.terms.specs.declared.Terms.{Terms}
use Rattle.terms.specs.Terms.{Posed}

pub setting_named : (S : Setting) → T (named (setting_causes S))
unfolding setting_causes named
setting_named S = tt

module _ {S : Setting} (others : List Cause) where
  pub setting_refuses : {cause : Refusal} → Posed S (Err cause) → number cause ≡ lowest (setting_causes S ++ others)
  unfolding setting_refusal
  setting_refuses {cause} posed = first_refuses (setting_causes S) others posed.refusal (never_zero cause)

  pub others_decide : {t : Terms} → Posed S (Ok t) → lowest others ≡ lowest (setting_causes S ++ others)
  unfolding setting_refusal
  others_decide posed = sym (first_accept (setting_causes S) others (setting_named S) (sym posed.refusal))
