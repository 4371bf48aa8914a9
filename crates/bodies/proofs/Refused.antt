-- The refusal numbers of setting and points records: when a setting is refused, and what holds of accepted points.
use mathlib.Core.Path.{◌≡◌, sym, ◌∙◌}
use mathlib.Core.List.{List, [], ◌∷◌}
use Prim.Native.Nat.{ℕ, ◌<◌, ◌≤◌}
use lib.Dec.{ltb}
use borrow.Author.Tests.{lt-ltb, le-ltb}
use Rattle.rules.specs.Setting.{Setting, R}
use Rattle.rules.specs.Refusal.{◌if◌, lowest, setting_causes, setting_refusal}
use Rattle.rules.specs.Patch.{program_work, setting_record_refusal, points_refusal}
use Rattle.rules.proofs.Lowest.{named, first_refuses, first_accept}
use Rattle.rules.proofs.Given.{Given, given}

module _ (S : Setting) where
  -- what the setting call refuses is refused
  pub call_refuses : {r : ℕ} → r ≡ setting_refusal S → ¬ (r ≡ 0) → r ≡ setting_record_refusal S
  unfolding setting_refusal setting_record_refusal
  call_refuses e h = first_refuses (setting_causes S) _ e h

  call_accepts : setting_refusal S ≡ 0 → setting_record_refusal S ≡ lowest ((8 if ltb program_work (R S)) ∷ [])
  unfolding setting_refusal setting_record_refusal setting_causes named
  call_accepts z = first_accept (setting_causes S) _ tt z

  pub too_much_work : setting_refusal S ≡ 0 → 24000 < R S → 8 ≡ setting_record_refusal S
  unfolding program_work lowest
  too_much_work z l = sym (call_accepts z ∙ simp (lt-ltb 24000 (R S) l))

  pub enough_work : setting_refusal S ≡ 0 → R S ≤ 24000 → 0 ≡ setting_record_refusal S
  unfolding program_work lowest
  enough_work z l = sym (call_accepts z ∙ simp (le-ltb 24000 (R S) l))

  -- what holds of accepted points
  pub points_given : (points : List ℕ) → points_refusal S points ≡ 0 → Given S.p S.n points []
  unfolding points_refusal
  points_given points z = given S.p S.n points [] z
