-- check, return by return: what it knows there, and that it answers as the definition says.
use mathlib.Core.Path.{◌≡◌, refl, sym, ◌∙◌}
use mathlib.Core.Bool.{Bool}
use mathlib.Core.List.{List, [], ◌∷◌}
use Prim.Native.Nat.{ℕ}
use borrow.Author.Tests.{ne_eqb}
use Rattle.rules.specs.Field.{ops}
use Rattle.rules.specs.Code.{triples}
use Rattle.rules.specs.Curve.{passes}
use Rattle.rules.specs.Setting.{Setting}
use Rattle.rules.specs.Refusal.{◌of◌, lowest, point_causes, curve_causes, check_refusal}
use Rattle.rules.specs.Outcome.{check_call}
use Rattle.std.specs.Prelude.{Result, Ok, Err}
use Rattle.causes.specs.declared.Refusal.{Refusal}
use Rattle.causes.specs.Number.{number}
use Rattle.causes.proofs.Number.{never_zero}
use Rattle.terms.specs.declared.Terms.{Terms}
use Rattle.terms.specs.Terms.{Settled, Posed}
use Rattle.reader.specs.Calls.{checked}
use Rattle.terms.proofs.First.{setting_refuses, others_decide}
use Rattle.rules.proofs.Given.{Given, given}
use Rattle.reader.proofs.Settled.{fits_is}

-- the number is told, and where it is 0 the slices are as they should be
pub record CheckTested (S : Setting) (t : Terms) (points word Q : List ℕ) (number : ℕ) : Type 0 where
  pub settled : Settled S t
  pub is : number ≡ check_refusal S points word Q
  pub granted : number ≡ 0 → Given S.p S.n points ((S.n of word) ∷ (t.size of Q) ∷ [])

module _ (S : Setting) (points word Q : List ℕ) where
  refused : {r : Result Bool Refusal} {cause : Refusal} → r ≡ Err cause → number cause ≡ check_refusal S points word Q
      → checked r ≡ check_call S points word Q
  unfolding check_call
  refused {cause = cause} is e = rw (is, ← e) (simp (ne_eqb (number cause) 0 (never_zero cause)) refl)

module _ {S : Setting} (points word Q : List ℕ) where
  pub check_unsettled : {r : Result Bool Refusal} {cause : Refusal} → r ≡ Err cause → Posed S (Err cause) → checked r ≡ check_call S points word Q
  unfolding check_refusal
  check_unsettled is posed = refused S points word Q is (setting_refuses (curve_causes S points word Q) posed)

  pub check_tested : {t : Terms} → Posed S (Ok t)
      → {number : ℕ} → number ≡ lowest (point_causes S.p S.n points ((S.n of word) ∷ (t.size of Q) ∷ []))
      → CheckTested S t points word Q number
  unfolding check_refusal curve_causes
  check_tested posed e = record {
    settled = posed.settled;
    is = e ∙ rw posed.settled.is_size (others_decide (curve_causes S points word Q) posed);
    granted = λ none. given S.p S.n points _ (sym e ∙ none);
  }

module _ {S : Setting} {t : Terms} {points word Q : List ℕ} where
  pub check_refused : {r : Result Bool Refusal} {cause : Refusal} → r ≡ Err cause → CheckTested S t points word Q (number cause)
      → checked r ≡ check_call S points word Q
  check_refused is h = refused S points word Q is h.is

  pub check_accepted : CheckTested S t points word Q 0
      → {b : Bool} → b ≡ passes (ops t.shape.field.q) t.shape.k t.shape.w t.shape.l (triples t.s points word) Q
      → checked (Ok b) ≡ check_call S points word Q
  unfolding check_call
  check_accepted h e = rw (← h.is, e ∙ fits_is h.settled points word Q) refl
