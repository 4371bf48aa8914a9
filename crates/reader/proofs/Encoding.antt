-- encode, return by return: what holds where it does not refuse, and that it answers as the definition says.
use mathlib.Core.Path.{◌≡◌, refl, sym, ap, ◌∙◌}
use mathlib.Core.Bool.{not}
use mathlib.Core.List.{List, [], ◌∷◌, ◌++◌}
use Prim.Native.Nat.{ℕ, ◌≤◌}
use native.Mathlib.Omega.{arith}
use lib.Dec.{T, ltb}
use lib.ListN.{length, drop}
use borrow.Author.Tests.{ltb-false, ne_eqb, not-false}
use Rattle.rules.specs.Field.{ops, modulus}
use Rattle.rules.specs.Setting.{code_ranges}
use Rattle.rules.specs.Code.{encode}
use Rattle.rules.specs.Refusal.{◌if◌, ◌of◌, encode_refusal}
use Rattle.rules.specs.Outcome.{encode_call}
use Rattle.std.specs.Prelude.{Result, Ok, Err}
use Rattle.causes.specs.declared.Refusal.{Refusal}
use Rattle.causes.specs.Number.{number}
use Rattle.causes.proofs.Number.{never_zero}
use Rattle.reader.specs.Calls.{encoded}
use Rattle.rules.proofs.Lowest.{none_first, none_parts}
use Rattle.rules.proofs.Given.{Given, given, point_named}
use Rattle.reader.proofs.Front.{over_front}
use Rattle.writing.proofs.Patch.{length_patch}

module _ (p n k : ℕ) (points message : List ℕ) (room : ℕ) where
  -- what an accepted call may assume
  pub record Encodes : Type 0 where
    pub field : T (modulus p)
    pub given : Given p n points ((k of message) ∷ [])
    pub fits : n ≤ room

  pub encodes : 0 ≡ encode_refusal p n k points message room → Encodes
  unfolding encode_refusal
  encodes z =
      let first = none_first 1 (not (modulus p)) _ (sym z) (λ e. omega arith) in
      let second = none_first 2 (not (code_ranges n k)) _ first.1 (λ e. omega arith) in
      let parts = none_parts _ ((8 if ltb room n) ∷ []) (point_named p n points _) second.1 in
      let last = none_first 8 (ltb room n) [] parts.1 (λ e. omega arith) in
      record {
        field = rw (not-false (modulus p) first.0) tt;
        given = given p n points _ parts.0;
        fits = ltb-false room n last.0;
      }

module _ (p n k : ℕ) (points message output : List ℕ) where
  pub encode_refused : {A : Type 0} {r : Result A Refusal} {cause : Refusal} → r ≡ Err cause
      → number cause ≡ encode_refusal p n k points message (length output) → encoded r output ≡ encode_call p n k points message output
  unfolding encode_call
  encode_refused {cause = cause} is e = rw (is, ← e) (simp (ne_eqb (number cause) 0 (never_zero cause)) refl)

  pub encode_accepted : {A : Type 0} (x : A) → 0 ≡ encode_refusal p n k points message (length output)
      → {patch : List ℕ} → patch ≡ encode (ops p) points message → length points ≡ n
      → encoded (Ok x) (patch ++ drop n output) ≡ encode_call p n k points message output
  unfolding encode_call
  encode_accepted x z e l = rw (← z, e) (ap (encoded (Ok x)) (over_front n output _ (length_patch p points message ∙ l)))
