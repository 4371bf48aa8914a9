-- An outcome is decided by the call's refusal number: where that is 0 it is the accepted one, and else the refused one.
use mathlib.Core.Path.{◌≡◌, refl, sym, ap, ◌∙◌}
use mathlib.Core.Bool.{cond}
use mathlib.Core.List.{List, flatten}
use Prim.Native.Nat.{ℕ}
use native.Mathlib.Decide.{ℕ_discrete}
use lib.Dec.{eqb}
use lib.ListN.{length}
use borrow.Author.Tests.{eq-eqb, ne_eqb}
use Rattle.rules.specs.Setting.{Setting, R}
use Rattle.rules.specs.Refusal.{find_refusal, list_refusal, read_refusal}
use Rattle.rules.specs.Outcome.{Finding, Listing, Reading, over, cleared, used, list_of, tried_of, find_call, list_call, read_call, Finds, Reads}

module _ {A : Type 0} (refusal : A → ℕ) (number : ℕ) (good bad : A) where
  pub record Decided (o : A) : Type 0 where
    pub is_number : refusal o ≡ number
    pub accepted : number ≡ 0 → o ≡ good
    pub refused : ¬ (number ≡ 0) → o ≡ bad

  decided : refusal good ≡ 0 → refusal bad ≡ number → {o : A} → o ≡ cond (eqb number 0) good bad → Decided o
  decided good_0 bad_is {o} e = go (ℕ_discrete number 0)
    where
      go : Dec (number ≡ 0) → Decided o
      go (yes z) =
          let is = e ∙ ap (λ b. cond b good bad) (eq-eqb number 0 z) in
          record { is_number = ap refusal is ∙ good_0 ∙ sym z; accepted = λ _. is; refused = λ n. absurd (n z) }
      go (no n) =
          let is = e ∙ ap (λ b. cond b good bad) (ne_eqb number 0 n) in
          record { is_number = ap refusal is ∙ bad_is; accepted = λ z. absurd (n z); refused = λ _. is }

module _ (S : Setting) (points word curve work : List ℕ) where
  abbrev pub find_number : ℕ
  find_number = find_refusal S points word (length curve) (length work)

  pub find_decided : {o : Finding} → Finds S points word curve work o
      → Decided (λ (o : Finding). o.refusal) find_number
      (record { refusal = 0; found = 0; tried = 0; curve = over (used S o.curve) curve; work = cleared (R S) work })
      (record { refusal = find_number; found = 0; tried = 0; curve = curve; work = work }) o
  unfolding find_call
  find_decided h = decided _ _ _ _ refl refl h.rest

module _ (S : Setting) (points word Q output work : List ℕ) where
  abbrev pub list_number : ℕ
  list_number = list_refusal S points word Q (length output) (length work)

  pub list_decided : {o : Listing} → o ≡ list_call S points word Q output work → let fs = list_of S points word Q in
      Decided (λ (o : Listing). o.refusal) list_number
      (record { refusal = 0; found = length fs; tried = tried_of S Q; output = over (flatten fs) output; work = cleared (R S) work })
      (record { refusal = list_number; found = 0; tried = 0; output = output; work = work }) o
  unfolding list_call
  list_decided e = decided _ _ _ _ refl refl e

module _ (S : Setting) (points word output curve work : List ℕ) where
  abbrev pub read_number : ℕ
  read_number = read_refusal S points word (length output) (length curve) (length work)

  pub read_decided : {o : Reading} → Reads S points word output curve work o → let Q = used S o.curve in let fs = list_of S points word Q in
      Decided (λ (o : Reading). o.refusal) read_number
      (record { refusal = 0; found = length fs; tried = tried_of S Q; output = over (flatten fs) output; curve = over Q curve; work = cleared (R S) work })
      (record { refusal = read_number; found = 0; tried = 0; output = output; curve = curve; work = work }) o
  unfolding read_call
  read_decided h = decided _ _ _ _ refl refl h.rest
