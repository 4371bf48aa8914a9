-- What lent buffers of the same lengths held before the call changes neither the refusal of finding and reading nor the list of reading.
use mathlib.Core.Path.{◌≡◌, refl, sym, ap, ap₂, ◌∙◌}
use mathlib.Core.List.{List, [], flatten}
use Prim.Native.Nat.{ℕ, ◌-◌, ◌*◌}
use native.Mathlib.Nat.{zero-mul}
use native.Mathlib.Decide.{ℕ_discrete}
use lib.ListN.{length, take}
use lib.Seq.{take_at}
use Rattle.rules.specs.Field.{ops}
use Rattle.rules.specs.Code.{readings}
use Rattle.rules.specs.Setting.{Setting}
use Rattle.rules.specs.Refusal.{find_refusal}
use Rattle.rules.specs.Outcome.{Finding, Finds, Reading, Reads, over}
use Rattle.reader.specs.Alike.{SameList}
use Rattle.demands.proofs.Runs.{Long, flat_length, readings_long}
use Rattle.reader.proofs.Decided.{find_decided, read_number, read_decided}
use Rattle.reader.proofs.Readings.{read_reads}

-- messages of k numbers, written over a buffer, are found at its front
front : (k : ℕ) (fs : List (List ℕ)) → Long k fs → (output : List ℕ) {found : ℕ} {output' : List ℕ}
    → found ≡ length fs → output' ≡ over (flatten fs) output → take (found * k) output' ≡ flatten fs
unfolding over
front k fs l output e w = ap₂ (λ (n : ℕ) xs. take (n * k) xs) e w ∙ take_at (flatten fs) _ _ (flat_length k fs l)

module _ (S : Setting) (points word : List ℕ) {curve curve₂ work work₂ : List ℕ}
    (curves : length curve ≡ length curve₂) (works : length work ≡ length work₂) where
  pub find_whatever_held : (o o₂ : Finding) → Finds S points word curve work o → Finds S points word curve₂ work₂ o₂ → o.refusal ≡ o₂.refusal
  find_whatever_held o o₂ h h₂ =
      (find_decided S points word curve work h).is_number
      ∙ ap₂ (find_refusal S points word) curves works
      ∙ sym (find_decided S points word curve₂ work₂ h₂).is_number

  module _ {output output₂ : List ℕ} (outputs : length output ≡ length output₂) (o o₂ : Reading)
      (h : Reads S points word output curve work o) (h₂ : Reads S points word output₂ curve₂ work₂ o₂) where
    numbers : read_number S points word output curve work ≡ read_number S points word output₂ curve₂ work₂
    numbers = rw (outputs, curves, works) refl

    pub read_whatever_held : SameList S.k o o₂
    read_whatever_held = go (ℕ_discrete (read_number S points word output curve work) 0)
      where
        first : o.refusal ≡ read_number S points word output curve work
        first = (read_decided S points word output curve work h).is_number

        second : o₂.refusal ≡ read_number S points word output curve work
        second = (read_decided S points word output₂ curve₂ work₂ h₂).is_number ∙ sym numbers

        go : Dec (read_number S points word output curve work ≡ 0) → SameList S.k o o₂
        go (yes z) =
            let a = read_reads S points word output curve work o h (first ∙ z) in
            let a₂ = read_reads S points word output₂ curve₂ work₂ o₂ h₂ (second ∙ z) in
            let fs = readings (ops S.p) S.k (S.n - S.τ) points word in
            let long = readings_long S.p S.k (S.n - S.τ) points word in
            record {
              refusal = first ∙ sym second;
              found = a.list ∙ sym a₂.list;
              list = front S.k fs long output a.list a.written ∙ sym (front S.k fs long output₂ a₂.list a₂.written);
            }
        go (no n) =
            let e = (read_decided S points word output curve work h).refused n in
            let e₂ = (read_decided S points word output₂ curve₂ work₂ h₂).refused (λ z. n (numbers ∙ z)) in
            let none : (xs : List ℕ) → take (0 * S.k) xs ≡ [] = λ xs. rw (zero-mul S.k) refl in
            record {
              refusal = first ∙ sym second;
              found = ap (λ (o : Reading). o.found) e ∙ sym (ap (λ (o : Reading). o.found) e₂);
              list = ap (λ (o : Reading). take (o.found * S.k) o.output) e
                  ∙ none output
                  ∙ sym (ap (λ (o : Reading). take (o.found * S.k) o.output) e₂ ∙ none output₂);
            }
