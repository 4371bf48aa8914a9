-- A list written from some place on: nothing, one list behind another, and the same list by another name.
use mathlib.Core.Path.{◌≡◌, refl, sym, ap, ◌∙◌}
use mathlib.Core.Logic.{⊎_elim}
use mathlib.Core.List.{List, [], ◌++◌}
use Prim.Native.Nat.{ℕ, ◌+◌, ◌-◌}
use native.Mathlib.Omega.{arith}
use lib.ListN.{length, get_or, length-append, get_or-append}
use lib.Seq.{get_or-append-add}
use Rattle.buffers.proofs.Change.{lt_or_ge}
use Rattle.followers.specs.Followers.{Written}

pub written_none : (a : ℕ) (d : List ℕ) → Written [] a d d
written_none a d = record { len = refl; new = λ k l. absurd (omega arith); low = λ k l. refl; high = λ k l. refl }

-- one list behind another
pub written_append : (xs ys : List ℕ) {a b : ℕ} {d e e' : List ℕ} → Written xs a d e → Written ys b e e' → b ≡ a + length xs → Written (xs ++ ys) a d e'
written_append xs ys {a} {b} {d} {e} {e'} h k at = record {
  len = k.len ∙ h.len;
  new = λ j l. ⊎_elim
      (λ m. k.low (a + j) (omega arith) ∙ h.new j m ∙ sym (get_or-append xs ys 0 j m))
      (λ m. let u : a + j ≡ b + (j - length xs) = omega arith in
      let v : length xs + (j - length xs) ≡ j = omega arith in
      ap (λ (i : ℕ). get_or e' i 0) u ∙ k.new (j - length xs) (omega (arith, length-append xs ys))
      ∙ sym (get_or-append-add xs ys (j - length xs) 0) ∙ ap (λ (i : ℕ). get_or (xs ++ ys) i 0) v)
      (lt_or_ge j (length xs));
  low = λ j l. k.low j (omega arith) ∙ h.low j l;
  high = λ j l. k.high j (omega (arith, length-append xs ys)) ∙ h.high j (omega (arith, length-append xs ys));
}

pub written_to : (xs ys : List ℕ) {a : ℕ} {d e : List ℕ} → Written xs a d e → xs ≡ ys → Written ys a d e
written_to xs ys h q = rw q at h
