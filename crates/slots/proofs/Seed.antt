-- The ones of the start, store by store.
use mathlib.Core.Path.{◌≡◌, sym, ap, ◌∙◌}
use mathlib.Core.List.{List, ◌++◌}
use Prim.Native.Nat.{ℕ, ◌+◌, ◌*◌, ◌<◌, ◌≤◌}
use native.Mathlib.Omega.{arith}
use lib.ListN.{length, get_or, set, take, replicate, length-set, length-replicate, get_or-append, get_or-replicate}
use lib.Seq.{get_or-set_same, get_or-set_other, length-take-le}
use borrow.Author.Count.{below_more}
use Rattle.slots.specs.Slot.{slot, place, Started}
use Rattle.slots.proofs.Swept.{slot_eq}

-- e is d but for the coefficient of y^j in each of the first n curves, which is one
pub record Seeded (w l n : ℕ) (d e : List ℕ) : Type 0 where
  pub len : length e ≡ length d
  pub one : (j : ℕ) → j < n → get_or e (j * slot w l + place w j 0) 0 ≡ 1
  pub keep : (m : ℕ) → ((j : ℕ) → j < n → ¬ (m ≡ j * slot w l + place w j 0)) → get_or e m 0 ≡ get_or d m 0

module _ (w l : ℕ) (d : List ℕ) where
  pub seeded_more : {n : ℕ} {e : List ℕ} (at : ℕ) → 0 < w → n < l + 1 → Seeded w l n d e → at ≡ n * slot w l + place w n 0 → at < length e →
      Seeded w l (n + 1) d (set e at 1)
  seeded_more {n} {e} at s u S q b = record {
    len = length-set e at 1 ∙ S.len;
    one = below_more (λ j. get_or (set e at 1) (j * slot w l + place w j 0) 0 ≡ 1) n
        (λ j v. get_or-set_other e at _ 1 0 (λ x. let y : j ≡ n = slot_eq w l (omega arith) s u s (x ∙ q) in omega arith) ∙ S.one j v)
        (ap (λ (m : ℕ). get_or (set e at 1) m 0) (sym q) ∙ get_or-set_same e at 1 0 b);
    keep = λ m h. get_or-set_other e at m 1 0 (λ x. h n (omega arith) (x ∙ q)) ∙ S.keep m (λ j v. h j (omega arith));
  }

  pub seeded_started : {e : List ℕ} → Seeded w l (l + 1) d e → ((m : ℕ) → m < (l + 1) * slot w l → get_or d m 0 ≡ 0) → Started w l e
  seeded_started S h = record { one = S.one; none = λ m u v. S.keep m v ∙ h m u }

-- the part that is filled with zeros
pub cleared : (n : ℕ) (d rest : List ℕ) (m : ℕ) → n ≤ length d → m < n → get_or (replicate (length (take n d)) 0 ++ rest) m 0 ≡ 0
cleared n d rest m fits u =
    let t = length-take-le n d fits in
    get_or-append _ rest 0 m (omega (arith, length-replicate {A = ℕ} (length (take n d)) 0)) ∙ get_or-replicate _ m 0 0 (omega arith)
