-- How the curves are swept one after the other: what is done to a slot leaves the others, and so the curve that is taken off.
use mathlib.Core.Path.{◌≡◌, ap, ap₂, ◌∙◌}
use mathlib.Core.Logic.{⊎_elim, by_cases, inl, inr}
use mathlib.Core.List.{List}
use Prim.Native.Nat.{ℕ, ◌+◌, ◌-◌, ◌*◌, ◌<◌}
use native.Mathlib.Decide.{ℕ_discrete}
use native.Mathlib.Omega.{arith}
use lib.ListN.{get_or}
use Rattle.rules.specs.Field.{plus, times}
use Rattle.algebra.proofs.Rank.{digit_eq}
use Rattle.buffers.proofs.Change.{lt_or_ge}
use Rattle.buffers.proofs.Rows.{row_fits}
use Rattle.within.specs.Runs.{RunsApart}
use Rattle.slots.specs.Slot.{slot, place, ratio, mixed_at, Treated, Swept}

-- two slots have no place in common
pub slots_apart : (s : ℕ) {j p : ℕ} → ¬ (j ≡ p) → RunsApart (p * s) (j * s) s
slots_apart s {j} {p} n = ⊎_elim (λ l. inr (row_fits s l)) (λ l. inl (row_fits s (omega arith))) (lt_or_ge j p)

-- a place of the curve is within its slot
pub place_in : (w l : ℕ) {t i : ℕ} → t < l + 1 → i < w → place w t i < slot w l
place_in w l {t} {i} u v = omega (arith, row_fits w u)

pub slot_eq : (w l : ℕ) {j j' t t' i i' : ℕ} → t < l + 1 → i < w → t' < l + 1 → i' < w → j * slot w l + place w t i ≡ j' * slot w l + place w t' i' → j ≡ j'
slot_eq w l {j} {j'} {t} {t'} {i} {i'} a b c d e = (digit_eq (slot w l) j (place w t i) j' (place w t' i') (place_in w l a b) (place_in w l c d) e).0

-- places of one slot that are the same are those of the same term
pub place_eq : (w at : ℕ) {t t' i i' : ℕ} → i < w → i' < w → at + place w t i ≡ at + place w t' i' → (t ≡ t') × (i ≡ i')
place_eq w at {t} {t'} {i} {i'} a b e = digit_eq w t i t' i' a b (omega arith)

module _ (q k w l p over : ℕ) (values d : List ℕ) where
  module _ {n : ℕ} {e : List ℕ} (S : Swept q k w l p over values n d e) where
    -- a curve whose value is zero stays
    pub swept_skip : get_or values n 0 ≡ 0 → Swept q k w l p over values (n + 1) d e
    swept_skip z = record {
      len = S.len;
      new = λ j t i u v. S.new j t i (let x : ¬ (j ≡ n) = λ x. v (rw x z) in omega arith) v;
      keep = λ m h. S.keep m (λ j t i u. h j t i (omega arith));
    }

    -- a curve that loses by its ratio; the value of p is zero, so p has stayed
    pub swept_more : (c : ℕ) {from to : ℕ} {e' : List ℕ} → from ≡ p * slot w l → to ≡ n * slot w l → get_or values p 0 ≡ 0 → ¬ (get_or values n 0 ≡ 0) →
        c ≡ ratio q over (get_or values n 0) →
        Treated (mixed_at q c w e from to) to k w (l + 1) e e' → Swept q k w l p over values (n + 1) d e'
    swept_more c {from} {to} {e'} f g z v s T₀ = record {
      len = T.len ∙ S.len;
      new = λ j t i u x a b. by_cases (ℕ_discrete j n)
          (λ y. rw y (T.new t i a b ∙ ap₂ (λ (g h : ℕ). plus q g (times q c h)) (own t i a b) (lent t i a b)
          ∙ ap (λ (c : ℕ). mixed_at q c w d (p * slot w l) (n * slot w l) t i) s))
          (λ y. T.keep _ (λ t' i' a' b' r. y (slot_eq w l a (omega arith) a' (omega arith) r)) ∙ S.new j t i (omega arith) x a b);
      keep = λ m h. T.keep m (λ t i a b. h n t i (omega arith) v a b) ∙ S.keep m (λ j t i u. h j t i (omega arith));
    }
      where
        T : Treated (mixed_at q c w e (p * slot w l) (n * slot w l)) (n * slot w l) k w (l + 1) e e'
        T = rw (f, g) at T₀

        own : (t i : ℕ) → t < l + 1 → i + t * (k - 1) < w → get_or e (n * slot w l + place w t i) 0 ≡ get_or d (n * slot w l + place w t i) 0
        own t i a b = S.keep _ (λ j t' i' u x a' b' r. let y : n ≡ j = slot_eq w l a (omega arith) a' (omega arith) r in omega arith)

        lent : (t i : ℕ) → t < l + 1 → i + t * (k - 1) < w → get_or e (p * slot w l + place w t i) 0 ≡ get_or d (p * slot w l + place w t i) 0
        lent t i a b = S.keep _ (λ j t' i' u x a' b' r. let y : p ≡ j = slot_eq w l a (omega arith) a' (omega arith) r in x (rw (← y) z))
