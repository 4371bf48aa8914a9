-- What stands in the slots after the others are swept and the pivot is raised, place by place.
use mathlib.Core.Path.{◌≡◌, refl, ap₂, ◌∙◌}
use mathlib.Core.List.{List}
use Prim.Native.Nat.{ℕ, zero, suc, ◌+◌, ◌-◌, ◌*◌, ◌<◌, ◌≤◌}
use native.Mathlib.Omega.{arith}
use lib.ListN.{get_or}
use Rattle.rules.specs.Field.{plus, times}
use Rattle.within.specs.Runs.{moved}
use Rattle.slots.specs.Slot.{slot, place, ratio, mixed_at, raised_at, Treated, Swept}
use Rattle.slots.proofs.Swept.{slot_eq, place_eq}

module _ (q k w l p over c : ℕ) {values d e f : List ℕ} (z : get_or values p 0 ≡ 0) (W : Swept q k w l p over values (l + 1) d e)
    (R : Treated (raised_at q c w e (p * slot w l)) (p * slot w l) k w (l + 1) e f) where
  -- what lies outside of the space stays
  pub outside_stays : (j t i : ℕ) → t < l + 1 → i < w → w ≤ i + t * (k - 1) → get_or f (j * slot w l + place w t i) 0 ≡ get_or d (j * slot w l + place w t i) 0
  outside_stays j t i u v x = R.keep _ (λ t' i' a b r. apart p t' i' a b r) ∙ W.keep _ (λ j' t' i' g y a b r. apart j' t' i' a b r)
    where
      apart : (j' t' i' : ℕ) → t' < l + 1 → i' + t' * (k - 1) < w → ¬ (j * slot w l + place w t i ≡ j' * slot w l + place w t' i')
      apart j' t' i' a b r =
          let s : j ≡ j' = slot_eq w l u v a (omega arith) r in
          let r' : j' * slot w l + place w t i ≡ j' * slot w l + place w t' i' = rw s at r in
          let y = place_eq w (j' * slot w l) v (omega arith) r' in
          let b' : i + t * (k - 1) < w = rw (y.0, y.1) b in
          omega arith

  away : (j t i : ℕ) → ¬ (j ≡ p) → t < l + 1 → i < w → get_or f (j * slot w l + place w t i) 0 ≡ get_or e (j * slot w l + place w t i) 0
  away j t i n u v = R.keep _ (λ t' i' a b r. n (slot_eq w l u v a (omega arith) r))

  -- a curve whose value is zero stays, the others lose by their ratio, and the pivot is raised
  pub zero_stays : (j t i : ℕ) → ¬ (j ≡ p) → get_or values j 0 ≡ 0 → t < l + 1 → i < w →
      get_or f (j * slot w l + place w t i) 0 ≡ get_or d (j * slot w l + place w t i) 0
  zero_stays j t i n x u v = away j t i n u v ∙ W.keep _ (λ j' t' i' g y a b r. let s : j ≡ j' = slot_eq w l u v a (omega arith) r in y (rw (← s) x))

  pub other_loses : (j t i : ℕ) → j < l + 1 → ¬ (j ≡ p) → ¬ (get_or values j 0 ≡ 0) → t < l + 1 → i + t * (k - 1) < w →
      get_or f (j * slot w l + place w t i) 0 ≡ mixed_at q (ratio q over (get_or values j 0)) w d (p * slot w l) (j * slot w l) t i
  other_loses j t i g n x u v = away j t i n u (omega arith) ∙ W.new j t i g x u v

  pub pivot_raised : (t i : ℕ) → t < l + 1 → i + t * (k - 1) < w → get_or f (p * slot w l + place w t i) 0 ≡ raised_at q c w d (p * slot w l) t i
  unfolding moved
  pivot_raised t i u v = R.new t i u v ∙ ap₂ (λ (x y : ℕ). plus q x (times q c y)) (last i (omega arith)) (here i (omega arith))
    where
      here : (i : ℕ) → i < w → get_or e (p * slot w l + t * w + i) 0 ≡ get_or d (p * slot w l + t * w + i) 0
      here i v =
          let a : p * slot w l + t * w + i ≡ p * slot w l + place w t i = omega arith in
          rw a (W.keep _ (λ j' t' i' g y a b r. let s : p ≡ j' = slot_eq w l u v a (omega arith) r in y (rw (← s) z)))

      last : (i : ℕ) → i < w → moved e (p * slot w l + t * w) i ≡ moved d (p * slot w l + t * w) i
      last zero v = refl
      last (suc i) v = here i (omega arith)
