-- Where the runs hold the weights of a condition, their pairing with a curve is the condition's value.
use mathlib.Core.Path.{◌≡◌, refl, ◌∙◌, ap, ap₂}
use mathlib.Core.List.{List}
use Prim.Native.Nat.{ℕ, zero, suc, ◌+◌, ◌-◌, ◌*◌, ◌<◌, ◌≤◌}
use native.Mathlib.Omega.{arith}
use native.Mathlib.Nat.{mul-le-mul_right, add-sub_cancel_left}
use native.Mathlib.Numerals.{add-one}
use lib.ListN.{length, get_or, take}
use lib.Seq.{get_or-take, length-take-le}
use borrow.Rule.Slice.PartMut.{mid_of}
use Rattle.rules.specs.Field.{Ops, ops, plus, times}
use Rattle.rules.specs.Curve.{total, coefficient}
use Rattle.algebra.specs.Conditions.{Condition, weight}
use Rattle.algebra.specs.Space.{space, value}
use Rattle.runs.specs.Runs.{products}
use Rattle.buffers.proofs.Part.{at_mid}
use Rattle.buffers.proofs.Rows.{row_fits}
use Rattle.weights.specs.Value.{share, pairing}

-- numbers modulo q have no laws of a field, so algebra's lemma does not serve
pub total_same : (O : Ops) (n : ℕ) (f g : ℕ → O.Symbol) → ((i : ℕ) → i < n → f i ≡ g i) → total O n f ≡ total O n g
unfolding total
total_same O zero f g h = refl
total_same O (suc n) f g h = ap₂ O.add (total_same O n f g (λ i l. h i (omega arith))) (h n (omega arith))

-- row t lies in the curve, and a part of it in the space
pub row_inside : (k w l t : ℕ) → l * (k - 1) < w → t ≤ l → (t * (k - 1) < w) × (t * w + w ≤ (l + 1) * w)
row_inside k w l t s h = (omega (arith, mul-le-mul_right (k - 1) h), row_fits w (omega arith))

-- the sum over the first t rows, by the dot product of row t, grows by its share
module _ (q k w : ℕ) (x y c : List ℕ) where
  pub pairing_none : 0 ≡ total (ops q) 0 (share q k w x y c)
  unfolding total
  pairing_none = refl

  dot_share : (n at : ℕ) → n ≤ length x → at + n ≤ length c →
      total (ops q) (length (take n x)) (products q (take n x) (mid_of at (at + n - at) c))
      ≡ total (ops q) n (λ i. times q (get_or x i 0) (get_or c (at + i) 0))
  dot_share n at h g =
      rw add-sub_cancel_left (ap (λ m. total (ops q) m (products q (take n x) (mid_of at n c))) (length-take-le n x h)
      ∙ total_same (ops q) n _ _ (λ i l. ap₂ (times q) (get_or-take n x i 0 l) (at_mid at n c g i l)))

  pub pairing_more : (t : ℕ) {n sum part : ℕ} → n ≡ w - t * (k - 1) → n ≤ length x → t * w + n ≤ length c →
      sum ≡ total (ops q) t (share q k w x y c) →
      part ≡ total (ops q) (length (take n x)) (products q (take n x) (mid_of (t * w) (t * w + n - t * w) c)) →
      plus q sum (times q (get_or y t 0) part) ≡ total (ops q) (t + 1) (share q k w x y c)
  unfolding total
  pairing_more t {n} e h g s d =
      rw add-one (ap₂ (λ u v. plus q u (times q (get_or y t 0) v)) s
      (d ∙ dot_share n (t * w) h g ∙ ap (λ m. total (ops q) m (λ i. times q (get_or x i 0) (get_or c (t * w + i) 0))) e))

  pub pairing_all : (t l : ℕ) → t ≡ l + 1 → total (ops q) t (share q k w x y c) ≡ pairing q k w l x y c
  unfolding pairing
  pairing_all t l e = ap (λ n. total (ops q) n (share q k w x y c)) e

pub pairing_value : (q k w l : ℕ) (x y c : List ℕ) (z : Condition ℕ) → ((i : ℕ) → i < w → get_or x i 0 ≡ weight (ops q) z.point z.a i) →
    ((t : ℕ) → t ≤ l → get_or y t 0 ≡ weight (ops q) z.symbol z.b t) → pairing q k w l x y c ≡ value (ops q) (space k w l) z (coefficient (ops q) w c)
unfolding pairing value coefficient
pairing_value q k w l x y c z h g =
    total_same (ops q) (l + 1) _ _ (λ t u. ap₂ (times q) (g t (omega arith))
    (total_same (ops q) (w - t * (k - 1)) _ _ (λ i v. ap (λ a. times q a (get_or c (t * w + i) 0)) (h i (omega arith)))))
