-- Sums of symbols over the numbers below n: what is added up may be rewritten, taken apart, multiplied and begun from its front.
use mathlib.Core.Path.{◌≡◌, refl, sym, ◌∙◌, ap, ap₂}
use Prim.Native.Nat.{ℕ, zero, suc, ◌<◌, ◌≤◌}
use native.Mathlib.Omega.{arith}
use native.Mathlib.Decide.{ℕ_discrete}
use Rattle.rules.specs.Field.{Ops}
use Rattle.rules.specs.Laws.{Laws}
use Rattle.rules.specs.Curve.{total}
use Rattle.algebra.proofs.Ring.{add_left_comm, mul_nil}

module _ (O : Ops) (L : Laws O) where
  open O use {Symbol, nil, add, mul}

  pub total_ext : (n : ℕ) (f g : ℕ → Symbol) → ((i : ℕ) → i < n → f i ≡ g i) → total O n f ≡ total O n g
  unfolding total
  total_ext zero f g h = refl
  total_ext (suc n) f g h = ap₂ add (total_ext n f g (λ i l. h i (omega arith))) (h n (omega arith))

  pub total_nil : (n : ℕ) (f : ℕ → Symbol) → ((i : ℕ) → i < n → f i ≡ nil) → total O n f ≡ nil
  unfolding total
  total_nil zero f h = refl
  total_nil (suc n) f h = ap₂ add (total_nil n f (λ i l. h i (omega arith))) (h n (omega arith)) ∙ L.add_nil nil

  pub total_front : (n : ℕ) (f : ℕ → Symbol) → total O (suc n) f ≡ add (f 0) (total O n (λ i. f (suc i)))
  unfolding total
  total_front zero f = L.add_comm _ _
  total_front (suc n) f = ap (λ x. add x (f (suc n))) (total_front n f) ∙ L.add_assoc _ _ _

  pub total_mul : (n : ℕ) (c : Symbol) (f : ℕ → Symbol) → total O n (λ i. mul c (f i)) ≡ mul c (total O n f)
  unfolding total
  total_mul zero c f = sym (mul_nil O L c)
  total_mul (suc n) c f = ap (λ x. add x (mul c (f n))) (total_mul n c f) ∙ sym (L.mul_add _ _ _)

  pub total_add : (n : ℕ) (f g : ℕ → Symbol) → total O n (λ i. add (f i) (g i)) ≡ add (total O n f) (total O n g)
  unfolding total
  total_add zero f g = sym (L.add_nil nil)
  total_add (suc n) f g = ap (λ x. add x (add (f n) (g n))) (total_add n f g) ∙ simp (L.add_assoc, add_left_comm O L)

  -- the last summands are zero
  pub total_cut : (m n : ℕ) (f : ℕ → Symbol) → m ≤ n → ((i : ℕ) → m ≤ i → i < n → f i ≡ nil) → total O n f ≡ total O m f
  unfolding total
  total_cut m zero f l h = let e : m ≡ 0 = omega arith in rw e
  total_cut m (suc n) f l h = go (ℕ_discrete m (suc n)) (λ k. total_cut m n f k (λ i a b. h i a (omega arith)))
    where
      go : Dec (m ≡ suc n) → (m ≤ n → total O n f ≡ total O m f) → add (total O n f) (f n) ≡ total O m f
      go (yes e) ih = rw e
      go (no e) ih = ap₂ add (ih (omega arith)) (h n (omega arith) (omega arith)) ∙ L.add_nil _
