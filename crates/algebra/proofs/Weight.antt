-- The weights made by the recurrence are the binomials and powers of rules' Hasse derivatives.
use mathlib.Core.Path.{◌≡◌, refl, sym, ◌∙◌, ap, ap₂}
use mathlib.Core.List.{List}
use mathlib.Core.Logic.{by_cases}
use Prim.Native.Nat.{ℕ, zero, suc, ◌+◌, ◌-◌, ◌<◌}
use native.Mathlib.Nat.{sub-zero, suc-sub-suc}
use native.Mathlib.Decide.{dec_lt}
use native.Mathlib.Omega.{arith}
use Rattle.rules.specs.Field.{Ops}
use Rattle.rules.specs.Laws.{Laws}
use Rattle.rules.specs.Curve.{binomial, power, total, coefficient, hasse}
use Rattle.algebra.specs.Conditions.{weight}
use Rattle.algebra.proofs.Ring.{mul_left_comm, add_mul, mul_nil, nil_mul, of_add, of_one}
use Rattle.algebra.proofs.Total.{total_ext, total_mul}

binomial_low : (i a : ℕ) → i < a → binomial i a ≡ 0
unfolding binomial
binomial_low i zero h = absurd (omega arith)
binomial_low zero (suc a) h = refl
binomial_low (suc i) (suc a) h = ap₂ ◌+◌ (binomial_low i a (omega arith)) (binomial_low i (suc a) (omega arith))

module _ (O : Ops) (L : Laws O) where
  open O use {Symbol, nil, one, add, mul, of_nat}

  pub weight_zero : (α : Symbol) → weight O α 0 0 ≡ one
  unfolding weight
  weight_zero α = refl

  pub weight_low : (α : Symbol) (a : ℕ) → weight O α (suc a) 0 ≡ nil
  unfolding weight
  weight_low α a = refl

  pub weight_up : (α : Symbol) (i : ℕ) → weight O α 0 (suc i) ≡ mul α (weight O α 0 i)
  unfolding weight
  weight_up α i = refl

  pub weight_next : (α : Symbol) (a i : ℕ) → weight O α (suc a) (suc i) ≡ add (mul α (weight O α (suc a) i)) (weight O α a i)
  unfolding weight
  weight_next α a i = refl

  -- where the binomial is not zero, i − a is one more than i − (a + 1)
  lift : (α : Symbol) (a i : ℕ) → mul (of_nat (binomial i (suc a))) (power O α (i - a)) ≡ mul α (mul (of_nat (binomial i (suc a))) (power O α (i - suc a)))
  unfolding power
  lift α a i = by_cases (dec_lt i (suc a))
      (λ h. let z : of_nat (binomial i (suc a)) ≡ nil = ap of_nat (binomial_low i (suc a) h) ∙ L.of_zero in simp (z, nil_mul O L, mul_nil O L))
      (λ h. let e : i - a ≡ suc (i - suc a) = omega arith in ap (λ n. mul (of_nat (binomial i (suc a))) (power O α n)) e ∙ mul_left_comm O L _ _ _)

  pub weight_binomial : (α : Symbol) (a i : ℕ) → weight O α a i ≡ mul (of_nat (binomial i a)) (power O α (i - a))
  unfolding weight binomial power
  weight_binomial α zero zero = sym (ap (λ x. mul x one) (of_one O L) ∙ L.mul_one one)
  weight_binomial α (suc a) zero = sym (ap (λ x. mul x (power O α (0 - suc a))) L.of_zero ∙ nil_mul O L _)
  weight_binomial α zero (suc i) =
      ap (mul α) (weight_binomial α zero i) ∙ mul_left_comm O L _ _ _
      ∙ ap (λ e. mul (of_nat 1) (mul α (power O α e))) (sub-zero i) ∙ ap (λ e. mul (of_nat 1) (power O α e)) (sym (sub-zero (suc i)))
  weight_binomial α (suc a) (suc i) =
      ap₂ add (ap (mul α) (weight_binomial α (suc a) i) ∙ sym (lift α a i)) (weight_binomial α a i)
      ∙ L.add_comm _ _ ∙ sym (add_mul O L _ _ _)
      ∙ ap₂ (λ x n. mul x (power O α n)) (sym (of_add O L (binomial i a) (binomial i (suc a)))) (sym (suc-sub-suc i a))

  regroup : (s t c u v : Symbol) → mul s (mul t (mul c (mul u v))) ≡ mul (mul t v) (mul (mul s u) c)
  regroup s t c u v = simp (L.mul_assoc, mul_left_comm O L, L.mul_comm)

  -- a Hasse derivative with the weights
  pub hasse_weights : (W ℓ : ℕ) (Q : List Symbol) (α r : Symbol) (a b : ℕ) →
      hasse O W ℓ Q α r a b ≡ total O (ℓ + 1) (λ t. mul (weight O r b t) (total O W (λ i. mul (weight O α a i) (coefficient O W Q i t))))
  unfolding hasse
  hasse_weights W ℓ Q α r a b =
      total_ext O L (ℓ + 1) _ _ (λ t h. total_ext O L W _ _ (λ i l. regroup _ _ _ _ _
      ∙ ap₂ (λ v x. mul v (mul x (coefficient O W Q i t))) (sym (weight_binomial r b t)) (sym (weight_binomial α a i))) ∙ total_mul O L W (weight O r b t) _)
