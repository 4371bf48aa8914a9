-- What the trial division of is_modulus shows: a number with no divisor up to its square root is prime.
use mathlib.Core.Path.{◌≡◌, sym, ap, ◌∙◌}
use mathlib.Core.Bool.{true, false}
use mathlib.Core.Logic.{⊎_elim}
use Prim.Native.Nat.{ℕ, zero, suc, ◌+◌, ◌*◌, ◌/◌, ◌%◌, ◌≤◌, ◌<◌}
use native.Mathlib.Nat.{div-add-mod, mul-le-mul, mul-le-mul_right, mul-mod_left, mul-zero, mul-one}
use native.Mathlib.Omega.{arith}
use native.Mathlib.Decide.{ℕ_discrete}
use borrow.Author.Count.{below_more}
use borrow.Author.Tests.{le-leb, lt-leb, eq-eqb, ne_eqb}
use Rattle.std.proofs.lemmas.List.Sums.{take_while-cons}
use mathlib.Core.List.{List, [], ◌∷◌}
use lib.Dec.{eqb, leb}
use mathlib.Core.Bool.{cond, not}
use mathlib.Core.Logic.{◌⊎◌, inl, inr}
use Rattle.std.specs.List.{list_all, take_while, range_with_len}
use Rattle.rules.specs.Field.{modulus}
use Rattle.rules.proofs.Tests.{test_true, test_false}
use Rattle.prime.proofs.Tests.{Prime, modulus_says, modulus_if}
use Rattle.buffers.proofs.Change.{lt_or_ge}

pub prime_is : (p : ℕ) → Prime p → true ≡ modulus p
prime_is p h = test_true (modulus p) (modulus_if p h)

pub prime_not : (p : ℕ) → ¬ (Prime p) → false ≡ modulus p
prime_not p f = test_false (modulus p) (λ t. f (modulus_says p t))

pub outside : {p : ℕ} → p < 2 ⊎ 929 < p → false ≡ modulus p
outside {p} h = prime_not p (λ k. omega (arith, k.two, k.small, h))

-- no number from 2 to below d divides p
abbrev pub Tried : ℕ → ℕ → Type 0
Tried p d = (k : ℕ) → k < d → 2 ≤ k → ¬ (p % k ≡ 0)

module _ (p k : ℕ) where
  -- the other factor of p is not below 2
  some : (n : ℕ) → k * n ≡ p → k < p → 2 ≤ n
  some zero e u = omega (arith, mul-zero k)
  some (suc zero) e u = omega (arith, mul-one k)
  some (suc (suc n)) e u = omega arith

  -- where k divides p, so does p / k, and not both have a square above p
  pub untried : (d : ℕ) → p < d * d → Tried p d → 2 ≤ k → k < p → ¬ (p % k ≡ 0)
  untried d past h l u e =
      let n = p / k in
      let whole : k * n ≡ p = omega (arith, div-add-mod p k) in
      let divides : p % n ≡ 0 = ap (λ x. x % n) (sym whole) ∙ mul-mod_left k n in
      ⊎_elim (λ s. h k s l e)
      (λ s. ⊎_elim (λ t. h n t (some n whole u) divides) (λ t. omega (arith, mul-le-mul {n₂ = k} {m₂ = n} s t)) (lt_or_ge n d))
      (lt_or_ge k d)

-- a divisor that is tried is below p
pub double : {d : ℕ} → 2 ≤ d → 2 * d ≤ d * d
double {d} h = mul-le-mul_right {m = 2} {n = d} d h

-- below 31, whose square is above 929, all is tried that has to be
module _ {p : ℕ} (two : 2 ≤ p) (small : p ≤ 929) where
  tried_more : (d : ℕ) → Tried p d → ¬ (p % d ≡ 0) → Tried p (d + 1)
  tried_more d h ne = below_more (λ k. 2 ≤ k → ¬ (p % k ≡ 0)) d h (λ l. ne)

  pub enough : (d : ℕ) → Tried p d → p < d * d → true ≡ modulus p
  enough d h past = prime_is p record { two = two; small = small; none = λ k l u. untried p k d past h l u }

  -- .. from d on, n numbers in turn
  pub trial : (d n : ℕ) → d + n ≡ 31 → 2 ≤ d → Tried p d
      → list_all (λ d. not (eqb (p % d) 0)) (take_while (λ d. leb (d * d) p) (range_with_len d n)) ≡ modulus p
  trial d zero e l h = let is : d ≡ 31 = omega arith in enough d h (rw is (omega arith))
  trial d (suc n) e l h =
      ap (list_all (λ d. not (eqb (p % d) 0))) (take_while-cons (λ d. leb (d * d) p) d (range_with_len (d + 1) n))
      ∙ cases (lt_or_ge p (d * d)) (ℕ_discrete (p % d) 0) (λ ne. trial (d + 1) n (omega arith) (omega arith) (tried_more d h ne))
    where
      rest : List ℕ
      rest = take_while (λ d. leb (d * d) p) (range_with_len (d + 1) n)

      cases : (p < d * d) ⊎ (d * d ≤ p) → Dec (p % d ≡ 0) → (¬ (p % d ≡ 0) → list_all (λ d. not (eqb (p % d) 0)) rest ≡ modulus p)
          → list_all (λ d. not (eqb (p % d) 0)) (cond (leb (d * d) p) (d ∷ rest) []) ≡ modulus p
      cases (inl past) z later = rw (lt-leb (d * d) p past) (enough d h past)
      cases (inr here) (yes z) later =
          simp (le-leb (d * d) p here, eq-eqb (p % d) 0 z) (prime_not p (λ k. k.none d l (omega (arith, double {d = d} l)) z))
      cases (inr here) (no ne) later = simp (le-leb (d * d) p here, ne_eqb (p % d) 0 ne) (later ne)
