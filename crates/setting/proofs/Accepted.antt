-- Every accepted setting meets the bounds of Accepted. "n−τ ≥ k": otherwise ℓ < s, and the few rows add up to no more than C.
use mathlib.Core.Path.{◌≡◌, sym}
use Prim.Native.Nat.{ℕ, zero, suc, ◌+◌, ◌-◌, ◌*◌, ◌/◌, ◌≤◌, ◌<◌}
use native.Mathlib.Nat.{mul-add, add-mul, mul_assoc, lt_of_not-le, div-lt_iff_lt-mul, le-div_iff_mul-le, div-mul-le_self, lt-div-mul-add}
use native.Mathlib.Omega.{arith}
use native.Mathlib.Decide.{dec_le}
use Rattle.rules.specs.Lists.{from, below, sum}
use Rattle.rules.specs.Setting.{Setting, W, ℓ, C, U, curve_length, R}
use Rattle.rules.specs.Refusal.{setting_refusal}
use Rattle.setting.specs.Accepted.{Passed, Accepted}
use Rattle.setting.proofs.Arith.{product}
use Rattle.setting.proofs.Tests.{passed}

-- a property of the numbers below 4, by cases
four : (P : ℕ → Type 0) → P 0 → P 1 → P 2 → P 3 → (i : ℕ) → i < 4 → P i
four P a b c d zero h = a
four P a b c d (suc zero) h = b
four P a b c d (suc (suc zero)) h = c
four P a b c d (suc (suc (suc zero))) h = d
four P a b c d (suc (suc (suc (suc i)))) h = absurd (omega arith)

-- the rows of s·a places less t·g, l + 1 of them, where a ≤ g and l < s: at most n·s·(s+1)/2 places
few_rows : (a g n : ℕ) → a ≤ g → g < n → (i : ℕ) → i < 4 → (l : ℕ) → l < 4 → l ≤ i
    → sum (λ t. (i + 1) * a - t * g) (below (l + 1)) ≤ n * (i + 1) * ((i + 1) + 1) / 2
unfolding sum below from
few_rows a g n h m =
    four (λ i. (l : ℕ) → l < 4 → l ≤ i → sum (λ t. (i + 1) * a - t * g) (below (l + 1)) ≤ n * (i + 1) * ((i + 1) + 1) / 2)
    (four _ (λ v. omega arith) (λ v. omega arith) (λ v. omega arith) (λ v. omega arith))
    (four _ (λ v. omega arith) (λ v. omega arith) (λ v. omega arith) (λ v. omega arith))
    (four _ (λ v. omega arith) (λ v. omega arith) (λ v. omega arith) (λ v. omega arith))
    (four _ (λ v. omega arith) (λ v. omega arith) (λ v. omega arith) (λ v. omega arith))

module _ (S : Setting) where
  open S use {n, k, s, τ}

  too_few : Passed S → n - τ ≤ k - 1 → U S ≤ C S
  unfolding U C ℓ W
  too_few h less =
      let whole : s - 1 + 1 ≡ s = omega arith in
      let some : 1 * 1 ≤ s * (k - 1) = product 1 1 s (k - 1) (omega arith) (omega arith) in
      let small : s * (n - τ) - 1 < s * (k - 1) = omega (arith, product s (n - τ) s (k - 1) (omega arith) less) in
      let last : ℓ S < s = (div-lt_iff_lt-mul {k = k - 1} {x = s * (n - τ) - 1} {y = s} (omega arith)).1 small in
      simp whole at (few_rows (n - τ) (k - 1) n less (omega arith) (s - 1) (omega arith) (ℓ S) (omega arith) (omega arith))

  agreeing : Passed S → k ≤ n - τ
  agreeing h = go (dec_le k (n - τ))
    where
      go : Dec (k ≤ n - τ) → k ≤ n - τ
      go (yes l) = l
      go (no m) = absurd (omega (arith, too_few h (omega (arith, lt_of_not-le m))))

  pub accepted : setting_refusal S ≡ 0 → Accepted S
  unfolding curve_length R ℓ W
  accepted e =
      let h = passed S e in
      let agree = agreeing h in
      let one : 0 < k - 1 = omega arith in
      let width : s * (n - τ) ≤ 4 * 64 = product s (n - τ) 4 64 (omega arith) (omega arith) in
      let wide : 1 * (n - τ) ≤ s * (n - τ) = product 1 (n - τ) s (n - τ) (omega arith) (omega arith) in
      let curve : (ℓ S + 1) * W S ≤ 25 * 256 = product (ℓ S + 1) (W S) 25 256 (omega arith) (omega arith) in
      let room : (ℓ S + k + 4) * ((ℓ S + 1) * W S) ≤ 92 * 6400 = product (ℓ S + k + 4) ((ℓ S + 1) * W S) 92 6400 (omega arith) (omega arith) in
      record {
        passed = h;
        agreeing = agree;
        ℓ_least = (le-div_iff_mul-le {k = k - 1} {x = s} {y = W S - 1} one).1
            (omega (arith, product s (k - 1 + 1) s (n - τ) (omega arith) (omega arith), mul-add s (k - 1) 1));
        W_least = omega arith;
        W_most = omega arith;
        last_row = omega (arith, div-mul-le_self (W S - 1) (k - 1));
        no_more = omega (arith, lt-div-mul-add {a = W S - 1} one, add-mul (ℓ S) 1 (k - 1));
        curve_most = omega arith;
        output_most = product (ℓ S) k 24 64 (omega arith) (omega arith);
        slots = sym (mul_assoc (ℓ S + k + 4) (ℓ S + 1) (W S));
        one_slot = omega (arith, product 1 (curve_length S) (ℓ S + k + 4) (curve_length S) (omega arith) (omega arith));
        R_most = omega (arith, mul_assoc (ℓ S + k + 4) (ℓ S + 1) (W S));
      }
