-- What one division of the inverse keeps, and what the first one starts from.
use mathlib.Core.Path.{◌≡◌, sym, ap, ap₂, ◌∙◌}
use mathlib.Core.Logic.{⊎_elim}
use Prim.Native.Nat.{ℕ, ◌+◌, ◌-◌, ◌*◌, ◌/◌, ◌%◌, ◌<◌, ◌≤◌}
use native.Mathlib.Nat.{mod-lt, mod_self, zero-mod, mul-add, add-mul, mul-zero, mul-one, mul_left_comm, div-add-mod', div-le_self, add-mul-mod_self_left, add-mod, dvd-mod_iff, dvd_of_mod-eq-zero, mod-eq-zero_of_dvd, le_of_dvd, eq-or-lt_of_le, pos_of_ne-zero}
use native.Mathlib.Omega.{arith}
use lib.Dec.{T}
use Rattle.rules.specs.Field.{ops, plus, times, modulus, inverse}
use Rattle.prime.proofs.Mod.{mul_mod_right}
use Rattle.prime.proofs.Tests.{modulus_says}
use Rattle.prime.proofs.Below.{modulus_two, plus_below}
use Rattle.prime.proofs.Inverse.{inverse_only, inverse_zero}
use Rattle.symbols.specs.Euclid.{Chain, Factor}
use Rattle.symbols.proofs.Reduce.{mixed_is}

same_add : (m x x' y y' : ℕ) → x % m ≡ x' % m → y % m ≡ y' % m → (x + y) % m ≡ (x' + y') % m
same_add m x x' y y' e f = add-mod x y m ∙ ap₂ (λ (u v : ℕ). (u + v) % m) e f ∙ sym (add-mod x' y' m)

same_mul : (m k y y' : ℕ) → y % m ≡ y' % m → k * y % m ≡ k * y' % m
same_mul m k y y' e = sym (mul_mod_right m k y) ∙ ap (λ (u : ℕ). k * u % m) e ∙ mul_mod_right m k y'

-- what divides r1 and r0 % r1 divides r0
divides : (d r0 r1 : ℕ) → r1 % d ≡ 0 → r0 % r1 % d ≡ 0 → r0 % d ≡ 0
divides d r0 r1 e f = mod-eq-zero_of_dvd d ((dvd-mod_iff d (dvd_of_mod-eq-zero d e)).0 (dvd_of_mod-eq-zero d f))

module _ (q r0 r1 s0 s1 : ℕ) where
  -- the factor of the next remainder
  abbrev pub next_factor : ℕ
  next_factor = plus q s0 (times q (q - r0 / r1) s1)

  -- what takes s0 and s1 to r0 and r1 takes it to the next remainder
  takes : (a : ℕ) → r0 / r1 ≤ q → a * s0 % q ≡ r0 % q → a * s1 % q ≡ r1 % q → a * next_factor % q ≡ r0 % r1 % q
  takes a le e0 e1 =
      let k : ℕ = q - r0 / r1 in
      let whole : (r0 / r1 + k) * r1 ≡ r0 / r1 * r1 + k * r1 = add-mul (r0 / r1) k r1 in
      let all : r0 / r1 + k ≡ q = omega arith in
      let sum : r0 + k * r1 ≡ r0 % r1 + q * r1 = omega (arith, div-add-mod' r0 r1, rw all at whole) in
      ap (λ (x : ℕ). a * x % q) (sym (mixed_is q s0 k s1))
      ∙ mul_mod_right q a (s0 + k * s1)
      ∙ ap (λ (x : ℕ). x % q) (mul-add a s0 (k * s1) ∙ ap (λ (x : ℕ). a * s0 + x) (mul_left_comm a k s1))
      ∙ same_add q (a * s0) r0 (k * (a * s1)) (k * r1) e0 (same_mul q k (a * s1) r1 e1)
      ∙ ap (λ (x : ℕ). x % q) sum
      ∙ add-mul-mod_self_left (r0 % r1) q r1

  module _ (h : Chain q r0 r1 s0 s1) where
    pub quotient : r0 / r1 ≤ q
    quotient = omega (arith, div-le_self r0 r1, h.first)

    -- what the call is handed
    pub hands : {x : ℕ} → x ≡ next_factor → ¬ (r1 ≡ 1) → Chain q r1 (r0 % r1) s1 x
    hands is ne = record {
      field = h.field;
      first = omega (arith, h.first, h.falls);
      falls = mod-lt r0 h.some;
      some = pos_of_ne-zero (λ e. ne (h.coprime r1 h.some e (mod_self r1)));
      below = rw is (plus_below q h.field _ _);
      coprime = λ d l e f. h.coprime d l (divides d r0 r1 e f) e;
    }

    -- what its answer is good for
    pub answers : {x r : ℕ} → x ≡ next_factor → Factor q r1 (r0 % r1) s1 x r → Factor q r0 r1 s0 s1 r
    answers is f = record { below = f.below; one = λ a e0 e1. f.one a e1 (rw is (takes a quotient e0 e1)) }

module _ (q a : ℕ) (m : T (modulus q)) (u : a < q) where
  pub starts : 0 < a → Chain q q a 0 1
  starts l = record {
    field = m;
    first = omega arith;
    falls = u;
    some = l;
    below = modulus_two q m;
    coprime = λ d s e f. ⊎_elim (λ w. sym w) (λ w. absurd ((modulus_says q m).none d w (omega (arith, le_of_dvd l (dvd_of_mod-eq-zero d f))) e))
        (eq-or-lt_of_le s);
  }

  pub found : {r : ℕ} → 0 < a → Factor q q a 0 1 r → r ≡ inverse (ops q) a
  found {r} l f = inverse_only q (modulus_says q m) a r l u record {
    symbol = f.below;
    product = f.one a (ap (λ (x : ℕ). x % q) (mul-zero a) ∙ zero-mod q ∙ sym (mod_self q)) (ap (λ (x : ℕ). x % q) (mul-one a));
  }

  pub none : a ≡ 0 → 0 ≡ inverse (ops q) a
  none e = sym (ap (inverse (ops q)) e ∙ inverse_zero q (modulus_says q m))
