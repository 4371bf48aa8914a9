-- Of a number q that names a field: its operations give numbers below q, depend on their arguments only modulo q, and take numbers below q as they stand.
-- What the crates above need to know of remainders is said here.
use mathlib.Core.Path.{◌≡◌, refl, sym, ◌∙◌, ap, ap₂}
use mathlib.Core.Bool.{true}
use mathlib.Core.List.{List, [], ◌∷◌}
use Prim.Native.Nat.{ℕ, ◌+◌, ◌-◌, ◌%◌, ◌≤◌, ◌<◌}
use native.Mathlib.Nat.{mod-lt, mod-mod, mod-eq_of_lt, zero-mod, add-mod, mod-add-mod, add_comm, add-zero, zero-add, mul-zero}
use native.Mathlib.Omega.{arith}
use lib.Dec.{T, eqb}
use borrow.Author.Tests.{eq-eqb}
use Rattle.rules.specs.Field.{ops, plus, minus, times, image, alike, modulus}
use Rattle.rules.specs.Code.{eval}
use Rattle.prime.proofs.Mod.{mul_mod_left, mul_mod_right}
use Rattle.prime.proofs.Tests.{modulus_says}

module _ (q : ℕ) (m : T (modulus q)) where
  pub modulus_two : 1 < q
  modulus_two = (modulus_says q m).two

  pub modulus_small : q ≤ 929
  modulus_small = (modulus_says q m).small

  pub reduced_below : (n : ℕ) → n % q < q
  reduced_below n = mod-lt n (omega (arith, modulus_two))

  pub plus_below : (a b : ℕ) → plus q a b < q
  unfolding plus
  plus_below a b = reduced_below (a + b)

  pub times_below : (a b : ℕ) → times q a b < q
  unfolding times
  times_below a b = reduced_below _

  pub image_below : (n : ℕ) → image q n < q
  unfolding image
  image_below n = reduced_below n

  pub eval_below : (f : List ℕ) (x : ℕ) → eval (ops q) f x < q
  unfolding eval
  eval_below [] x = omega (arith, modulus_two)
  eval_below (c ∷ f) x = plus_below c _

module _ (q a b : ℕ) where
  pub plus_reduced : plus q (a % q) (b % q) ≡ plus q a b
  unfolding plus
  plus_reduced = sym (add-mod a b q)

  pub minus_reduced : minus q (a % q) (b % q) ≡ minus q a b
  unfolding minus
  minus_reduced = rw mod-mod (mod-add-mod a q (q - b % q))

  pub times_reduced : times q (a % q) (b % q) ≡ times q a b
  unfolding times
  times_reduced = mul_mod_left q a (b % q) ∙ mul_mod_right q a b

  pub alike_reduced : alike q (a % q) (b % q) ≡ alike q a b
  unfolding alike
  alike_reduced = ap₂ eqb (mod-mod a q) (mod-mod b q)

module _ (q : ℕ) where
  pub alike_below : (a b : ℕ) → a < q → b < q → alike q a b ≡ eqb a b
  unfolding alike
  alike_below a b l m = ap₂ eqb (mod-eq_of_lt l) (mod-eq_of_lt m)

  pub alike_zero : (a : ℕ) → a < q → alike q a 0 ≡ eqb a 0
  unfolding alike
  alike_zero a l = ap₂ eqb (mod-eq_of_lt l) (zero-mod q)

  pub alike_itself : (a : ℕ) → alike q a a ≡ true
  unfolding alike
  alike_itself a = eq-eqb (a % q) (a % q) refl

  pub plus_swapped : (a b : ℕ) → plus q a b ≡ plus q b a
  unfolding plus
  plus_swapped a b = ap (λ x. x % q) (add_comm a b)

  pub plus_from_zero : (a : ℕ) → a < q → plus q 0 a ≡ a
  unfolding plus
  plus_from_zero a l = rw (zero-add a) (mod-eq_of_lt l)

  pub plus_none : (g a : ℕ) → a < q → plus q a (times q g 0) ≡ a
  unfolding plus times
  plus_none g a l = rw (mul-zero g) (rw (zero-mod q) (rw (add-zero a) (mod-eq_of_lt l)))
