-- Division by the reciprocal m of q: for x of 32 bits, the upper half t of x·m is the quotient x / q or one less.
use mathlib.Core.Path.{◌≡◌, sym, ap, ◌∙◌}
use Prim.Native.Nat.{ℕ, suc, ◌+◌, ◌-◌, ◌*◌, ◌/◌, ◌%◌, ◌<◌, ◌≤◌}
use native.Mathlib.Nat.{mul-le-mul_left, mul-le-mul_right, mul_assoc, mul_right_comm, add-mul, suc-mul, mul-add, div-mul-le_self, lt-div-mul-add, add-mul-mod_self_right, mod-eq_of_lt}
use native.Mathlib.Omega.{arith}
use Rattle.symbols.specs.Reciprocal.{Reciprocal}

-- what is left of x after a multiple of q, and is below q, is its remainder
remainder_is : (x q k r : ℕ) → r < q → x ≡ r + k * q → r ≡ x % q
remainder_is x q k r l e = sym (ap (λ (y : ℕ). y % q) e ∙ add-mul-mod_self_right r k q ∙ mod-eq_of_lt l)

module _ (x q m : ℕ) (two : 1 < q) (is : Reciprocal q m) (fits : x < 4294967296) where
  abbrev t : ℕ
  t = x * m / 4294967296

  below : m * q ≤ 4294967295
  below = rw is (div-mul-le_self 4294967295 q)

  above : 4294967296 ≤ m * q + q
  above = rw is (omega (arith, lt-div-mul-add {a = 4294967295} {b = q} (omega arith)))

  -- the multiple of q that is taken away is not above x
  pub low : t * q ≤ x
  low = omega (
    arith,
    mul-le-mul_right q (div-mul-le_self (x * m) 4294967296),
    mul_assoc x m q,
    mul-le-mul_left x below,
    mul_right_comm t 4294967296 q,
  )

  -- and leaves less than 2·q
  high : x < t * q + q + q
  high =
      let upper : x * m ≤ t * 4294967296 + 4294967296 = omega (arith, lt-div-mul-add {a = x * m} {b = 4294967296} (omega arith)) in
      let small : x ≤ 4294967295 = omega arith in
      omega (
        arith,
        mul-le-mul_right q upper,
        add-mul (t * 4294967296) 4294967296 q,
        mul_right_comm t 4294967296 q,
        mul-le-mul_left x above,
        mul-add x (m * q) q,
        mul_assoc x m q,
        mul-le-mul_right q small,
      )

  pub once : q ≤ x - t * q → (x - t * q - q < q) × (x - t * q - q ≡ x % q)
  once l =
      let r : x - t * q - q < q = omega (arith, high) in
      (r, remainder_is x q (suc t) (x - t * q - q) r (omega (arith, low, suc-mul t q)))

  pub none : x - t * q < q → x - t * q ≡ x % q
  none l = remainder_is x q t (x - t * q) l (omega (arith, low))
