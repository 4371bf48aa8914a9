-- The decimal digits of a number are those that the library writes, and how many there are.
use mathlib.Core.Path.{◌≡◌, ap}
use mathlib.Core.List.{[], ◌∷◌, ◌++◌}
use Prim.Native.Nat.{ℕ, suc, ◌+◌, ◌/◌, ◌%◌, ◌^◌, ◌<◌, ◌≤◌}
use native.Mathlib.Omega.{arith}
use lib.ListN.{length}
use borrow.Author.Tests.{lt-ltb, le-ltb}
use Rattle.std.proofs.lemmas.Fmt.{decimal_from_appends, length-decimal-le}
use Rattle.std.specs.Fmt.{decimal}
use Rattle.rules.specs.Patch.{digits_in, digits}

in_small : (f n : ℕ) → n < 10 → digits_in (suc f) n ≡ (48 + n) ∷ []
unfolding digits_in
in_small f n l = simp (lt-ltb n 10 l)

in_more : (f n : ℕ) → 10 ≤ n → digits_in (suc f) n ≡ digits_in f (n / 10) ++ ((48 + n % 10) ∷ [])
unfolding digits_in
in_more f n l = simp (le-ltb n 10 l)

pub as_written : (n : ℕ) → n < 2 ^ 64 → digits n ≡ decimal n
unfolding digits
as_written n l = decimal_from_appends digits_in (record { one = in_small; more = in_more }) 20 n l (length-decimal-le 20 n (omega arith) (omega arith) l)

-- so a field has at most 5 digits, and a number of 64 bits 20
few : (g n : ℕ) → 0 < g → n < 10 ^ g → n < 2 ^ 64 → length (digits n) ≤ g
few g n z l h = omega (arith, ap length (as_written n h), length-decimal-le g n z l h)

pub field_digits : (n : ℕ) → n < 2 ^ 16 → length (digits n) ≤ 5
field_digits n l = few 5 n (omega arith) (omega arith) (omega arith)

pub most_digits : (n : ℕ) → n < 2 ^ 64 → length (digits n) ≤ 20
most_digits n l = few 20 n (omega arith) (omega arith) l
