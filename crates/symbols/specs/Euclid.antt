-- What the repeated division of the inverse carries: two remainders, and for each a factor that some number takes to it modulo q.
use Rattle.std.specs.Prelude.{◌≡◌, ℕ, ◌*◌, ◌%◌, ◌<◌, ◌≤◌, T}
use Rattle.rules.specs.Field.{modulus}

-- only 1 divides both remainders, of which the second is the smaller and not 0
pub record Chain (q r0 r1 s0 s1 : ℕ) : Type 0 where
  pub field : T (modulus q)
  pub first : r0 ≤ q
  pub falls : r1 < r0
  pub some : 0 < r1
  pub below : s1 < q
  pub coprime : (d : ℕ) → 0 < d → r0 % d ≡ 0 → r1 % d ≡ 0 → d ≡ 1

-- r is below q, and what takes s0 and s1 to r0 and r1 takes r to 1
pub record Factor (q r0 r1 s0 s1 r : ℕ) : Type 0 where
  pub below : r < q
  pub one : (a : ℕ) → a * s0 % q ≡ r0 % q → a * s1 % q ≡ r1 % q → a * r % q ≡ 1
