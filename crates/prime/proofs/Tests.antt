-- What the test for a prime says, both ways.
use mathlib.Core.Path.{◌≡◌}
use mathlib.Core.Bool.{not, ◌&&◌}
use Prim.Native.Nat.{ℕ, ◌-◌, ◌%◌, ◌≤◌, ◌<◌}
use native.Mathlib.Omega.{arith}
use lib.Dec.{T, T_not, not_T, leb, eqb, leb→le, le→leb, eqb→eq}
use Rattle.rules.specs.Lists.{from}
use Rattle.rules.specs.Field.{prime, modulus}
use Rattle.rules.proofs.Tests.{both, and, all_at, all_of, from_mem, mem_from}

pub record Prime (p : ℕ) : Type 0 where
  pub two : 2 ≤ p
  pub small : p ≤ 929
  pub none : (d : ℕ) → 2 ≤ d → d < p → ¬ (p % d ≡ 0)

pub prime_says : (p : ℕ) → T (prime p) → Prime p
unfolding prime
prime_says p t =
    let r = both (leb 2 p && leb p 929) _ t in
    let s = both (leb 2 p) (leb p 929) r.0 in
    let two : 2 ≤ p = leb→le 2 p s.0 in
    record {
      two = two;
      small = leb→le p 929 s.1;
      none = λ d l u e. T_not (eqb (p % d) 0) (all_at (λ d. not (eqb (p % d) 0)) d (from 2 (p - 2)) r.1 (from_mem d 2 (p - 2) l (omega arith))) (rw e tt);
    }

pub prime_if : (p : ℕ) → Prime p → T (prime p)
unfolding prime
prime_if p h =
    and (leb 2 p && leb p 929) _ (and (leb 2 p) (leb p 929) (le→leb 2 p h.two) (le→leb p 929 h.small))
    (all_of (λ d. not (eqb (p % d) 0)) (from 2 (p - 2)) λ d m. not_T (eqb (p % d) 0) λ t.
    let r = mem_from d 2 (p - 2) m in
    h.none d (omega arith) (omega (arith, h.two)) (eqb→eq (p % d) 0 t))

-- the numbers that name a field are the primes
pub modulus_says : (q : ℕ) → T (modulus q) → Prime q
unfolding modulus
modulus_says q t = prime_says q t

pub modulus_if : (q : ℕ) → Prime q → T (modulus q)
unfolding modulus
modulus_if q h = prime_if q h
