-- Every nonzero symbol has one inverse modulo a prime, and the definition of rules finds it: by induction from p % a to a.
use mathlib.Core.Path.{◌≡◌, sym, ◌∙◌, ap}
use mathlib.Core.Logic.{⊎_elim}
use Prim.Native.Nat.{ℕ, zero, suc, ◌+◌, ◌-◌, ◌*◌, ◌/◌, ◌%◌, ◌≤◌, ◌<◌}
use native.Mathlib.Nat.{mod-lt, mod-eq_of_lt, mod-mod, zero-mod, zero-mul, div-add-mod, add-mul-mod_self_left, mul-one, one-mul, mul_comm, mul_assoc, mul_left_comm, add-mul, pos_of_ne-zero, eq-or-lt_of_le}
use native.Mathlib.Omega.{arith}
use lib.Dec.{T, eqb→eq, eqb_refl}
use Rattle.rules.specs.Lists.{below}
use Rattle.rules.specs.Field.{ops, times, alike, inverse}
use Rattle.rules.proofs.Tests.{pick_mem, pick_none, from_mem, mem_from}
use Rattle.prime.proofs.Mod.{mul_mod_left, mul_mod_right}
use Rattle.prime.proofs.Tests.{Prime}

-- p = a·q + r, and b takes r to 1: then q·(p−1)·b takes a to 1
module _ (p a q r c b : ℕ) (e : a * q + r ≡ p) (f : c + 1 ≡ p) where
  whole : a * (q * (c * b)) + p * (r * b) ≡ r * b + p * (c * b)
  whole = omega (
    arith,
    add-mul (a * q) r (c * b),
    ap (λ n. n * (c * b)) e,
    mul_assoc a q (c * b),
    mul_left_comm r c b,
    add-mul c 1 (r * b),
    ap (λ n. n * (r * b)) f,
    one-mul (r * b),
  )

  turn : r * b % p ≡ 1 → a * (q * (c * b)) % p ≡ 1
  turn g = sym (add-mul-mod_self_left _ p (r * b)) ∙ ap (λ x. x % p) whole ∙ add-mul-mod_self_left (r * b) p (c * b) ∙ g

module _ (p : ℕ) (h : Prime p) where
  exists : (n a : ℕ) → a ≤ n → 0 < a → a < p → (b : ℕ) × (a * b % p ≡ 1)
  exists zero a l s u = absurd (omega arith)
  exists (suc n) a l s u =
      ⊎_elim (λ e. (1, ap (λ x. x % p) (mul-one a) ∙ mod-eq_of_lt u ∙ sym e))
      (λ g. let r = exists n (p % a) (omega (arith, mod-lt p s)) (pos_of_ne-zero (h.none a g u)) (omega (arith, mod-lt p s)) in
      (p / a * ((p - 1) * r.0), turn p a (p / a) (p % a) (p - 1) r.0 (div-add-mod p a) (omega arith) r.1))
      (eq-or-lt_of_le s)

  -- b is below p, and a·b leaves 1
  pub record Inverse (a b : ℕ) : Type 0 where
    pub symbol : b < p
    pub product : a * b % p ≡ 1

  -- the test that the definition makes, and what it says
  passed : (a b : ℕ) → a * b % p ≡ 1 → T (alike p (times p a b) 1)
  unfolding alike times
  passed a b e = rw e (eqb_refl (1 % p))

  passes : (a b : ℕ) → T (alike p (times p a b) 1) → a * b % p ≡ 1
  unfolding alike times
  passes a b t = sym (mod-mod (a * b) p) ∙ eqb→eq _ _ t ∙ mod-eq_of_lt h.two

  pub inverse_is : (a : ℕ) → 0 < a → a < p → Inverse a (inverse (ops p) a)
  unfolding inverse below
  inverse_is a s u =
      let w = exists a a (omega arith) s u in
      let l : 0 < p = omega arith in
      pick_mem (λ b. alike p (times p a b) 1) (Inverse a) (w.0 % p) _ 0 (from_mem _ 0 p (omega arith) (omega (arith, mod-lt w.0 l)))
      (passed a (w.0 % p) (mul_mod_right p a w.0 ∙ w.1))
      (λ b m t. record { symbol = omega (arith, mem_from b 0 p m); product = passes a b t })

  pub inverse_times : (a : ℕ) → 0 < a → a < p → times p a (inverse (ops p) a) ≡ 1
  unfolding times
  inverse_times a s u = (inverse_is a s u).product

  pub inverse_only : (a b : ℕ) → 0 < a → a < p → Inverse a b → b ≡ inverse (ops p) a
  inverse_only a b s u v =
      let i = inverse (ops p) a in
      let w = inverse_is a s u in
      sym (mod-eq_of_lt v.symbol) ∙ ap (λ x. x % p) (sym (mul-one b)) ∙ ap (λ x. b * x % p) (sym w.product) ∙ mul_mod_right p b (a * i)
      ∙ ap (λ x. x % p) (sym (mul_assoc b a i) ∙ ap (λ x. x * i) (mul_comm b a)) ∙ sym (mul_mod_left p (a * b) i)
      ∙ ap (λ x. x * i % p) v.product ∙ ap (λ x. x % p) (one-mul i) ∙ mod-eq_of_lt w.symbol

  pub inverse_zero : inverse (ops p) 0 ≡ 0
  unfolding inverse alike times
  inverse_zero = pick_none (λ b. alike p (times p 0 b) 1) (below p) 0 (λ b. simp (zero-mul, zero-mod, mod-eq_of_lt h.two))
