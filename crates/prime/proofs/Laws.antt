-- The numbers below a number q that names a field are a field with the operations of rules: once for every q.
use mathlib.Core.Path.{◌≡◌, sym, ◌∙◌, ap, subst}
use mathlib.Core.Bool.{not}
use mathlib.Core.List.Memᴰ
use mathlib.Core.List.{map, Memᴰ}
use Prim.Native.Nat.{ℕ, zero, suc, ◌+◌, ◌-◌, ◌*◌, ◌%◌, ◌≤◌, ◌<◌, Fin}
use native.Mathlib.Nat.{mod-eq_of_lt, mod-mod, zero-mod, mod-add-mod, add-mod-mod, add-mod_right, add_comm, add_assoc, add-zero, mul_comm, mul_assoc, mul-add, mul-one, pos_of_ne-zero}
use native.Mathlib.Omega.{arith}
use lib.Dec.{T, not_T, eqb→eq, eqb_refl}
use Rattle.rules.specs.Lists.{from, below, all, distinct}
use Rattle.rules.specs.Field.{Ops, ops, plus, minus, times, image, alike, modulus, inverse}
use Rattle.rules.specs.Laws.{Laws}
use Rattle.rules.proofs.Tests.{and, pick_mem, map_mem, from_mem}
use Rattle.prime.specs.Field.{value, elt, field}
use Rattle.prime.proofs.Mod.{mul_mod_left, mul_mod_right}
use Rattle.prime.proofs.Tests.{modulus_says}
use Rattle.prime.proofs.Inverse.{inverse_is}

module _ (q : ℕ) (h : 1 < q) where
  abbrev F : Ops
  F = field q h

  pub elt_value : (a : Fin q) → elt q h (value a) ≡ a
  elt_value a = native.Mathlib.Fin.val_path (mod-eq_of_lt a.1)

  every : (a : Fin q) → Memᴰ a (map (elt q h) (below q))
  unfolding below
  every a = Memᴰ.cast (sym (elt_value a)) (map_mem (elt q h) (from_mem (value a) 0 q (omega arith) (omega (arith, a.1))))

  same_eq : (a b : Fin q) → T (F.same a b) → a ≡ b
  unfolding alike
  same_eq a b t = native.Mathlib.Fin.val_path (sym (mod-eq_of_lt a.1) ∙ eqb→eq _ _ t ∙ mod-eq_of_lt b.1)

  same_refl : (a : Fin q) → T (F.same a a)
  unfolding alike
  same_refl a = eqb_refl (a.0 % q)

  apart : (a b n : ℕ) → a < b → b + n ≤ q → T (all (λ y. not (F.same (elt q h a) y)) (map (elt q h) (from b n)))
  unfolding all from
  apart a b zero l u = tt
  apart a b (suc n) l u = and (not (F.same (elt q h a) (elt q h b))) (all (λ y. not (F.same (elt q h a) y)) (map (elt q h) (from (suc b) n)))
      (not_T (F.same (elt q h a) (elt q h b)) λ t.
      let e : a % q ≡ b % q = ap value (same_eq (elt q h a) (elt q h b) t) in
      let s : a % q ≡ a = mod-eq_of_lt (omega arith) in
      let r : b % q ≡ b = mod-eq_of_lt (omega arith) in
      omega arith)
      (apart a (suc b) n (omega arith) (omega arith))

  once : (a n : ℕ) → a + n ≤ q → T (distinct F.same (map (elt q h) (from a n)))
  unfolding distinct from
  once a zero l = tt
  once a (suc n) l = and (all (λ y. not (F.same (elt q h a) y)) (map (elt q h) (from (suc a) n)))
      (distinct F.same (map (elt q h) (from (suc a) n))) (apart a (suc a) n (omega arith) (omega arith)) (once (suc a) n (omega arith))

  sub_add : (a b : Fin q) → F.add (F.sub a b) b ≡ a
  unfolding plus minus
  sub_add a b = native.Mathlib.Fin.val_path (simp (mod-mod, mod-add-mod, mod-eq_of_lt b.1) (ap (λ x. x % q) back ∙ add-mod_right a.0 q ∙ mod-eq_of_lt a.1))
    where
      back : a.0 + (q - b.0) + b.0 ≡ a.0 + q
      back = omega (arith, b.1)

  one_nil : ¬ (F.one ≡ F.nil)
  one_nil e = omega (arith, sym (mod-eq_of_lt h) ∙ ap value e ∙ zero-mod q)

  product : (a : Fin q) (i : ℕ) → value a * i % q ≡ 1 → F.mul a (elt q h i) ≡ F.one
  unfolding times
  product a i e = native.Mathlib.Fin.val_path (simp (mod-mod, mul_mod_right) (e ∙ sym (mod-eq_of_lt h)))

  mul_inverse : T (modulus q) → (a : Fin q) → ¬ (a ≡ F.nil) → F.mul a (inverse F a) ≡ F.one
  unfolding inverse
  mul_inverse m a n =
      let i = inverse (ops q) (value a) in
      let w = inverse_is q (modulus_says q m) a.0 (pos_of_ne-zero (λ e. n (native.Mathlib.Fin.val_path (e ∙ sym (zero-mod q))))) a.1 in
      pick_mem (λ b. F.same (F.mul a b) F.one) (λ b. F.mul a b ≡ F.one) (elt q h i) F.symbols F.nil (every (elt q h i))
      (subst (λ x. T (F.same x F.one)) (sym (product a i w.product)) (same_refl F.one))
      (λ b _ t. same_eq (F.mul a b) F.one t)

pub laws : (q : ℕ) (m : T (modulus q)) (h : 1 < q) → Laws (field q h)
unfolding plus times image
laws q m h = record {
  add_assoc = λ a b c. native.Mathlib.Fin.val_path (simp (mod-mod, mod-add-mod, add-mod-mod, add_assoc));
  add_comm = λ a b. native.Mathlib.Fin.val_path (ap (λ x. x % q % q) (add_comm a.0 b.0));
  add_nil = λ a. native.Mathlib.Fin.val_path (simp (mod-mod, add-mod-mod, add-zero) (mod-eq_of_lt a.1));
  sub_add = sub_add q h;
  mul_assoc = λ a b c. native.Mathlib.Fin.val_path (simp (mod-mod, mul_mod_left, mul_mod_right, mul_assoc));
  mul_comm = λ a b. native.Mathlib.Fin.val_path (ap (λ x. x % q % q) (mul_comm a.0 b.0));
  mul_one = λ a. native.Mathlib.Fin.val_path (simp (mod-mod, mul_mod_right, mul-one) (mod-eq_of_lt a.1));
  mul_add = λ a b c. native.Mathlib.Fin.val_path (simp (mod-mod, mul_mod_right, mod-add-mod, add-mod-mod, mul-add));
  one_nil = one_nil q h;
  mul_inverse = mul_inverse q h m;
  of_zero = native.Mathlib.Fin.val_path (mod-mod 0 q);
  of_suc = λ n. native.Mathlib.Fin.val_path (simp (mod-mod, mod-add-mod, add-mod-mod) (ap (λ x. x % q) (more n)));
  same_eq = same_eq q h;
  same_refl = same_refl q h;
  every = every q h;
  once = unfold below in once q h 0 q (omega arith);
}
  where
    more : (n : ℕ) → suc n ≡ 1 + n
    more n = omega arith
