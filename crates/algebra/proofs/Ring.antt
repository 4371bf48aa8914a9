-- What follows from a field's laws: the ring laws that every other file of the crate sorts its terms with.
use mathlib.Core.Path.{◌≡◌, sym, ◌∙◌, ap, ap₂, subst}
use mathlib.Core.Bool.{Bool, true, false}
use Prim.Native.Nat.{ℕ, zero, suc, ◌+◌}
use native.Mathlib.Nat.{zero-add, suc-add}
use lib.Dec.{T}
use Rattle.rules.specs.Field.{Ops, inverse}
use Rattle.rules.specs.Laws.{Laws}
use Rattle.algebra.specs.Poly.{neg}

module _ (O : Ops) (L : Laws O) where
  open O use {Symbol, nil, one, add, sub, mul, of_nat, same}

  pub add_left_comm : (a b c : Symbol) → add a (add b c) ≡ add b (add a c)
  add_left_comm a b c = sym (L.add_assoc a b c) ∙ ap (λ x. add x c) (L.add_comm a b) ∙ L.add_assoc b a c

  pub mul_left_comm : (a b c : Symbol) → mul a (mul b c) ≡ mul b (mul a c)
  mul_left_comm a b c = sym (L.mul_assoc a b c) ∙ ap (λ x. mul x c) (L.mul_comm a b) ∙ L.mul_assoc b a c

  pub nil_add : (a : Symbol) → add nil a ≡ a
  nil_add a = L.add_comm _ _ ∙ L.add_nil a

  pub one_mul : (a : Symbol) → mul one a ≡ a
  one_mul a = L.mul_comm _ _ ∙ L.mul_one a

  pub add_mul : (a b c : Symbol) → mul (add a b) c ≡ add (mul a c) (mul b c)
  add_mul a b c = L.mul_comm _ _ ∙ L.mul_add c a b ∙ ap₂ add (L.mul_comm c a) (L.mul_comm c b)

  pub neg_add : (a : Symbol) → add (neg O a) a ≡ nil
  neg_add a = L.sub_add nil a

  pub add_neg : (a : Symbol) → add a (neg O a) ≡ nil
  add_neg a = L.add_comm _ _ ∙ neg_add a

  pub cancel : (a b c : Symbol) → add a b ≡ add a c → b ≡ c
  cancel a b c e = sym (front b) ∙ ap (add (neg O a)) e ∙ front c
    where
      front : (x : Symbol) → add (neg O a) (add a x) ≡ x
      front x = sym (L.add_assoc _ _ _) ∙ ap (λ y. add y x) (neg_add a) ∙ nil_add x

  pub mul_nil : (a : Symbol) → mul a nil ≡ nil
  mul_nil a = cancel (mul a nil) _ _ (sym (L.mul_add a nil nil) ∙ ap (mul a) (L.add_nil _) ∙ sym (L.add_nil _))

  pub nil_mul : (a : Symbol) → mul nil a ≡ nil
  nil_mul a = L.mul_comm _ _ ∙ mul_nil a

  pub mul_neg : (a b : Symbol) → mul a (neg O b) ≡ neg O (mul a b)
  mul_neg a b = cancel (mul a b) _ _ (sym (L.mul_add a b (neg O b)) ∙ ap (mul a) (add_neg b) ∙ mul_nil a ∙ sym (add_neg (mul a b)))

  -- a difference that is zero
  pub sub_nil : (a b : Symbol) → add a (neg O b) ≡ nil → a ≡ b
  sub_nil a b e =
      sym (L.add_nil a) ∙ ap (add a) (sym (neg_add b)) ∙ sym (L.add_assoc _ _ _) ∙ ap (λ x. add x b) e ∙ nil_add b

  pub no_zero_divisor : (c x : Symbol) → ¬ (c ≡ nil) → mul c x ≡ nil → x ≡ nil
  no_zero_divisor c x n e =
      sym (L.mul_one x) ∙ ap (mul x) (sym (L.mul_inverse c n)) ∙ (simp (mul_left_comm, L.mul_comm)) ∙ ap (mul (inverse O c)) e ∙ mul_nil _

  -- where i takes y to one, x loses x·i of y
  pub clears : (x y i : Symbol) → mul y i ≡ one → add x (mul (neg O (mul x i)) y) ≡ nil
  clears x y i h =
      let q = mul x i in
      let whole : x ≡ mul q y = sym (L.mul_assoc x i y ∙ ap (mul x) (L.mul_comm i y ∙ h) ∙ L.mul_one x) in
      ap (λ z. add z (mul (neg O q) y)) whole ∙ sym (add_mul q (neg O q) y) ∙ ap (λ z. mul z y) (add_neg q) ∙ nil_mul y

  pub of_add : (m n : ℕ) → of_nat (m + n) ≡ add (of_nat m) (of_nat n)
  of_add zero n = ap of_nat (zero-add n) ∙ sym (nil_add _) ∙ ap (λ x. add x (of_nat n)) (sym L.of_zero)
  of_add (suc m) n = ap of_nat (suc-add m n) ∙ L.of_suc (m + n) ∙ ap (add one) (of_add m n) ∙ sym (L.add_assoc _ _ _)
      ∙ ap (λ x. add x (of_nat n)) (sym (L.of_suc m))

  pub of_one : of_nat 1 ≡ one
  of_one = L.of_suc 0 ∙ ap (add one) L.of_zero ∙ L.add_nil one

  -- the test of rules and equality
  pub same_if : (a b : Symbol) → a ≡ b → T (same a b)
  same_if a b e = subst (λ c. T (same a c)) e (L.same_refl a)

  pub decide : (a b : Symbol) → Dec (a ≡ b)
  decide a b = go (same a b) (L.same_eq a b) (same_if a b)
    where
      go : (x : Bool) → (T x → a ≡ b) → (a ≡ b → T x) → Dec (a ≡ b)
      go true f g = yes (f tt)
      go false f g = no (λ e. g e)
