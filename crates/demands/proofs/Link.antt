-- The numbers of a slice and the elements of the field: elt, which reduces, and value keep the operations, so every definition crosses.
use mathlib.Core.Path.{◌≡◌, refl, sym, ◌∙◌, ap, ap₂}
use mathlib.Core.Bool.{not, ◌&&◌}
use mathlib.Core.List.{List, [], ◌∷◌, map}
use Prim.Native.Nat.{ℕ, zero, suc, ◌+◌, ◌%◌, ◌≤◌, ◌<◌, Fin}
use native.Mathlib.Nat.{mod-eq_of_lt, zero-mod}
use native.Mathlib.Omega.{arith}
use lib.Dec.{T, eqb, ltb, ltb→lt}
use Rattle.rules.specs.Lists.{from, below, all, distinct}
use Rattle.rules.specs.Field.{Ops, ops, modulus}
use Rattle.rules.proofs.Tests.{both}
use Rattle.algebra.specs.Hom.{Hom}
use Rattle.prime.specs.Field.{value, elt, field}
use Rattle.prime.proofs.Below.{plus_below, times_below, image_below, plus_reduced, times_reduced, alike_reduced, alike_below}
use Rattle.prime.proofs.Laws.{elt_value}

module _ (q : ℕ) (m : T (modulus q)) (h : 1 < q) where
  abbrev F : Ops
  F = field q h

  abbrev e : ℕ → Fin q
  e = elt q h

  pub elt_hom : Hom (ops q) F e
  elt_hom = record {
    nil = refl;
    one = refl;
    add = λ a b. native.Mathlib.Fin.val_path (ap (λ x. x % q) (sym (plus_reduced q a b)));
    mul = λ a b. native.Mathlib.Fin.val_path (ap (λ x. x % q) (sym (times_reduced q a b)));
    of_nat = λ n. refl;
    same = λ a b. sym (alike_reduced q a b);
    symbols = refl;
  }

  value_from : (a n : ℕ) → a + n ≤ q → map value (map e (from a n)) ≡ from a n
  unfolding from
  value_from a zero u = refl
  value_from a (suc n) u = ap₂ ◌∷◌ (mod-eq_of_lt (omega arith)) (value_from (suc a) n (omega arith))

  pub value_hom : Hom F (ops q) value
  value_hom = record {
    nil = zero-mod q;
    one = mod-eq_of_lt h;
    add = λ a b. mod-eq_of_lt (plus_below q m _ _);
    mul = λ a b. mod-eq_of_lt (times_below q m _ _);
    of_nat = λ n. mod-eq_of_lt (image_below q m n);
    same = λ a b. refl;
    symbols = unfold below in value_from 0 q (omega arith);
  }

  -- a list of elements is the list of its values
  pub elts_values : (f : List (Fin q)) → map e (map value f) ≡ f
  elts_values [] = refl
  elts_values (a ∷ f) = ap₂ ◌∷◌ (elt_value q h a) (elts_values f)

  -- points that differ as numbers differ as elements
  pub distinct_elts : (xs : List ℕ) → T (all (λ a. ltb a q) xs) → distinct eqb xs ≡ distinct F.same (map e xs)
  unfolding distinct all
  distinct_elts [] t = refl
  distinct_elts (x ∷ xs) t =
      let r = both (ltb x q) _ t in
      ap₂ ◌&&◌ (apart x xs (ltb→lt x q r.0) r.1) (distinct_elts xs r.1)
    where
      apart : (x : ℕ) (xs : List ℕ) → x < q → T (all (λ a. ltb a q) xs) → all (λ y. not (eqb x y)) xs ≡ all (λ y. not (F.same (e x) y)) (map e xs)
      apart x [] l t = refl
      apart x (y ∷ xs) l t =
          let r = both (ltb y q) _ t in
          ap₂ (λ a b. not a && b) (sym (alike_reduced q x y ∙ alike_below q x y l (ltb→lt y q r.0))) (apart x xs l r.1)
