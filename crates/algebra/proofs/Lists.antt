-- How map and length pass through the list functions of rules.
use mathlib.Core.Path.{◌≡◌, refl, ◌∙◌, ap, ap₂}
use mathlib.Core.Bool.{Bool, true, false, cond, ◌&&◌}
use mathlib.Core.List.{List, [], ◌∷◌, ◌++◌, map, flat_map}
use Prim.Native.Nat.{ℕ, zero, suc, ◌+◌}
use lib.ListN.{length, take, drop, length-append}
use Rattle.rules.specs.Lists.{all, keep, sum}
use Rattle.rules.specs.Search.{rows, merge, width, rest}

module _ {A B : Type 0} (φ : A → B) where
  pub all_map : (test : B → Bool) (xs : List A) → all test (map φ xs) ≡ all (λ x. test (φ x)) xs
  unfolding all
  all_map test [] = refl
  all_map test (x ∷ xs) = ap (◌&&◌ (test (φ x))) (all_map test xs)

  pub sum_map : (f : B → ℕ) (xs : List A) → sum f (map φ xs) ≡ sum (λ x. f (φ x)) xs
  unfolding sum
  sum_map f [] = refl
  sum_map f (x ∷ xs) = ap (◌+◌ (f (φ x))) (sum_map f xs)

  pub map_append : (xs ys : List A) → map φ (xs ++ ys) ≡ map φ xs ++ map φ ys
  map_append [] ys = refl
  map_append (x ∷ xs) ys = ap (◌∷◌ (φ x)) (map_append xs ys)

  map_cond' : (b : Bool) (x y : List A) → map φ (cond b x y) ≡ cond b (map φ x) (map φ y)
  map_cond' true x y = refl
  map_cond' false x y = refl

  pub map_cond : (b : Bool) (x y : A) → φ (cond b x y) ≡ cond b (φ x) (φ y)
  map_cond true x y = refl
  map_cond false x y = refl

  pub map_keep : (test : A → Bool) (test' : B → Bool) → ((x : A) → test x ≡ test' (φ x)) → (xs : List A) → map φ (keep test xs) ≡ keep test' (map φ xs)
  unfolding keep
  map_keep test test' h [] = refl
  map_keep test test' h (x ∷ xs) = map_cond' (test x) _ _ ∙ ap₂ (λ b s. cond b (φ x ∷ s) s) (h x) (map_keep test test' h xs)

  pub map_take : (n : ℕ) (xs : List A) → map φ (take n xs) ≡ take n (map φ xs)
  map_take zero xs = refl
  map_take (suc n) [] = refl
  map_take (suc n) (x ∷ xs) = ap (◌∷◌ (φ x)) (map_take n xs)

  pub map_drop : (n : ℕ) (xs : List A) → map φ (drop n xs) ≡ drop n (map φ xs)
  map_drop zero xs = refl
  map_drop (suc n) [] = refl
  map_drop (suc n) (x ∷ xs) = map_drop n xs

  pub map_rows : (W n : ℕ) (Q : List A) → map (map φ) (rows W n Q) ≡ rows W n (map φ Q)
  unfolding rows
  map_rows W zero Q = refl
  map_rows W (suc n) Q = ap₂ ◌∷◌ (map_take W Q) (map_rows W n (drop W Q) ∙ ap (rows W n) (map_drop W Q))

  pub map_merge : (op : A → A → A) (op' : B → B → B) → ((a b : A) → φ (op a b) ≡ op' (φ a) (φ b)) → (s t : List A) →
      map φ (merge op s t) ≡ merge op' (map φ s) (map φ t)
  unfolding merge
  map_merge op op' h [] t = refl
  map_merge op op' h (a ∷ s) [] = refl
  map_merge op op' h (a ∷ s) (b ∷ t) = ap₂ ◌∷◌ (h a b) (map_merge op op' h s t)

  pub map_rest : (q : List A) → map φ (rest q) ≡ rest (map φ q)
  unfolding rest
  map_rest [] = refl
  map_rest (c ∷ q) = refl

  pub map_length : (q : List A) → length (map φ q) ≡ length q
  map_length [] = refl
  map_length (c ∷ q) = ap suc (map_length q)

  pub map_width : (Q : List (List A)) → width (map (map φ) Q) ≡ width Q
  unfolding width
  map_width [] = refl
  map_width (q ∷ Q) = simp (map_length, map_width Q)

-- two ways round a square, along a list
pub map_square : {A B C D : Type 0} (f : A → B) (g : B → D) (h : A → C) (k : C → D) → ((a : A) → g (f a) ≡ k (h a)) → (xs : List A) →
    map g (map f xs) ≡ map k (map h xs)
map_square f g h k e [] = refl
map_square f g h k e (x ∷ xs) = ap₂ ◌∷◌ (e x) (map_square f g h k e xs)

pub map_flat_map : {A B C D : Type 0} (φ : A → C) (ψ : B → D) (w : A → List B) (v : C → List D) → ((a : A) → map ψ (w a) ≡ v (φ a)) → (xs : List A) →
    map ψ (flat_map w xs) ≡ flat_map v (map φ xs)
unfolding flat_map
map_flat_map φ ψ w v h [] = refl
map_flat_map φ ψ w v h (x ∷ xs) = map_append ψ (w x) (flat_map w xs) ∙ ap₂ ◌++◌ (h x) (map_flat_map φ ψ w v h xs)

pub length_flat_map : {A B : Type 0} (f : A → List B) (xs : List A) → length (flat_map f xs) ≡ sum (λ x. length (f x)) xs
unfolding sum flat_map
length_flat_map f [] = refl
length_flat_map f (x ∷ xs) = length-append (f x) (flat_map f xs) ∙ ap (◌+◌ (length (f x))) (length_flat_map f xs)
