-- The conditions of triples, one after the other: each is ready after those before it, and there are as many as document 01 counts.
use mathlib.Core.Path.{◌≡◌, refl, sym, ◌∙◌, ap, subst, fun_ext}
use mathlib.Core.Logic.{⊎_elim}
use mathlib.Core.List.Memᴰ
use mathlib.Core.List.{List, [], ◌∷◌, ◌++◌, map, flat_map, zip_with, append-nil, append_assoc, Memᴰ}
use Prim.Native.Nat.{ℕ, zero, suc, ◌<◌, ◌+◌, ◌*◌, ◌-◌, ◌/◌}
use native.Mathlib.Omega.{arith}
use native.Mathlib.Nat.{suc-mul, mul-suc, mul_assoc, div-eq_of_eq-mul_left}
use lib.ListN.{length, get_or, take, length-map}
use lib.Seq.{take-suc}
use Rattle.rules.specs.Lists.{from, below, sum}
use Rattle.rules.specs.Code.{Triple, triples}
use Rattle.rules.proofs.Tests.{map_mem, from_mem, mem_from}
use Rattle.algebra.specs.Conditions.{Condition, condition, conditions_along, conditions_at, conditions, Ready}
use Rattle.algebra.proofs.Lists.{map_append, length_flat_map}

-- lists over the numbers below n grow at their end

from_suc : (a n : ℕ) → from a (suc n) ≡ from a n ++ ((a + n) ∷ [])
unfolding from
from_suc a zero = ap (λ k. k ∷ []) (omega arith)
from_suc a (suc n) = ap (◌∷◌ a) (from_suc (suc a) n ∙ ap (λ k. from (suc a) n ++ (k ∷ [])) (omega arith))

below_suc : (n : ℕ) → below (suc n) ≡ below n ++ (n ∷ [])
unfolding below
below_suc n = from_suc 0 n ∙ ap (λ k. from 0 n ++ (k ∷ [])) (omega arith)

module _ {B : Type 0} where
  flat_append : {A : Type 0} (f : A → List B) (xs ys : List A) → flat_map f (xs ++ ys) ≡ flat_map f xs ++ flat_map f ys
  unfolding flat_map
  flat_append f [] ys = refl
  flat_append f (x ∷ xs) ys = ap (◌++◌ (f x)) (flat_append f xs ys) ∙ sym (append_assoc (f x) (flat_map f xs) (flat_map f ys))

  flat_one : {A : Type 0} (f : A → List B) (x : A) → flat_map f (x ∷ []) ≡ f x
  unfolding flat_map
  flat_one f x = append-nil (f x)

  pub map_more : (cs : List B) (f : ℕ → B) (n : ℕ) → cs ++ map f (below (suc n)) ≡ cs ++ map f (below n) ++ (f n ∷ [])
  map_more cs f n = ap (λ ns. cs ++ map f ns) (below_suc n) ∙ ap (◌++◌ cs) (map_append f (below n) (n ∷ [])) ∙ sym (append_assoc cs _ _)

  pub flat_more : (cs : List B) (f : ℕ → List B) (n : ℕ) → cs ++ flat_map f (below (suc n)) ≡ cs ++ flat_map f (below n) ++ f n
  flat_more cs f n =
      ap (λ ns. cs ++ flat_map f ns) (below_suc n) ∙ ap (◌++◌ cs) (flat_append f (below n) (n ∷ []) ∙ ap (◌++◌ (flat_map f (below n))) (flat_one f n))
      ∙ sym (append_assoc cs _ _)

module _ {A : Type 0} where
  pub conditions_more : (zs : List (Triple A)) (j : ℕ) (z : Triple A) → j < length zs →
      conditions (take (suc j) zs) ≡ conditions (take j zs) ++ conditions_at (get_or zs j z)
  unfolding conditions
  conditions_more zs j z l = ap (flat_map conditions_at) (take-suc zs j z l) ∙ flat_append conditions_at (take j zs) _
      ∙ ap (◌++◌ (conditions (take j zs))) (flat_one conditions_at (get_or zs j z))

pub length_from : (a n : ℕ) → length (from a n) ≡ n
unfolding from
length_from a zero = refl
length_from a (suc n) = ap suc (length_from (suc a) n)

-- n + (n − 1) + .. + 1
triangle : (m a n : ℕ) → a + n ≡ m → sum (λ b. m - b) (from a n) * 2 ≡ n * (n + 1)
unfolding sum from
triangle m a zero e = refl
triangle m a (suc n) e = omega (arith, triangle m (suc a) n (omega arith), suc-mul n (suc n + 1), mul-suc n (n + 1))

module _ {A : Type 0} where
  count_at : (z : Triple A) → length (conditions_at z) ≡ z.times * (z.times + 1) / 2
  unfolding conditions_at conditions_along below
  count_at z =
      length_flat_map _ (below z.times) ∙ ap (λ f. sum f (below z.times))
      (fun_ext (λ b. length-map (below (z.times - b)) (condition z b) ∙ length_from 0 (z.times - b)))
      ∙ sym (div-eq_of_eq-mul_left (omega arith) (sym (triangle z.times 0 z.times (omega arith))))

  pub count : (zs : List (Triple A)) → length (conditions zs) ≡ sum (λ z. z.times * (z.times + 1) / 2) zs
  unfolding conditions
  count zs = length_flat_map conditions_at zs ∙ ap (λ f. sum f zs) (fun_ext count_at)

  sum_triples : (f : ℕ → ℕ) (s : ℕ) (points word : List A) → length points ≡ length word → sum (λ z. f z.times) (triples s points word) ≡ length points * f s
  unfolding triples zip_with sum
  sum_triples f s [] word e = omega arith
  sum_triples f s (α ∷ points) [] e = absurd (omega arith)
  sum_triples f s (α ∷ points) (r ∷ word) e = omega (arith, sum_triples f s points word (omega arith), suc-mul (length points) (f s))

  -- "C = n·s·(s+1)/2, the number of conditions"
  pub count_triples : (s n : ℕ) (points word : List A) → length points ≡ n → length word ≡ n → length (conditions (triples s points word)) ≡ n * s * (s + 1) / 2
  count_triples s n points word p w =
      count (triples s points word) ∙ sum_triples (λ m. m * (m + 1) / 2) s points word (p ∙ sym w) ∙ ap (λ m. m * half) p
      ∙ sym (div-eq_of_eq-mul_left (omega arith) (mul_assoc n s (s + 1) ∙ ap (◌*◌ n) (sym whole) ∙ sym (mul_assoc n half 2)))
    where
      half : ℕ
      half = s * (s + 1) / 2

      whole : half * 2 ≡ s * (s + 1)
      whole = let e = triangle s 0 s (omega arith) in ap (λ m. m * 2) (div-eq_of_eq-mul_left (omega arith) (sym e)) ∙ e

mem_map : {A B : Type 0} (f : A → B) (xs : List A) {y : B} → Memᴰ y (map f xs) → (x : A) × Memᴰ x xs × (y ≡ f x)
mem_map f [] m = elim m [ ]
mem_map f (x ∷ xs) (Memᴰ.head e) = (x, Memᴰ.head refl, e)
mem_map f (x ∷ xs) (Memᴰ.tail m) = let r = mem_map f xs m in (r.0, Memᴰ.tail r.1, r.2)

flat_mem : {A B : Type 0} (f : A → List B) {x : A} {xs : List A} {y : B} → Memᴰ x xs → Memᴰ y (f x) → Memᴰ y (flat_map f xs)
unfolding flat_map
flat_mem f {y = y} (Memᴰ.head {xs = xs} e) m = Memᴰ.append_left (flat_map f xs) (subst (λ x. Memᴰ y (f x)) e m)
flat_mem f (Memᴰ.tail {x = x} k) m = Memᴰ.append_right (f x) (flat_mem f k m)

mem_flat : {A B : Type 0} (f : A → List B) (xs : List A) {y : B} → Memᴰ y (flat_map f xs) → (x : A) × Memᴰ x xs × Memᴰ y (f x)
unfolding flat_map
mem_flat f [] m = absurd (Memᴰ.not-nil m)
mem_flat f (x ∷ xs) m =
    ⊎_elim (λ k. (x, Memᴰ.head refl, k)) (λ k. let r = mem_flat f xs k in (r.0, Memᴰ.tail r.1, r.2)) (Memᴰ.append_cases (f x) m)

-- the conditions of triples are those with a + b below the multiplicity
module _ {A : Type 0} (zs : List (Triple A)) where
  pub condition_mem : {z : Triple A} → Memᴰ z zs → (a b : ℕ) → a + b < z.times → Memᴰ (condition z b a) (conditions zs)
  unfolding conditions conditions_at conditions_along below
  condition_mem {z} m a b l =
      flat_mem conditions_at m
      (flat_mem (conditions_along z) (from_mem b 0 z.times (omega arith) (omega arith))
      (map_mem (condition z b) (from_mem a 0 (z.times - b) (omega arith) (omega arith))))

  pub mem_condition : {c : Condition A} → Memᴰ c (conditions zs) →
      (z : Triple A) × Memᴰ z zs × (a : ℕ) × (b : ℕ) × (a + b < z.times) × (c ≡ condition z b a)
  unfolding conditions conditions_at conditions_along below
  mem_condition m =
      let r = mem_flat conditions_at zs m in
      let z = r.0 in
      let s = mem_flat (conditions_along z) (below z.times) r.2 in
      let t = mem_map (condition z s.0) (below (z.times - s.0)) s.2 in
      let u = mem_from s.0 0 z.times s.1 in
      let v = mem_from t.0 0 (z.times - s.0) t.1 in
      (z, r.1, t.0, s.0, omega arith, t.2)

-- (a − 1, b) comes right before (a, b)
pub ready : {A : Type 0} (cs : List (Condition A)) (z : Triple A) (b a : ℕ) → Ready (cs ++ map (condition z b) (below a)) (condition z b a)
unfolding condition below
ready cs z b a a' e = Memᴰ.append_right cs (map_mem (condition z b) (from_mem a' 0 a (omega arith) (omega arith)))
