-- The symbols that a walk has passed: the messages found through them, one list behind the other, and the beginnings tried.
use mathlib.Core.Bool.{Bool, true, false, cond}
use mathlib.Core.Path.{◌≡◌, refl, sym, ap, ap₂, ◌∙◌}
use mathlib.Core.List.{List, [], ◌∷◌, ◌++◌, map, flat_map, append-nil, append_assoc}
use Prim.Native.Nat.{ℕ, zero, suc, ◌+◌, ◌-◌, ◌*◌, ◌<◌, ◌≤◌}
use native.Mathlib.Nat.{add-mul}
use native.Mathlib.Numerals.{add-one, sub-one}
use native.Mathlib.Omega.{arith}
use lib.ListN.{length, get_or, take, drop, length-append, length-map, take-append-drop}
use lib.Seq.{take-suc, take-length}
use Rattle.rules.specs.Code.{zeros}
use Rattle.rules.specs.Field.{ops}
use Rattle.rules.specs.Lists.{below, keep, sum}
use Rattle.rules.specs.Search.{follows}
use Rattle.algebra.specs.Search.{next, found, tried}
use Rattle.roots.specs.Ready.{listed}
use Rattle.followers.specs.Followers.{following}
use Rattle.roots.proofs.Roots.{listed_none, listed_one, listed_append, listed_more}

flat_map_append : {A B : Type 0} (f : A → List B) (xs ys : List A) → flat_map f (xs ++ ys) ≡ flat_map f xs ++ flat_map f ys
unfolding flat_map
flat_map_append f [] ys = refl
flat_map_append f (x ∷ xs) ys = ap (◌++◌ (f x)) (flat_map_append f xs ys) ∙ sym (append_assoc (f x) (flat_map f xs) (flat_map f ys))

sum_append : {A : Type 0} (f : A → ℕ) (xs ys : List A) → sum f (xs ++ ys) ≡ sum f xs + sum f ys
unfolding sum
sum_append f [] ys = omega arith
sum_append f (x ∷ xs) ys = omega (arith, sum_append f xs ys)

-- symbols that may not follow add nothing
module _ (test : ℕ → Bool) where
  flat_map_keep : {B : Type 0} (f : ℕ → List B) (xs : List ℕ) → flat_map (λ g. cond (test g) (f g) []) xs ≡ flat_map (λ g. cond (test g) (f g) []) (keep test xs)
  unfolding flat_map keep
  flat_map_keep f [] = refl
  flat_map_keep {B} f (x ∷ xs) = go (test x) refl (flat_map_keep f xs)
    where
      go : (b : Bool) → test x ≡ b → flat_map (λ g. cond (test g) (f g) []) xs ≡ flat_map (λ g. cond (test g) (f g) []) (keep test xs) →
          cond b (f x) [] ++ flat_map (λ g. cond (test g) (f g) []) xs ≡ flat_map (λ g. cond (test g) (f g) []) (cond b (x ∷ keep test xs) (keep test xs))
      go true e ih = ap₂ ◌++◌ (sym (ap (λ (b : Bool). cond b (f x) []) e)) ih
      go false e ih = ih

  sum_keep : (f : ℕ → ℕ) (xs : List ℕ) → sum (λ g. cond (test g) (f g) 0) xs ≡ sum (λ g. cond (test g) (f g) 0) (keep test xs)
  unfolding sum keep
  sum_keep f [] = refl
  sum_keep f (x ∷ xs) = go (test x) refl (sum_keep f xs)
    where
      go : (b : Bool) → test x ≡ b → sum (λ g. cond (test g) (f g) 0) xs ≡ sum (λ g. cond (test g) (f g) 0) (keep test xs) →
          cond b (f x) 0 + sum (λ g. cond (test g) (f g) 0) xs ≡ sum (λ g. cond (test g) (f g) 0) (cond b (x ∷ keep test xs) (keep test xs))
      go true e ih = ap₂ ◌+◌ (sym (ap (λ (b : Bool). cond b (f x) 0) e)) ih
      go false e ih = omega (arith, ih)

-- with k symbols to place after one that follows the beginning with the curve Q
module _ (q k : ℕ) (Q : List (List ℕ)) where
  abbrev pub through : ℕ → List (List ℕ)
  through g = cond (follows (ops q) Q g) (map (◌∷◌ g) (found (ops q) k (next (ops q) g Q))) []

  abbrev pub behind : ℕ → ℕ
  behind g = cond (follows (ops q) Q g) (tried (ops q) k (next (ops q) g Q)) 0

  abbrev ks : List ℕ
  ks = following q Q q

  -- through the first n symbols that may follow
  unfoldable pub walked : ℕ → List (List ℕ)
  walked n = flat_map through (take n ks)

  unfoldable pub passed : ℕ → ℕ
  passed n = sum behind (take n ks)

  pub walked_none : walked 0 ≡ []
  unfolding walked flat_map
  walked_none = refl

  pub passed_none : passed 0 ≡ 0
  unfolding passed sum
  passed_none = refl

  pub walked_more : (i : ℕ) → i < length ks → walked (i + 1) ≡ walked i ++ through (get_or ks i 0)
  unfolding walked flat_map
  walked_more i l =
      ap (λ (n : ℕ). flat_map through (take n ks)) (add-one i) ∙ ap (flat_map through) (take-suc ks i 0 l) ∙ flat_map_append through (take i ks) (get_or ks i 0 ∷ [])
      ∙ ap (◌++◌ (flat_map through (take i ks))) (append-nil (through (get_or ks i 0)))

  pub passed_more : (i : ℕ) → i < length ks → passed (i + 1) ≡ passed i + behind (get_or ks i 0)
  unfolding passed sum
  passed_more i l =
      ap (λ (n : ℕ). sum behind (take n ks)) (add-one i) ∙ ap (sum behind) (take-suc ks i 0 l) ∙ sum_append behind (take i ks) (get_or ks i 0 ∷ [])
      ∙ ap (◌+◌ (sum behind (take i ks))) last
    where
      last : behind (get_or ks i 0) + 0 ≡ behind (get_or ks i 0)
      last = omega arith

  pub walked_all : (n : ℕ) → n ≡ length ks → walked n ≡ flat_map through ks
  unfolding walked
  walked_all n e = ap (λ (m : ℕ). flat_map through (take m ks)) e ∙ ap (flat_map through) (take-length ks)

  pub passed_all : (n : ℕ) → n ≡ length ks → passed n ≡ sum behind ks
  unfolding passed
  passed_all n e = ap (λ (m : ℕ). sum behind (take m ks)) e ∙ ap (sum behind) (take-length ks)

  -- what is found through fewer symbols is not more
  pub walked_most : (i : ℕ) → length (walked i) ≤ length (flat_map through ks)
  unfolding walked
  walked_most i = omega (
    arith,
    ap (λ (xs : List ℕ). length (flat_map through xs)) (take-append-drop i ks),
    ap length (flat_map_append through (take i ks) (drop i ks)),
    length-append (flat_map through (take i ks)) (flat_map through (drop i ks)),
  )

  pub passed_most : (i : ℕ) → passed i ≤ sum behind ks
  unfolding passed
  passed_most i = omega (arith, ap (sum behind) (take-append-drop i ks), sum_append behind (take i ks) (drop i ks))

  pub hit : (g : ℕ) → follows (ops q) Q g ≡ true → through g ≡ map (◌∷◌ g) (found (ops q) k (next (ops q) g Q))
  hit g e = rw e refl

  pub hit_tried : (g : ℕ) → follows (ops q) Q g ≡ true → behind g ≡ tried (ops q) k (next (ops q) g Q)
  hit_tried g e = rw e refl

-- all symbols that may follow are walked
pub found_walked : (q left : ℕ) (Q : List (List ℕ)) → 0 < left → found (ops q) left Q ≡ flat_map (through q (left - 1) Q) (following q Q q)
unfolding found
found_walked q zero Q l = absurd (omega arith)
found_walked q (suc k) Q l = rw (sub-one (suc k)) (flat_map_keep (follows (ops q) Q) (λ g. map (◌∷◌ g) (found (ops q) k (next (ops q) g Q))) (below q))

pub tried_passed : (q left : ℕ) (Q : List (List ℕ)) → 0 < left → tried (ops q) left Q ≡ 1 + sum (behind q (left - 1) Q) (following q Q q)
unfolding tried
tried_passed q zero Q l = absurd (omega arith)
tried_passed q (suc k) Q l = rw (sub-one (suc k)) (ap (◌+◌ 1) (sum_keep (follows (ops q) Q) (λ g. tried (ops q) k (next (ops q) g Q)) (below q)))

-- The messages are all equally long.
module _ (q : ℕ) where
  abbrev pub MessagesLong : ℕ → Type 0
  MessagesLong k = (Q : List (List ℕ)) (p : List ℕ) → length (listed p (found (ops q) k Q)) ≡ length (found (ops q) k Q) * (length p + k)

  through_long : (k : ℕ) → MessagesLong k → (Q : List (List ℕ)) (p : List ℕ) (g : ℕ) →
      length (listed p (through q k Q g)) ≡ length (through q k Q g) * (length p + suc k)
  through_long k ih Q p g = go (follows (ops q) Q g)
    where
      go : (b : Bool) → length (listed p (cond b (map (◌∷◌ g) (found (ops q) k (next (ops q) g Q))) []))
          ≡ length (cond b (map (◌∷◌ g) (found (ops q) k (next (ops q) g Q))) []) * (length p + suc k)
      go true =
          let e : length (p ++ (g ∷ [])) + k ≡ length p + suc k = omega (arith, length-append p (g ∷ [])) in
          ap length (sym (listed_more p g (found (ops q) k (next (ops q) g Q)))) ∙ ih (next (ops q) g Q) (p ++ (g ∷ []))
          ∙ ap₂ (λ (a b : ℕ). a * b) (sym (length-map (found (ops q) k (next (ops q) g Q)) (◌∷◌ g))) e
      go false = ap length (listed_none p) ∙ omega arith

  walked_long' : (k : ℕ) → MessagesLong k → (Q : List (List ℕ)) (p : List ℕ) (xs : List ℕ) →
      length (listed p (flat_map (through q k Q) xs)) ≡ length (flat_map (through q k Q) xs) * (length p + suc k)
  unfolding flat_map
  walked_long' k ih Q p [] = ap length (listed_none p) ∙ omega arith
  walked_long' k ih Q p (g ∷ xs) =
      ap length (listed_append p (through q k Q g) (flat_map (through q k Q) xs))
      ∙ length-append (listed p (through q k Q g)) (listed p (flat_map (through q k Q) xs))
      ∙ ap₂ ◌+◌ (through_long k ih Q p g) (walked_long' k ih Q p xs)
      ∙ sym (add-mul (length (through q k Q g)) (length (flat_map (through q k Q) xs)) (length p + suc k))
      ∙ ap (λ (n : ℕ). n * (length p + suc k)) (sym (length-append (through q k Q g) (flat_map (through q k Q) xs)))

  pub long : (k : ℕ) → MessagesLong k
  unfolding found
  long zero Q p = go (zeros (ops q) (get_or Q 0 []))
    where
      go : (b : Bool) → length (listed p (cond b ([] ∷ []) [])) ≡ length (cond {A = List (List ℕ)} b ([] ∷ []) []) * (length p + 0)
      go true = let z : length p ≡ 1 * (length p + 0) = omega arith in ap length (listed_one p) ∙ z
      go false = let z : 0 ≡ 0 * (length p + 0) = omega arith in ap length (listed_none p) ∙ z
  long (suc k) Q p = walked_long' k (long k) Q p (below q)

  pub walked_long : (k : ℕ) (Q : List (List ℕ)) (p : List ℕ) (n : ℕ) → length (listed p (walked q k Q n)) ≡ length (walked q k Q n) * (length p + suc k)
  unfolding walked
  walked_long k Q p n = walked_long' k (long k) Q p (take n (following q Q q))
