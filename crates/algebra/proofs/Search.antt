-- The search finds exactly the roots, in order, and tries exactly the beginnings; both depend on the coefficients alone.
use mathlib.Core.Path.{◌≡◌, refl, sym, ◌∙◌, ap, fun_ext}
use mathlib.Core.Bool.{Bool, true, false, cond}
use mathlib.Core.List.{List, [], ◌∷◌, ◌++◌, map, flat_map}
use mathlib.Core.Logic.{◌↔◌}
use Prim.Native.Nat.{ℕ, zero, suc, ◌+◌}
use native.Mathlib.Numerals.{add-one}
use native.Mathlib.Omega.{arith}
use lib.Dec.{T, T_not}
use lib.ListN.{get_or, get_or-map}
use Rattle.rules.specs.Lists.{from, below, keep, sum}
use Rattle.rules.specs.Field.{Ops}
use Rattle.rules.specs.Laws.{Laws}
use Rattle.rules.specs.Code.{zeros, messages}
use Rattle.rules.specs.Search.{merge, firsts, stripped, step, follows, alive, beginnings, product, along, roots}
use Rattle.rules.proofs.Tests.{either, same_test}
use Rattle.algebra.specs.Poly.{Zero}
use Rattle.algebra.specs.Search.{cell, next, found, tried}
use Rattle.algebra.specs.Hom.{Hom}
use Rattle.algebra.proofs.Lists.{sum_map, map_cond, map_keep, map_square, map_flat_map}
use Rattle.algebra.proofs.Bridge.{zeros_hom, stripped_hom, step_hom, follows_hom}
use Rattle.algebra.proofs.Taylor.{taylor_eval}
use Rattle.algebra.proofs.Rows.{zeros_zero, cell_firsts, follows_eval}
use Rattle.algebra.proofs.Step.{along_step, along_first, taylor_same, step_same}
use Rattle.algebra.proofs.Strip.{stripped_roots, stripped_cells}

pub keep_append : {A : Type 0} (test : A → Bool) (xs ys : List A) → keep test (xs ++ ys) ≡ keep test xs ++ keep test ys
unfolding keep
keep_append test [] ys = refl
keep_append test (x ∷ xs) ys = rw (keep_append test xs ys) (go (test x))
  where
    go : (b : Bool) → cond b (x ∷ (keep test xs ++ keep test ys)) (keep test xs ++ keep test ys) ≡ cond b (x ∷ keep test xs) (keep test xs) ++ keep test ys
    go true = refl
    go false = refl

keep_flat_map : {A B : Type 0} (test : B → Bool) (f : A → List B) (xs : List A) → keep test (flat_map f xs) ≡ flat_map (λ x. keep test (f x)) xs
unfolding keep flat_map
keep_flat_map test f [] = refl
keep_flat_map test f (x ∷ xs) = keep_append test (f x) (flat_map f xs) ∙ ap (◌++◌ (keep test (f x))) (keep_flat_map test f xs)

keep_none : {A : Type 0} (test : A → Bool) → ((x : A) → T (test x) → ⊥) → (xs : List A) → keep test xs ≡ []
unfolding keep
keep_none test h [] = refl
keep_none test h (x ∷ xs) = either (λ ys. ys ≡ []) _ _ (test x) (λ t. absurd (h x t)) (λ t. keep_none test h xs)

sum_zero : {A : Type 0} (xs : List A) → sum (λ x. 0) xs ≡ 0
unfolding sum
sum_zero [] = refl
sum_zero (x ∷ xs) = omega (arith, sum_zero xs)

sum_add : {A : Type 0} (f g : A → ℕ) (xs : List A) → sum (λ x. f x + g x) xs ≡ sum f xs + sum g xs
unfolding sum
sum_add f g [] = refl
sum_add f g (x ∷ xs) = omega (arith, sum_add f g xs)

sum_swap : {A B : Type 0} (f : A → B → ℕ) (xs : List A) (ys : List B) → sum (λ x. sum (f x) ys) xs ≡ sum (λ y. sum (λ x. f x y) xs) ys
unfolding sum
sum_swap f [] ys = sym (sum_zero ys)
sum_swap f (x ∷ xs) ys = ap (◌+◌ (sum (f x) ys)) (sum_swap f xs ys) ∙ sym (sum_add (f x) (λ y. sum (λ x. f x y) xs) ys)

sum_cond : {A : Type 0} (b : Bool) (f : A → ℕ) (xs : List A) → sum (λ x. cond b (f x) 0) xs ≡ cond b (sum f xs) 0
sum_cond true f xs = refl
sum_cond false f xs = sum_zero xs

sum_from : (f : ℕ → ℕ) (a n : ℕ) → sum f (from (suc a) n) ≡ sum (λ i. f (suc i)) (from a n)
unfolding sum from
sum_from f a zero = refl
sum_from f a (suc n) = ap (◌+◌ (f (suc a))) (sum_from f (suc a) n)

pub sum_below : (f : ℕ → ℕ) (n : ℕ) → sum f (below (suc n)) ≡ f 0 + sum (λ i. f (suc i)) (below n)
unfolding sum from below
sum_below f n = ap (◌+◌ (f 0)) (sum_from f 0 n)

module _ (O : Ops) (L : Laws O) where
  open O use {Symbol, nil, symbols}

  zeros_same : (p q : List Symbol) → Zero O p ↔ Zero O q → zeros O p ≡ zeros O q
  zeros_same p q h =
      let a = zeros_zero O L p in
      let b = zeros_zero O L q in
      same_test _ _ (λ t. b.1 (h.0 (a.0 t))) (λ t. a.1 (h.1 (b.0 t)))

  -- Q along the empty message is its row at y^0
  along_empty : (Q : List (List Symbol)) → along O Q [] ≡ get_or Q 0 []
  unfolding along product merge
  along_empty [] = refl
  along_empty ([] ∷ Q) = refl
  along_empty ((c ∷ q) ∷ Q) = refl

  stripped_test : (Q : List (List Symbol)) (f : List Symbol) → zeros O (along O Q f) ≡ zeros O (along O (stripped O Q) f)
  stripped_test Q f = zeros_same _ _ (stripped_roots O L Q f)

  step_test : (g : Symbol) (f : List Symbol) (Q : List (List Symbol)) → zeros O (along O Q (g ∷ f)) ≡ zeros O (along O (step O g Q) f)
  step_test g f Q = zeros_same _ _ (λ z. rw along_step z, λ z. rw along_step at z)

  -- at the end the power divided out does not matter
  pub found_stripped : (Q : List (List Symbol)) → found O 0 (stripped O Q) ≡ found O 0 Q
  unfolding found
  found_stripped Q =
      ap (λ b. cond b ([] ∷ []) []) (ap (zeros O) (sym (along_empty (stripped O Q))) ∙ sym (stripped_test Q []) ∙ ap (zeros O) (along_empty Q))

  -- "those messages whose polynomial f has Q(x, f(x)) = 0", in order
  pub found_roots : (k : ℕ) (Q : List (List Symbol)) → found O k (stripped O Q) ≡ roots O k Q
  unfolding found roots messages
  found_roots zero Q =
      found_stripped Q ∙ ap (λ b. cond b ([] ∷ []) []) (ap (zeros O) (sym (along_empty Q))) ∙ unfold keep in refl
  found_roots (suc k) Q = ap (λ w. flat_map w symbols) (fun_ext (λ g. turn g (found_roots k (step O g S)))) ∙ sym (keep_flat_map _ _ symbols)
    where
      S : List (List Symbol)
      S = stripped O Q

      turn : (g : Symbol) → found O k (next O g S) ≡ roots O k (step O g S) →
          cond (follows O S g) (map (◌∷◌ g) (found O k (next O g S))) [] ≡ keep (λ f. zeros O (along O Q f)) (map (◌∷◌ g) (messages O k))
      turn g ih =
          let kept = map_keep (◌∷◌ g) (λ f. zeros O (along O (step O g S) f)) (λ f. zeros O (along O Q f))
          (λ f. sym (stripped_test Q (g ∷ f) ∙ step_test g f S)) (messages O k) in
          either (λ fs. fs ≡ keep (λ f. zeros O (along O Q f)) (map (◌∷◌ g) (messages O k))) _ _ (follows O S g) (λ t. ap (map (◌∷◌ g)) ih ∙ kept)
          (λ t. ap (map (◌∷◌ g)) (sym (keep_none _ (λ f z. T_not (follows O S g) t ((follows_eval O L S g).1
          (sym (along_first O L S g f) ∙ ap (λ s. s zero) (sym (along_step O L g f S)) ∙ (zeros_zero O L _).0 z zero))) (messages O k))) ∙ kept)

  pub tried_alive : (k : ℕ) (Q : List (List Symbol)) → tried O k Q ≡ sum (λ l. alive O l Q) (below (suc k))
  unfolding tried alive
  tried_alive zero Q = unfold sum below from in refl
  tried_alive (suc k) Q =
      ap (◌+◌ 1) (ap (λ w. sum w symbols) (fun_ext (λ g. turn g (tried_alive k (next O g Q)))) ∙ sym (sum_swap _ (below (suc k)) symbols))
      ∙ sym (sum_below (λ l. alive O l Q) (suc k))
    where
      turn : (g : Symbol) → tried O k (next O g Q) ≡ sum (λ l. alive O l (next O g Q)) (below (suc k)) →
          cond (follows O Q g) (tried O k (next O g Q)) 0 ≡ sum (λ l. cond (follows O Q g) (alive O l (next O g Q)) 0) (below (suc k))
      turn g ih = ap (λ n. cond (follows O Q g) n 0) ih ∙ sym (sum_cond (follows O Q g) _ (below (suc k)))

  -- "The beginnings tried are all alive ones of lengths 0 to k, the empty one counted."
  pub tried_beginnings : (k : ℕ) (Q : List (List Symbol)) → tried O k (stripped O Q) ≡ beginnings O k Q
  unfolding beginnings
  tried_beginnings k Q = tried_alive k (stripped O Q) ∙ rw (add-one k)

  -- Curves with the same coefficients are searched alike.

  -- at the end only the row at y^0 matters
  pub found_row : (P Q : List (List Symbol)) → cell O P 0 ≡ cell O Q 0 → found O 0 P ≡ found O 0 Q
  unfolding found cell
  found_row P Q e =
      ap (λ b. cond b ([] ∷ []) []) (zeros_same _ _ (λ z i. ap (λ c. c i) (sym e) ∙ z i, λ z i. ap (λ c. c i) e ∙ z i))

  pub follows_same : (P Q : List (List Symbol)) (g : Symbol) → cell O P ≡ cell O Q → follows O P g ≡ follows O Q g
  unfolding follows
  follows_same P Q g e =
      ap (λ c. O.same c nil)
      (sym (taylor_eval O L g (firsts O P))
      ∙ ap (λ s. s zero) (taylor_same O L g _ _ (fun_ext λ t. cell_firsts O L P t ∙ ap (λ c. c t zero) e ∙ sym (cell_firsts O L Q t)))
      ∙ taylor_eval O L g (firsts O Q))

  pub next_same : (P Q : List (List Symbol)) (g : Symbol) → cell O P ≡ cell O Q → cell O (next O g P) ≡ cell O (next O g Q)
  next_same P Q g e = stripped_cells O L _ _ (step_same O L g P Q e)

  pub found_same : (k : ℕ) (P Q : List (List Symbol)) → cell O P ≡ cell O Q → found O k P ≡ found O k Q
  unfolding found
  found_same zero P Q e = found_row P Q (ap (λ c. c 0) e)
  found_same (suc k) P Q e =
      ap (λ w. flat_map w symbols) (fun_ext λ g. rw (follows_same P Q g e, found_same k (next O g P) (next O g Q) (next_same P Q g e)))

  pub tried_same : (k : ℕ) (P Q : List (List Symbol)) → cell O P ≡ cell O Q → tried O k P ≡ tried O k Q
  unfolding tried
  tried_same zero P Q e = refl
  tried_same (suc k) P Q e =
      ap (λ w. 1 + sum w symbols) (fun_ext λ g. rw (follows_same P Q g e, tried_same k _ _ (next_same P Q g e)))

-- The search on numbers and the search in the field
module _ (O O' : Ops) (φ : O.Symbol → O'.Symbol) (H : Hom O O' φ) where
  open O use {Symbol, symbols}

  pub found_hom : (k : ℕ) (Q : List (List Symbol)) → map (map φ) (found O k Q) ≡ found O' k (map (map φ) Q)
  unfolding found
  found_hom zero Q = map_cond (map (map φ)) (zeros O (get_or Q 0 [])) _ _ ∙ simp (zeros_hom O O' φ H, ← get_or-map (map φ) Q 0 [])
  found_hom (suc k) Q = map_flat_map φ (map φ) _ _ (λ g. turn g (found_hom k (next O g Q))) symbols ∙ ap (flat_map _) H.symbols
    where
      Q' : List (List O'.Symbol)
      Q' = map (map φ) Q

      turn : (g : Symbol) → map (map φ) (found O k (next O g Q)) ≡ found O' k (map (map φ) (next O g Q)) →
          map (map φ) (cond (follows O Q g) (map (◌∷◌ g) (found O k (next O g Q))) [])
          ≡ cond (follows O' Q' (φ g)) (map (◌∷◌ (φ g)) (found O' k (next O' (φ g) Q'))) []
      turn g ih =
          map_cond (map (map φ)) (follows O Q g) _ _
          ∙ simp (
            follows_hom O O' φ H,
            map_square (◌∷◌ g) (map φ) (map φ) (◌∷◌ (φ g)) (λ f. refl) (found O k (next O g Q)),
            ih,
            stripped_hom O O' φ H,
            step_hom O O' φ H,
          )

  pub tried_hom : (k : ℕ) (Q : List (List Symbol)) → tried O k Q ≡ tried O' k (map (map φ) Q)
  unfolding tried
  tried_hom zero Q = refl
  tried_hom (suc k) Q = simp (tried_hom k, stripped_hom O O' φ H, step_hom O O' φ H, follows_hom O O' φ H, ← H.symbols, sum_map φ)
