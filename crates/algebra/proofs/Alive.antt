-- At most d beginnings of each length are alive where Q(0, y) has degree d: the next curve's degree is at most the multiplicity of the symbol taken.
use mathlib.Core.Path.{◌≡◌, refl, sym, ◌∙◌, ap, subst}
use mathlib.Core.Bool.{Bool, true, false, cond, not, ◌&&◌}
use mathlib.Core.List.{List, [], ◌∷◌, map}
use mathlib.Core.Logic.{by_cases}
use Prim.Native.Nat.{ℕ, zero, suc, ◌<◌, ◌≤◌, ◌+◌, ◌-◌, ◌*◌, ◌/◌, ◌%◌}
use native.Mathlib.Nat.{zero-add, mod-lt, div-add-mod', div-lt_iff_lt-mul, mul-suc}
use native.Mathlib.Omega.{arith}
use native.Mathlib.Decide.{dec_le, dec_lt}
use lib.Dec.{T, T_not}
use lib.ListN.{length, get_or, length-map}
use Rattle.rules.specs.Lists.{from, below, all, sum, distinct}
use Rattle.rules.specs.Field.{Ops}
use Rattle.rules.specs.Laws.{Laws}
use Rattle.rules.specs.Code.{zeros, eval}
use Rattle.rules.specs.Search.{rows, width, first, firsts, stripped, step, follows, alive, beginnings, roots}
use Rattle.rules.proofs.Tests.{both, either}
use Rattle.algebra.specs.Poly.{Seq, Val, Short, Zero, coef, taylor}
use Rattle.algebra.specs.Points.{Away, Distinct, Root, places, count, Roots}
use Rattle.algebra.specs.Search.{cell, next, found, tried, Headed}
use Rattle.algebra.proofs.Lists.{length_flat_map}
use Rattle.algebra.proofs.Ring.{same_if}
use Rattle.algebra.proofs.Taylor.{taylor_eval, coef_short}
use Rattle.algebra.proofs.Roots.{root_count, root_count_short}
use Rattle.algebra.proofs.Rows.{rows_length, cell_firsts, cell_width, cell_rows, follows_eval}
use Rattle.algebra.proofs.Step.{step_low, step_diagonal}
use Rattle.algebra.proofs.Strip.{stripped_length, stripped_is, stripped_kept}
use Rattle.algebra.proofs.Search.{sum_below, found_roots, tried_alive, tried_beginnings}

sum_le : {A : Type 0} (f g : A → ℕ) → ((x : A) → f x ≤ g x) → (xs : List A) → sum f xs ≤ sum g xs
unfolding sum
sum_le f g h [] = omega arith
sum_le f g h (x ∷ xs) = omega (arith, h x, sum_le f g h xs)

sum_few : (f : ℕ → ℕ) (d : ℕ) → ((i : ℕ) → f i ≤ d) → (a n : ℕ) → sum f (from a n) ≤ d * n
unfolding sum from
sum_few f d h a zero = omega arith
sum_few f d h a (suc n) = omega (arith, h a, sum_few f d h (suc a) n, mul-suc d n)

module _ (O : Ops) (L : Laws O) where
  open O use {Symbol, nil, same, symbols}

  -- a coefficient that is not zero is divided down to the first column, or leaves another there
  stripped_live : (Q : List (List Symbol)) (t i : ℕ) → ¬ (cell O Q t i ≡ nil) → ¬ Zero O (firsts O (stripped O Q))
  stripped_live Q t i n z = by_cases (dec_lt i (width Q))
      (λ l. let r = stripped_is O L Q in
      r.stop (omega (arith, stripped_kept O L _ _ _ r t i n))
      (λ u. ap (cell O Q u) (sym (zero-add r.v)) ∙ sym (r.moved u 0) ∙ sym (cell_firsts O L _ u) ∙ z u))
      (λ l. n (cell_width O L Q t i (omega arith)))

  stripped_short : (Q : List (List Symbol)) (m : ℕ) → ((t i : ℕ) → i < t → cell O Q t i ≡ nil) → ¬ (cell O Q m m ≡ nil) →
      Short O (suc m) (coef O (firsts O (stripped O Q)))
  stripped_short Q m h n t l =
      let r = stripped_is O L Q in
      cell_firsts O L _ t ∙ r.moved t 0 ∙ h t (0 + r.v) (omega (arith, stripped_kept O L _ _ _ r m m n))

  -- a curve that is not zero, of degree d in y at the most
  pub stripped_headed : (Q : List (List Symbol)) (d t i : ℕ) → length Q ≤ suc d → ¬ (cell O Q t i ≡ nil) → Headed O d (stripped O Q)
  stripped_headed Q d t i l n = record {
    live = stripped_live Q t i n;
    short = coef_short O L _ (suc d) (unfold firsts in omega (arith, length-map (stripped O Q) (first O), stripped_length O L Q));
  }

  -- the first place below n where the sequence is not zero, or n
  order : ℕ → Seq O → ℕ
  order zero s = zero
  order (suc n) s = cond (same (s zero) nil) (suc (order n (λ i. s (suc i)))) zero

  record Order (n : ℕ) (s : Seq O) (m : ℕ) : Type 0 where
    low : Val O m s
    hit : m < n → ¬ (s m ≡ nil)

  order_is : (n : ℕ) (s : Seq O) → Order n s (order n s)
  unfolding order
  order_is zero s = record { low = λ i l. absurd (omega arith); hit = λ l. absurd (omega arith) }
  order_is (suc n) s =
      let o = order_is n (λ i. s (suc i)) in
      either (Order (suc n) s) _ _ (same (s zero) nil)
      (λ t. record { low = elim [ zero ↦ λ l. L.same_eq _ nil t | suc i ↦ λ l. o.low i (omega arith) ]; hit = λ l. o.hit (omega arith) })
      (λ t. record { low = λ i l. absurd (omega arith); hit = λ l e. T_not (same (s zero) nil) t (same_if O L _ nil e) })

  -- how often g is a root of h
  pub mult : List Symbol → Symbol → ℕ
  mult h g = order (length h) (taylor O g h)

  mult_low : (h : List Symbol) (g : Symbol) → Val O (mult h g) (taylor O g h)
  unfolding mult
  mult_low h g = (order_is (length h) (taylor O g h)).low

  mult_hit : (h : List Symbol) → ¬ Zero O h → (g : Symbol) → ¬ (taylor O g h (mult h g) ≡ nil)
  mult_hit h n g = by_cases (dec_le (length h) (mult h g))
      (λ l. absurd (n (root_count O L h (record { place = g; times = mult h g } ∷ []) (tt, tt) (mult_low h g, tt) (omega arith))))
      (λ l. unfold mult in (order_is (length h) (taylor O g h)).hit (omega arith))

  mult_pos : (h : List Symbol) → ¬ Zero O h → (g : Symbol) → eval O h g ≡ nil → 1 ≤ mult h g
  mult_pos h n g e = go (mult h g) (mult_hit h n g)
    where
      go : (m : ℕ) → ¬ (taylor O g h m ≡ nil) → 1 ≤ m
      go zero k = absurd (k (taylor_eval O L g h ∙ e))
      go (suc m) k = omega arith

  away : (α : Symbol) (xs : List Symbol) → T (all (λ y. not (same α y)) xs) → Away O α xs
  unfolding all
  away α [] t = tt
  away α (x ∷ xs) t = let h = both (not (same α x)) _ t in (λ e. T_not (same α x) h.0 (same_if O L α x (sym e)), away α xs h.1)

  apart : (xs : List Symbol) → T (distinct same xs) → Distinct O xs
  unfolding distinct
  apart [] t = tt
  apart (x ∷ xs) t = let h = both (all (λ y. not (same x y)) xs) _ t in (away x xs h.0, apart xs h.1)

  -- the multiplicities of all symbols add up to the degree at the most
  mult_sum : (h : List Symbol) (d : ℕ) → ¬ Zero O h → Short O (suc d) (coef O h) → sum (mult h) symbols ≤ d
  unfolding sum
  mult_sum h d n k = by_cases (dec_le (sum (mult h) symbols) d) (λ l. l)
      (λ l. absurd (n (root_count_short O L (suc d) h (repeated symbols) k (rw (same_places symbols) (apart symbols L.once)) (each symbols)
      (omega (arith, same_count symbols)))))
    where
      repeated : List Symbol → List (Root O)
      repeated [] = []
      repeated (g ∷ ts) = record { place = g; times = mult h g } ∷ repeated ts

      same_places : (ts : List Symbol) → places O (repeated ts) ≡ ts
      same_places [] = refl
      same_places (g ∷ ts) = ap (◌∷◌ g) (same_places ts)

      same_count : (ts : List Symbol) → count O (repeated ts) ≡ sum (mult h) ts
      same_count [] = refl
      same_count (g ∷ ts) = ap (◌+◌ (mult h g)) (same_count ts)

      each : (ts : List Symbol) → Roots O h (repeated ts)
      each [] = tt
      each (g ∷ ts) = (mult_low h g, each ts)

  pub next_headed : (g : Symbol) (Q : List (List Symbol)) → ¬ Zero O (firsts O Q) → Headed O (mult (firsts O Q) g) (next O g Q)
  next_headed g Q n =
      let m = mult (firsts O Q) g in
      let k = rw (← step_diagonal O L g Q m) at (mult_hit (firsts O Q) n g) in
      record { live = stripped_live (step O g Q) m m k; short = stripped_short (step O g Q) m (step_low O L g Q) k }

  sum_bound : (Q : List (List Symbol)) (d : ℕ) → Headed O d Q → (w : Symbol → ℕ) →
      ((g : Symbol) → eval O (firsts O Q) g ≡ nil → w g ≤ mult (firsts O Q) g) → sum (λ g. cond (follows O Q g) (w g) 0) symbols ≤ d
  sum_bound Q d h w k =
      let m = mult (firsts O Q) in
      omega (
        arith,
        mult_sum (firsts O Q) d h.live h.short,
        sum_le (λ g. cond (follows O Q g) (w g) 0) m
            (λ g. either (λ x. x ≤ m g) _ _ (follows O Q g) (λ t. k g ((follows_eval O L Q g).0 t)) (λ t. omega arith)) symbols,
      )

  pub alive_few : (l : ℕ) (Q : List (List Symbol)) (d : ℕ) → Headed O d Q → alive O (suc l) Q ≤ d
  unfolding alive
  alive_few zero Q d h = sum_bound Q d h _ (mult_pos (firsts O Q) h.live)
  alive_few (suc l) Q d h = sum_bound Q d h _ (λ g e. alive_few l (next O g Q) (mult (firsts O Q) g) (next_headed g Q h.live))

  found_alive : (k : ℕ) (Q : List (List Symbol)) → length (found O k Q) ≤ alive O k Q
  unfolding found alive
  found_alive zero Q = either (λ (fs : List (List Symbol)). length fs ≤ 1) _ _ (zeros O (get_or Q 0 [])) (λ t. omega arith) (λ t. omega arith)
  found_alive (suc k) Q =
      rw (length_flat_map (λ g. cond (follows O Q g) (map (◌∷◌ g) (found O k (next O g Q))) []) symbols)
      (sum_le _ _ (λ g. turn g (found_alive k (next O g Q))) symbols)
    where
      turn : (g : Symbol) → length (found O k (next O g Q)) ≤ alive O k (next O g Q) →
          length (cond (follows O Q g) (map (◌∷◌ g) (found O k (next O g Q))) []) ≤ cond (follows O Q g) (alive O k (next O g Q)) 0
      turn g ih = go (follows O Q g)
        where
          go : (b : Bool) → length (cond b (map (◌∷◌ g) (found O k (next O g Q))) []) ≤ cond b (alive O k (next O g Q)) 0
          go true = omega (arith, length-map (found O k (next O g Q)) (◌∷◌ g))
          go false = omega arith

  pub found_few : (k : ℕ) → 1 ≤ k → (Q : List (List Symbol)) (d : ℕ) → Headed O d Q → length (found O k Q) ≤ d
  found_few zero l Q d h = absurd (omega arith)
  found_few (suc k) l Q d h = omega (arith, found_alive (suc k) Q, alive_few k Q d h)

  pub tried_few : (k : ℕ) (Q : List (List Symbol)) (d : ℕ) → Headed O d Q → tried O k Q ≤ 1 + d * k
  unfolding below
  tried_few k Q d h =
      omega (arith, tried_alive O L k Q, sum_below (λ l. alive O l Q) k, alive_zero, sum_few (λ l. alive O (suc l) Q) d (λ l. alive_few l Q d h) 0 k)
    where
      alive_zero : alive O 0 Q ≡ 1
      alive_zero = unfold alive in refl

  -- a list that is not zero has a place that is not
  place : (Q : List Symbol) → T (not (zeros O Q)) → (j : ℕ) × (j < length Q) × ¬ (get_or Q j nil ≡ nil)
  unfolding zeros all
  place [] t = absurd t
  place (c ∷ Q) t = go (same c nil) refl (λ u. let r = place Q u in (suc r.0, omega (arith, r.1), r.2)) t
    where
      go : (b : Bool) → same c nil ≡ b → (T (not (zeros O Q)) → (j : ℕ) × (j < length (c ∷ Q)) × ¬ (get_or (c ∷ Q) j nil ≡ nil)) →
          T (not (b && all (λ c. same c nil) Q)) → (j : ℕ) × (j < length (c ∷ Q)) × ¬ (get_or (c ∷ Q) j nil ≡ nil)
      go true e k u = k u
      go false e k u = (0, omega arith, λ p. subst T e (same_if O L c nil p))

  -- the curve as document 01 lays it out
  module _ (W ℓ : ℕ) (Q : List Symbol) (w : 0 < W) (n : length Q ≡ (ℓ + 1) * W) (t : T (not (zeros O Q))) where
    pub curve_headed : Headed O ℓ (stripped O (rows W (ℓ + 1) Q))
    curve_headed =
        let r = place Q t in
        let j = r.0 in
        let fits : j / W < ℓ + 1 = (div-lt_iff_lt-mul w).1 (omega (arith, r.1)) in
        let e : cell O (rows W (ℓ + 1) Q) (j / W) (j % W) ≡ get_or Q j nil = cell_rows O L W (ℓ + 1) (j / W) (j % W) Q fits (mod-lt j w)
        ∙ ap (λ m. get_or Q m nil) (div-add-mod' j W) in
        stripped_headed (rows W (ℓ + 1) Q) ℓ (j / W) (j % W) (omega (arith, rows_length W (ℓ + 1) Q)) (λ z. r.2 (sym e ∙ z))

    -- "bounded by 1 + ℓ·k"
    pub beginnings_few : (k : ℕ) → beginnings O k (rows W (ℓ + 1) Q) ≤ 1 + ℓ * k
    beginnings_few k = rw (← tried_beginnings O L k (rows W (ℓ + 1) Q)) (tried_few k _ ℓ curve_headed)

    pub roots_few : (k : ℕ) → 1 ≤ k → length (roots O k (rows W (ℓ + 1) Q)) ≤ ℓ
    roots_few k l = rw (← found_roots O L k (rows W (ℓ + 1) Q)) (found_few k l _ ℓ curve_headed)
