-- An accepted setting never fails for want of a curve: the curve that Kötter's algorithm finds, written out flat, passes.
use mathlib.Core.Path.{◌≡◌, refl, ◌∙◌, ap, ap₂}
use mathlib.Core.Bool.{cond}
use mathlib.Core.List.{List, map}
use Prim.Native.Nat.{ℕ, zero, suc, ◌<◌, ◌≤◌, ◌+◌, ◌*◌, ◌-◌, ◌/◌, ◌%◌}
use native.Mathlib.Omega.{arith}
use native.Mathlib.Nat.{mul-le-mul_right, div-mul-le_self, mul-add-div_right, div-eq_of_lt, mul-add-mod_self_right, mod-eq_of_lt}
use lib.Dec.{T_not, ltb, lt→ltb, ltb→lt}
use lib.ListN.{length, get_or, length-map}
use Rattle.rules.specs.Lists.{from, below, sum}
use Rattle.rules.specs.Field.{Ops}
use Rattle.rules.specs.Laws.{Laws}
use Rattle.rules.specs.Code.{Triple, triples}
use Rattle.rules.specs.Setting.{Setting, W, ℓ, C, U}
use Rattle.rules.specs.Curve.{coefficient}
use Rattle.rules.proofs.Tests.{either}
use Rattle.algebra.specs.Conditions.{conditions}
use Rattle.algebra.specs.Space.{space, Curve, Same, Chosen}
use Rattle.algebra.proofs.Rank.{digit_lt}
use Rattle.algebra.proofs.Plan.{length_from, count_triples}
use Rattle.algebra.proofs.Flat.{chosen}
use Rattle.algebra.proofs.Solve.{solve}

get_or_below : {A : Type 0} (f : ℕ → A) (d : A) (n i : ℕ) → i < n → get_or (map f (below n)) i d ≡ f i
unfolding below from
get_or_below f d n i l = go 0 n i l ∙ ap f (omega arith)
  where
    go : (a n i : ℕ) → i < n → get_or (map f (from a n)) i d ≡ f (a + i)
    go a zero i l = absurd (omega arith)
    go a (suc n) zero l = ap f (omega arith)
    go a (suc n) (suc i) l = go (suc a) n i (omega arith) ∙ ap f (omega arith)

module _ (O : Ops) (L : Laws O) where
  open O use {Symbol, nil, one}

  module _ (k W ℓ : ℕ) where
    -- the coefficient of x^i·y^t inside the space, and nil outside
    clipped : Curve O → Curve O
    clipped P i t = cond (ltb (i + t * (k - 1)) W) (P i t) nil

    -- a curve's coefficients in one list
    flat : Curve O → List Symbol
    flat P = map (λ m. clipped P (m % W) (m / W)) (below ((ℓ + 1) * W))

    length_flat : (P : Curve O) → length (flat P) ≡ (ℓ + 1) * W
    unfolding flat below
    length_flat P = length-map (below ((ℓ + 1) * W)) _ ∙ length_from 0 ((ℓ + 1) * W)

    coefficient_flat : (P : Curve O) (i t : ℕ) → t < ℓ + 1 → i < W → coefficient O W (flat P) i t ≡ clipped P i t
    unfolding coefficient flat
    coefficient_flat P i t u l =
        get_or_below _ nil ((ℓ + 1) * W) (t * W + i) (omega (arith, digit_lt W t i (ℓ + 1) 0 l u))
        ∙ ap₂ (clipped P) (mul-add-mod_self_right t W i ∙ mod-eq_of_lt l) (mul-add-div_right (omega arith) t i ∙ ap (◌+◌ t) (div-eq_of_lt l) ∙ omega arith)

    inside : (P : Curve O) (i t : ℕ) → i + t * (k - 1) < W → clipped P i t ≡ P i t
    unfolding clipped
    inside P i t l = either (λ x. x ≡ P i t) _ _ (ltb (i + t * (k - 1)) W) (λ _. refl) (λ n. absurd (T_not (ltb (i + t * (k - 1)) W) n (lt→ltb _ _ l)))

    outside : (P : Curve O) (i t : ℕ) → W ≤ i + t * (k - 1) → clipped P i t ≡ nil
    unfolding clipped
    outside P i t l = either (λ x. x ≡ nil) _ _ (ltb (i + t * (k - 1)) W) (λ y. let h : i + t * (k - 1) < W = ltb→lt _ _ y in absurd (omega arith)) (λ _. refl)

    flat_same : (P : Curve O) → Same O (space k W ℓ) (coefficient O W (flat P)) P
    flat_same P i t h = coefficient_flat P i t (omega (arith, h.column)) (omega (arith, h.inside)) ∙ inside P i t h.inside

    -- Fewer conditions than terms have a curve that passes, and so a chosen one.
    pub exists : (zs : List (Triple Symbol)) → ((t : ℕ) → t ≤ ℓ → t * (k - 1) ≤ W) → length (conditions zs) < sum (λ t. W - t * (k - 1)) (below (ℓ + 1)) →
        (Q : List Symbol) × Chosen O k W ℓ zs Q
    exists zs f l =
        let s = solve O L (space k W ℓ) zs f l in
        let P = s.0 in
        (flat P, chosen O L k W ℓ zs (flat P) s.3 (length_flat P) (flat_same P) (λ t i u l g. coefficient_flat P i t u l ∙ outside P i t g))

  -- "An accepted setting never fails for want of a curve": this needs no more of it than U > C.
  pub setting_exists : (S : Setting) (points word : List Symbol) → C S < U S → length points ≡ S.n → length word ≡ S.n →
      (Q : List Symbol) × Chosen O S.k (W S) (ℓ S) (triples S.s points word) Q
  unfolding C U
  setting_exists S points word h p w =
      exists S.k (W S) (ℓ S) (triples S.s points word) fit (omega (arith, count_triples S.s S.n points word p w))
    where
      fit : (t : ℕ) → t ≤ ℓ S → t * (S.k - 1) ≤ W S
      fit t l = unfold ℓ in omega (arith, mul-le-mul_right (S.k - 1) l, div-mul-le_self (W S - 1) (S.k - 1))
