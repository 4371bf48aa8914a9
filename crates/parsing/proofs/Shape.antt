-- The tests of a record's shape, case by case: a length that fits, how many bytes a record has, refusal 10.
use mathlib.Core.Path.{◌≡◌, refl, sym, ap, ◌∙◌}
use mathlib.Core.Bool.{Bool, true, false, not, ◌&&◌, ◌||◌}
use mathlib.Core.Logic.{◌⊎◌, inl, inr}
use mathlib.Core.List.{List, [], ◌∷◌, ◌++◌}
use Prim.Native.Nat.{ℕ, ◌+◌, ◌%◌, ◌<◌, ◌≤◌}
use native.Mathlib.Omega.{arith}
use Rattle.std.specs.Option.{MatchOption}
use Rattle.std.specs.Bool.{then_some}
use lib.Dec.{eqb, leb, ltb}
use lib.ListN.{length, get_or}
use borrow.Author.Tests.{lt-ltb, le-ltb, le-leb, lt-leb, eq-eqb, ne_eqb, leb-true, eqb-true, ltb-false, not-false}
use Rattle.rules.specs.Patch.{pairs, length_fits, length_of, size, kind, broken}
use Rattle.rules.proofs.Tests.{either, neither}

and_true : (a b : Bool) → a && b ≡ true → (a ≡ true) × (b ≡ true)
and_true true b e = (refl, e)
and_true false b e = absurd (let z : ◌≡◌ {A = ℕ} 0 1 = cc in omega arith)

module _ (n : ℕ) where
  pub outside : (n < 2) ⊎ (130 < n) → false ≡ length_fits n
  unfolding length_fits
  outside (inl l) = simp (lt-leb 2 n l)
  outside (inr l) = simp (le-leb 2 n (omega arith), lt-leb n 130 l)

  pub even_fits : 2 ≤ n → n ≤ 130 → eqb (n % 2) 0 ≡ length_fits n
  unfolding length_fits
  even_fits l m = simp (le-leb 2 n l, le-leb n 130 m)

  -- a length that fits is from 2 to 130
  pub fits_bounds : length_fits n ≡ true → (2 ≤ n) × (n ≤ 130)
  unfolding length_fits
  fits_bounds e = let h = and_true (leb 2 n) _ (and_true (leb 2 n && leb n 130) _ e).0 in (leb-true 2 n h.0, leb-true n 130 h.1)

-- a record that has not its first two bytes states no length that fits
pub none_stated : (b : List ℕ) → length b < 2 → length_fits (length_of b) ≡ false
unfolding length_fits length_of pairs
none_stated [] l = refl
none_stated (low ∷ []) l = refl
none_stated (low ∷ high ∷ b) l = absurd (omega arith)

-- the first number, if it fits
pub first_fitting : (b : List ℕ) {n : ℕ} (t : Bool) → n ≡ get_or (pairs b) 0 0 → t ≡ length_fits n →
    MatchOption (then_some t n) (length_fits (length_of b) ≡ false) (λ m. (m ≡ length_of b) × (length_fits m ≡ true))
unfolding length_of
first_fitting b true e f = (e, sym f)
first_fitting b false e f = ap length_fits (sym e) ∙ sym f

module _ (b : List ℕ) where
  module _ (unfit : length_fits (length_of b) ≡ false) where
    pub size_unfit : 2 ≡ size b
    unfolding size
    size_unfit = rw unfit

    pub broken_unfit : true ≡ broken b
    unfolding broken
    broken_unfit = simp unfit

  module _ {n : ℕ} (is : n ≡ length_of b) (fits : length_fits n ≡ true) where
    fitting : length_fits (length_of b) ≡ true
    fitting = ap length_fits (sym is) ∙ fits

    pub size_fits : 2 + n ≡ size b
    unfolding size
    size_fits = rw fitting (ap (λ x. 2 + x) is)

    pub broken_cut : length b < 2 + n → true ≡ broken b
    unfolding broken
    broken_cut l = simp (fitting, lt-ltb (length b) (2 + length_of b) (omega arith))

    module _ (l : 2 + n ≤ length b) {j : ℕ} (e : j ≡ get_or (pairs b) 1 0) where
      pub broken_setting : j ≡ 1 → not (eqb n 12) ≡ broken b
      unfolding broken kind
      broken_setting k = simp (fitting, le-ltb (length b) (2 + length_of b) (omega arith), eq-eqb (get_or (pairs b) 1 0) 1 (sym e ∙ k))
          (ap (λ x. not (eqb x 12)) is)

      pub not_broken : ¬ (j ≡ 1) → false ≡ broken b
      unfolding broken kind
      not_broken k = simp (fitting, le-ltb (length b) (2 + length_of b) (omega arith), ne_eqb (get_or (pairs b) 1 0) 1 (λ q. k (e ∙ q)))

-- the first two bytes decide
pub size_front : (b rest : List ℕ) → 2 ≤ length b → size (b ++ rest) ≡ size b
unfolding size length_of pairs
size_front [] rest l = absurd (omega arith)
size_front (x ∷ []) rest l = absurd (omega arith)
size_front (x ∷ y ∷ b) rest l = refl

pub most_size : (b : List ℕ) → size b ≤ 2 + length_of b
unfolding size
most_size b = either (λ n. n ≤ 2 + length_of b) (2 + length_of b) 2 (length_fits (length_of b)) (λ _. omega arith) (λ _. omega arith)

-- what a record has that is not refused with 10
module _ (b : List ℕ) (w : broken b ≡ false) where
  whole_tests : ((not (length_fits (length_of b)) ≡ false) × (ltb (length b) (2 + length_of b) ≡ false))
      × (eqb (kind b) 1 && not (eqb (length_of b) 12) ≡ false)
  unfolding broken
  whole_tests = let h = neither (not (length_fits (length_of b)) || ltb (length b) (2 + length_of b)) _ w in (neither _ _ h.0, h.1)

  pub whole_long : (2 ≤ length_of b) × (2 + length_of b ≤ length b)
  whole_long = ((fits_bounds (length_of b) (not-false _ whole_tests.0.0)).0, ltb-false (length b) (2 + length_of b) whole_tests.0.1)

  -- and a setting has its five numbers
  pub whole_five : kind b ≡ 1 → length_of b ≡ 12
  whole_five k = eqb-true (length_of b) 12 (not-false _ (rw (eq-eqb (kind b) 1 k) at whole_tests.1))
