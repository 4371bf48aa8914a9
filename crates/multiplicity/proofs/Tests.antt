-- Tests of each number below n: what `all` answers over the range, and tests that agree.
use mathlib.Core.Path.{◌≡◌, refl, sym, ap, subst, ◌∙◌}
use mathlib.Core.Bool.{Bool, true, false, ◌&&◌}
use Prim.Native.Nat.{ℕ, zero, suc, ◌<◌}
use native.Mathlib.Numerals.{add-one}
use lib.Dec.{T}
use Rattle.std.specs.List.{list_all, range_with_len}
use Rattle.rules.specs.Lists.{from, below, all}
use Rattle.rules.proofs.Tests.{below_at, below_of, same_test}

-- a test of each number below n, as the range lists them
range_all : (test : ℕ → Bool) (a n : ℕ) → list_all test (range_with_len a n) ≡ all test (from a n)
unfolding from all
range_all test a zero = refl
range_all test a (suc n) = rw add-one (ap (λ r. test a && r) (range_all test (suc a) n))

pub below_all : (test : ℕ → Bool) (n : ℕ) → list_all test (range_with_len 0 n) ≡ all test (below n)
unfolding below
below_all test n = range_all test 0 n

-- tests that agree at each number below n
pub below_same : (f g : ℕ → Bool) (n : ℕ) → ((i : ℕ) → i < n → f i ≡ g i) → all f (below n) ≡ all g (below n)
below_same f g n h =
    same_test (all f (below n)) (all g (below n)) (λ t. below_of g n (λ i l. subst T (h i l) (below_at f n i t l)))
    (λ t. below_of f n (λ i l. subst T (sym (h i l)) (below_at g n i t l)))

-- what an answer says of the test that it answers
pub said_yes : (r b : Bool) → r ≡ true → r ≡ b → T b
said_yes r b e f = subst T (sym e ∙ f) tt

pub said_no : (r b : Bool) → r ≡ false → r ≡ b → ¬ (T b)
said_no r b e f t = subst T (sym f ∙ e) t
