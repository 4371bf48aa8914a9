-- The library's tests of a list are those of rules.
use mathlib.Core.Path.{◌≡◌, refl, sym, ap, ap₂, ◌∙◌}
use mathlib.Core.Bool.{Bool, not, ◌&&◌}
use mathlib.Core.List.{List, [], ◌∷◌}
use Prim.Native.Nat.{ℕ, ◌+◌}
use native.Mathlib.Omega.{arith}
use lib.Dec.{eqb}
use lib.ListN.{length, drop}
use Rattle.std.specs.List.{list_all, list_any, enumerate_from, between}
use Rattle.std.proofs.lemmas.Grind.{common_steps}
use Rattle.std.proofs.lemmas.Bool.Decides.{nat_tests}
use Rattle.std.proofs.lemmas.List.{drop-drop}
use Rattle.std.proofs.lemmas.Slice.{between_to_end}
use Rattle.rules.specs.Lists.{all, distinct}

pub all_is : {A : Type 0} (test : A → Bool) (xs : List A) → list_all test xs ≡ all test xs
unfolding all
all_is test [] = refl
all_is test (x ∷ xs) = ap (λ b. test x && b) (all_is test xs)

-- none of the list is x
new_is : (x : ℕ) (xs : List ℕ) → not (list_any (λ y. eqb y x) xs) ≡ all (λ y. not (eqb x y)) xs
unfolding all
new_is x [] = refl
new_is x (y ∷ xs) = grind (arith, common_steps, nat_tests, new_is x xs)

-- of the list xs, whose rest from place i on is ys
pub each_new : (xs : List ℕ) (i : ℕ) (ys : List ℕ) → drop i xs ≡ ys
    → list_all (λ p. not (list_any (λ y. eqb y p.1) (between (p.0 + 1) (length xs) xs))) (enumerate_from i ys) ≡ distinct eqb ys
unfolding distinct
each_new xs i [] e = refl
each_new xs i (y ∷ ys) e =
    let f : drop (i + 1) xs ≡ ys = sym (drop-drop 1 i xs) ∙ ap (drop 1) e in
    ap₂ ◌&&◌ (ap (λ zs. not (list_any (λ z. eqb z y) zs)) (between_to_end xs (i + 1) (length xs) (omega arith) ∙ f) ∙ new_is y ys) (each_new xs (i + 1) ys f)
