-- The results that an answer has places for, over its front, are the results told. By the lengths of both.
use mathlib.Core.Path.{◌≡◌, refl, ap}
use mathlib.Core.List.{List, [], ◌∷◌, ◌++◌}
use Prim.Native.Nat.{ℕ, zero, suc, min}
use native.Mathlib.Omega.{arith}
use lib.ListN.{length, take, drop}
use Rattle.answer.specs.Told.{told}

pub told_front : (results answer : List ℕ) (n : ℕ) → n ≡ min (length answer) (length results) → take n results ++ drop n answer ≡ told results answer
unfolding told
told_front [] answer zero h = refl
told_front [] answer (suc n) h = absurd (omega arith)
told_front (x ∷ results) [] zero h = refl
told_front (x ∷ results) [] (suc n) h = absurd (omega arith)
told_front (x ∷ results) (y ∷ answer) zero h = absurd (omega arith)
told_front (x ∷ results) (y ∷ answer) (suc n) h = ap (◌∷◌ x) (told_front results answer n (omega arith))
