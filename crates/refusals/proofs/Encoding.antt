-- Which number encode gives: 1 and 2 come first, and what points, message and room are refused for comes behind.
use mathlib.Core.Path.{◌≡◌}
use mathlib.Core.Bool.{true, false}
use mathlib.Core.List.{List, [], ◌∷◌, ◌++◌}
use Prim.Native.Nat.{ℕ}
use lib.Dec.{ltb}
use Rattle.rules.specs.Field.{modulus}
use Rattle.rules.specs.Setting.{code_ranges}
use Rattle.rules.specs.Refusal.{◌if◌, ◌of◌, lowest, point_causes, encode_refusal}

module _ (p n k : ℕ) (points message : List ℕ) (room : ℕ) where
  pub encode_refuses_1 : modulus p ≡ false → 1 ≡ encode_refusal p n k points message room
  unfolding encode_refusal lowest
  encode_refuses_1 a = simp a

  pub encode_refuses_2 : modulus p ≡ true → code_ranges n k ≡ false → 2 ≡ encode_refusal p n k points message room
  unfolding encode_refusal lowest
  encode_refuses_2 a b = simp (a, b)

  -- the causes behind the first two
  pub encode_rest : modulus p ≡ true → code_ranges n k ≡ true
      → lowest (point_causes p n points ((k of message) ∷ []) ++ (8 if ltb room n) ∷ []) ≡ encode_refusal p n k points message room
  unfolding encode_refusal lowest
  encode_rest a b = simp (a, b)
