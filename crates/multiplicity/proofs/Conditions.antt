-- With the weights of a triple the pairings are the values of its conditions.
use mathlib.Core.Path.{◌≡◌, ap, ◌∙◌}
use mathlib.Core.List.{List}
use Prim.Native.Nat.{ℕ, ◌+◌, ◌-◌, ◌*◌, ◌<◌, ◌≤◌}
use native.Mathlib.Omega.{arith}
use lib.Dec.{eqb}
use Rattle.rules.specs.Code.{Triple}
use Rattle.algebra.specs.Conditions.{condition}
use Rattle.buffers.proofs.Part.{at_mid}
use Rattle.weights.specs.Weights.{Weights}
use Rattle.weights.proofs.Pairing.{pairing_value}
use Rattle.multiplicity.specs.Met.{line, zero_with, zero_below, met}
use Rattle.multiplicity.proofs.Tests.{below_same}

-- with the rows of weights at a point and a symbol, the pairings are the values of the triple's conditions
module _ (q k w l : ℕ) (c : List ℕ) where
  pub below_met : (z : Triple ℕ) (xs ys : List ℕ) → w ≤ 256 → l < 256 → z.times ≤ 4 → Weights q z.point z.times w xs →
      Weights q z.symbol z.times (l + 1) ys →
      zero_below q k w l z.times xs ys c ≡ met q k w l c z
  unfolding zero_below zero_with met condition
  below_met z xs ys u v f wx wy =
      below_same _ _ z.times (λ a s. below_same _ _ (z.times - a) (λ b t. ap (λ (x : ℕ). eqb x 0)
      (pairing_value q k w l (line a w xs) (line b (l + 1) ys) c (condition z b a)
      (λ i h. at_mid (a * 256) w xs (omega (arith, wx.len)) i h ∙ wx.row a s i h)
      (λ i h. at_mid (b * 256) (l + 1) ys (omega (arith, wy.len)) i (omega arith) ∙ wy.row b (omega arith) i (omega arith)))))
