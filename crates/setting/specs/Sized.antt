-- W and ℓ of a setting within its ranges, with what makes the later sums and products small.
use Rattle.std.specs.Prelude.{◌≡◌, ℕ, ◌-◌, ◌*◌, ◌/◌, ◌≤◌, ◌<◌}

-- w is W
pub record Bound (n s τ w : ℕ) : Type 0 where
  pub is : w ≡ s * (n - τ)
  pub least : 1 ≤ w
  pub most : w ≤ 256

-- l is ℓ
pub record Power (w k l : ℕ) : Type 0 where
  pub is : l ≡ (w - 1) / (k - 1)
  pub below : l < w
  pub fits : l * (k - 1) < w
