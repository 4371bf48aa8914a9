-- The weights of Hasse derivatives in a slice: a row of 256 places for each order.
use Rattle.std.specs.Prelude.{◌≡◌, List, ℕ, ◌+◌, ◌*◌, ◌<◌, length, get_or}
use Rattle.rules.specs.Field.{ops}
use Rattle.algebra.specs.Conditions.{weight}

-- the first n weights at α of each order below m
pub record Weights (q α m n : ℕ) (ws : List ℕ) : Type 0 where
  pub len : length ws ≡ 1024
  pub row : (a : ℕ) → a < m → (i : ℕ) → i < n → get_or ws (a * 256 + i) 0 ≡ weight (ops q) α a i
