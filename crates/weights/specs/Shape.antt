-- What the engine may take for granted of the numbers that it is told: q names a field, and k, W and ℓ come from an accepted setting.
use Rattle.std.specs.Prelude.{ℕ, ◌-◌, ◌*◌, ◌≤◌, ◌<◌, T}
use Rattle.rules.specs.Field.{modulus}

pub record Shaped (q k W ℓ : ℕ) : Type 0 where
  pub field : T (modulus q)
  pub two : 2 ≤ k
  pub short : k ≤ 64
  pub some : 1 ≤ W
  pub narrow : W ≤ 256
  pub rises : 1 ≤ ℓ
  pub few : ℓ ≤ 24
  -- every power of y up to ℓ has a place
  pub fits : ℓ * (k - 1) < W
