-- By which number a loop divides by q.
use Rattle.std.specs.Prelude.{◌≡◌, ℕ, ◌/◌}

-- m is the greatest number that times q is below 2^32
abbrev pub Reciprocal : ℕ → ℕ → Type 0
Reciprocal q m = m ≡ 4294967295 / q
