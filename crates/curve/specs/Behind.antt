-- What the degree condition asks of a row.
use Rattle.std.specs.Prelude.{List, ℕ, ◌-◌, ◌*◌, take, drop}

-- what row t of a curve holds behind the part that can be nonzero
abbrev pub behind : ℕ → ℕ → ℕ → List ℕ → List ℕ
behind k w t c = drop (w - t * (k - 1)) (take w (drop (t * w) c))
