-- What a run of weights for x and one for y make of a curve.
use Rattle.std.specs.Prelude.{List, ℕ, ◌+◌, ◌-◌, ◌*◌, get_or}
use Rattle.rules.specs.Field.{ops, times}
use Rattle.rules.specs.Curve.{total}

-- row t's share: of the row only the part that can be nonzero, i + t·(k−1) < w
abbrev pub share : ℕ → ℕ → ℕ → List ℕ → List ℕ → List ℕ → ℕ → ℕ
share q k w x y c t = times q (get_or y t 0) (total (ops q) (w - t * (k - 1)) (λ i. times q (get_or x i 0) (get_or c (t * w + i) 0)))

-- the rows' shares added up
unfoldable pub pairing : ℕ → ℕ → ℕ → ℕ → List ℕ → List ℕ → List ℕ → ℕ
pairing q k w l x y c = total (ops q) (l + 1) (share q k w x y c)
