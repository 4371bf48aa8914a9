-- Three slices as one list of triples, and what the check and the finder take.
use Rattle.std.specs.Prelude.{◌≡◌, List, [], ◌∷◌, ℕ, ◌+◌, ◌*◌, ◌<◌, ◌≤◌, length, get_or}
use Rattle.rules.specs.Code.{Triple}
use Rattle.weights.specs.Shape.{Shaped}

-- points, symbols and multiplicities, as far as each of them goes
unfoldable pub tripled : List ℕ → List ℕ → List ℕ → List (Triple ℕ)
tripled [] word times = []
tripled (α ∷ points) [] times = []
tripled (α ∷ points) (r ∷ word) [] = []
tripled (α ∷ points) (r ∷ word) (m ∷ times) = record { point = α; symbol = r; times = m } ∷ tripled points word times

-- what both take: as many symbols and multiplicities as points, no multiplicity above 4, and a whole curve
pub record Checkable (q k w l : ℕ) (points word times curve : List ℕ) : Type 0 where
  pub shape : Shaped q k w l
  pub symbols : length word ≡ length points
  pub multiplicities : length times ≡ length points
  pub few : (j : ℕ) → j < length times → get_or times j 0 ≤ 4
  pub whole : length curve ≡ (l + 1) * w
