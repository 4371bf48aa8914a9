-- What the finder finds.
use Rattle.std.specs.Prelude.{List, map, ℕ, ◌<◌, T}
use Rattle.rules.specs.Field.{ops}
use Rattle.rules.specs.Code.{Triple}
use Rattle.rules.specs.Curve.{passes}
use Rattle.rules.specs.Refusal.{under}
use Rattle.algebra.specs.Hom.{move}
use Rattle.algebra.specs.Space.{Chosen}
use Rattle.prime.specs.Field.{elt, field}

-- the curve found: of all that pass, the least
pub record Found (q k w l : ℕ) (zs : List (Triple ℕ)) (Q : List ℕ) : Type 0 where
  pub small : T (under q Q)
  pub passing : T (passes (ops q) k w l zs Q)
  pub chosen : (h : 1 < q) → Chosen (field q h) k w l (map (move (elt q h)) zs) (map (elt q h) Q)
