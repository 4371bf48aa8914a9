-- What is kept while the conditions met grow.
use Rattle.std.specs.Prelude.{List, ◌++◌}
use Prim.Native.Nat.{ℕ, ◌<◌, Fin}
use Rattle.rules.specs.Code.{Triple}
use Rattle.algebra.specs.Hom.{move}
use Rattle.algebra.specs.Conditions.{Condition}
use Rattle.prime.specs.Field.{elt}
use Rattle.condition.specs.Kept.{Kept}

-- from what held after any conditions to what holds after these and more
pub record Grown (q k w l : ℕ) (more : 1 < q → List (Condition (Fin q))) (leads leads' work work' : List ℕ) : Type 0 where
  pub keeps : (h : 1 < q) (cs : List (Condition (Fin q))) → Kept q h k w l cs leads work → Kept q h k w l (cs ++ more h) leads' work'

-- a point, a symbol and a multiplicity as a triple of the field
abbrev pub triple : (q : ℕ) → 1 < q → ℕ → ℕ → ℕ → Triple (Fin q)
triple q h α r m = move (elt q h) (record { point = α; symbol = r; times = m })
