-- Results written to the front of a lent answer, as many as the answer holds.
use Rattle.std.specs.Prelude.{List, [], ◌∷◌, ℕ}

-- the answer, with the results over its front
unfoldable pub told : List ℕ → List ℕ → List ℕ
told [] answer = answer
told (x ∷ results) [] = []
told (x ∷ results) (_ ∷ answer) = x ∷ told results answer
