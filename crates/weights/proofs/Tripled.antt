-- The triple at a place, and that a word with one multiplicity gives rules' triples.
use mathlib.Core.Path.{◌≡◌, refl, ap}
use mathlib.Core.List.{List, [], ◌∷◌, zip_with}
use Prim.Native.Nat.{ℕ, zero, suc}
use native.Mathlib.Omega.{arith}
use lib.ListN.{length, get_or, replicate}
use Rattle.rules.specs.Code.{Triple, triples}
use Rattle.weights.specs.Triples.{tripled}

pub tripled_triples : (s n : ℕ) (points word : List ℕ) → length word ≡ n → tripled points word (replicate n s) ≡ triples s points word
unfolding tripled triples zip_with
tripled_triples s n [] word h = refl
tripled_triples s n (α ∷ points) [] h = refl
tripled_triples s zero (α ∷ points) (r ∷ word) h = absurd (omega arith)
tripled_triples s (suc n) (α ∷ points) (r ∷ word) h = ap (◌∷◌ (record { point = α; symbol = r; times = s })) (tripled_triples s n points word (omega arith))

-- the triple at place j
abbrev pub triple_at : List ℕ → List ℕ → List ℕ → ℕ → Triple ℕ
triple_at points word times j = record { point = get_or points j 0; symbol = get_or word j 0; times = get_or times j 0 }
