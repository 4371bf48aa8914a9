-- Points, symbols and multiplicities side by side, as a chain over the three slices goes through them.
use mathlib.Core.Path.{◌≡◌, refl, ap, ◌∙◌}
use mathlib.Core.Bool.{Bool, ◌&&◌}
use mathlib.Core.List.{List, [], ◌∷◌}
use Prim.Native.Nat.{ℕ, ◌<◌, ◌≤◌}
use native.Mathlib.Omega.{arith}
use lib.ListN.{length, get_or}
use Rattle.std.specs.List.{list_all, zip}
use Rattle.std.proofs.lemmas.List.{get_or_default}
use Rattle.std.proofs.lemmas.Slice.Zip.{length-zip, get_or-zip}
use Rattle.rules.specs.Lists.{all}
use Rattle.rules.specs.Code.{Triple}
use Rattle.weights.specs.Triples.{tripled}

-- one of them as a triple
abbrev pub triple_of : (ℕ × ℕ) × ℕ → Triple ℕ
triple_of p = record { point = p.0.0; symbol = p.0.1; times = p.1 }

pub zipped_all : (test : Triple ℕ → Bool) (points word times : List ℕ) →
    list_all (λ p. test (triple_of p)) (zip (zip points word) times) ≡ all test (tripled points word times)
unfolding tripled all
zipped_all test [] word times = refl
zipped_all test (α ∷ points) [] times = refl
zipped_all test (α ∷ points) (r ∷ word) [] = refl
zipped_all test (α ∷ points) (r ∷ word) (m ∷ times) =
    ap (λ b. test (record { point = α; symbol = r; times = m }) && b) (zipped_all test points word times)

-- none of them has a multiplicity that is not in the third slice
pub zipped_few : (points word times : List ℕ) → ((j : ℕ) → j < length times → get_or times j 0 ≤ 4) → (p : (ℕ × ℕ) × ℕ) (k : ℕ) →
    k < length (zip (zip points word) times) → p ≡ get_or (zip (zip points word) times) k p → p.1 ≤ 4
zipped_few points word times few p k l e =
    let n = length-zip (zip points word) times in
    let m : k < length times = omega arith in
    let i : p.1 ≡ get_or times k p.1 = ap (λ (z : (ℕ × ℕ) × ℕ). z.1) (e ∙ get_or-zip (zip points word) times k p (omega arith) m) in
    omega (arith, few k m, get_or_default times k p.1 0 m)
