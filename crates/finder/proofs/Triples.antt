-- The conditions of the triples, one triple after the other.
use mathlib.Core.Path.{◌≡◌, refl, ap, subst, ◌∙◌}
use mathlib.Core.List.{List, [], ◌∷◌, ◌++◌, map, flat_map}
use Prim.Native.Nat.{ℕ, zero, suc, ◌+◌, ◌<◌, ◌≤◌, Fin}
use native.Mathlib.Numerals.{add-one}
use native.Mathlib.Omega.{arith}
use lib.ListN.{length, get_or, take, length-map, get_or-map}
use lib.Seq.{take_all}
use Rattle.rules.specs.Code.{Triple}
use Rattle.algebra.specs.Hom.{move}
use Rattle.algebra.specs.Conditions.{Condition, conditions, conditions_at}
use Rattle.algebra.proofs.Plan.{conditions_more}
use Rattle.prime.specs.Field.{elt}
use Rattle.weights.specs.Triples.{tripled}
use Rattle.weights.specs.declared.Triples.{Triples}
use Rattle.weights.proofs.Tripled.{triple_at}
use Rattle.condition.specs.Kept.{Kept}
use Rattle.triple.specs.Grown.{Grown, triple}
use Rattle.triple.proofs.Grow.{grown_none, grown_then}

tripled_length : (points word times : List ℕ) → length word ≡ length points → length times ≡ length points → length (tripled points word times) ≡ length points
unfolding tripled
tripled_length [] word times a b = refl
tripled_length (α ∷ points) [] times a b = absurd (omega arith)
tripled_length (α ∷ points) (r ∷ word) [] a b = absurd (omega arith)
tripled_length (α ∷ points) (r ∷ word) (m ∷ times) a b = ap suc (tripled_length points word times (omega arith) (omega arith))

tripled_get : (points word times : List ℕ) (j : ℕ) (z : Triple ℕ) → length word ≡ length points → length times ≡ length points → j < length points →
    get_or (tripled points word times) j z ≡ triple_at points word times j
unfolding tripled
tripled_get [] word times j z a b u = absurd (omega arith)
tripled_get (α ∷ points) [] times j z a b u = absurd (omega arith)
tripled_get (α ∷ points) (r ∷ word) [] j z a b u = absurd (omega arith)
tripled_get (α ∷ points) (r ∷ word) (m ∷ times) zero z a b u = refl
tripled_get (α ∷ points) (r ∷ word) (m ∷ times) (suc j) z a b u = tripled_get points word times j z (omega arith) (omega arith) (omega arith)

-- the conditions of the first j triples
abbrev pub met : (q : ℕ) → Triples → ℕ → 1 < q → List (Condition (Fin q))
met q z j h = conditions (take j (map (move (elt q h)) (tripled z.points.now z.word.now z.times.now)))

module _ (q k w l : ℕ) (z : Triples) where
  pub triples_none : (leads work : List ℕ) → Grown q k w l (met q z 0) leads leads work work
  unfolding conditions flat_map
  triples_none leads work = grown_none q k w l (met q z 0) leads work (λ h. refl)

  long : length (tripled z.points.now z.word.now z.times.now) ≡ length z.points.now
  long = tripled_length z.points.now z.word.now z.times.now z.symbols z.multiplicities

  -- p, r and m: the triple at place j
  pub triples_more : (j p r m : ℕ) {leads leads' leads'' work work' work'' : List ℕ} → j < length z.points.now →
      p ≡ get_or z.points.now j 0 → r ≡ get_or z.word.now j 0 → m ≡ get_or z.times.now j 0 →
      Grown q k w l (met q z j) leads leads' work work' → Grown q k w l (λ h. conditions_at (triple q h p r m)) leads' leads'' work' work'' →
      Grown q k w l (met q z (j + 1)) leads leads'' work work''
  triples_more j p r m {leads' = leads'} {leads'' = leads''} {work' = work'} {work'' = work''} u a b c G N =
      grown_then q k w l (met q z (j + 1)) G (rw (a, b, c) at N) (λ h. rw add-one
      (conditions_more (map (move (elt q h)) (tripled z.points.now z.word.now z.times.now)) j (move (elt q h) none)
      (simp length-map (omega (arith, long)))
      ∙ ap (λ t. met q z j h ++ conditions_at t)
      (get_or-map (move (elt q h)) (tripled z.points.now z.word.now z.times.now) j none
      ∙ ap (move (elt q h)) (tripled_get z.points.now z.word.now z.times.now j none z.symbols z.multiplicities u))))
    where
      none : Triple ℕ
      none = record { point = 0; symbol = 0; times = 0 }

  pub triples_all : (j : ℕ) {leads leads' work work' : List ℕ} → length z.points.now ≤ j → Grown q k w l (met q z j) leads leads' work work' →
      Grown q k w l (λ h. conditions (map (move (elt q h)) (tripled z.points.now z.word.now z.times.now))) leads leads' work work'
  triples_all j {leads' = leads'} {work' = work'} u G = record {
    keeps = λ h cs K. subst (λ zs. Kept q h k w l (cs ++ conditions zs) leads' work')
        (take_all j (map (move (elt q h)) (tripled z.points.now z.word.now z.times.now)) (simp length-map (omega (arith, long))))
        (G.keeps h cs K);
  }
