-- A `for` over points, symbols and multiplicities side by side: where a turn's triple stands, and how many turns there were.
use mathlib.Core.Path.{◌≡◌, ap}
use mathlib.Core.List.{List, [], ◌∷◌}
use Prim.Native.Nat.{ℕ, zero, suc, ◌<◌}
use native.Mathlib.Omega.{arith}
use denote.Ref.{Bor}
use lib.ListN.{length, get_or}
use Rattle.std.specs.declared.iter.Zip.{Zip}
use Rattle.std.specs.Iterator.{Yields}
use Rattle.std.specs.Iterator.Adapters.{zip_first, zip_second}
use Rattle.std.specs.List.{zip}
use Rattle.std.specs.Slice.Iter.{iter_rest}
use Rattle.std.proofs.Common.{Iter, Option, Some, None}
use Rattle.std.proofs.iter.Yields.{fronts}
use Rattle.std.proofs.lemmas.Iterator.{zips, YieldsList, YieldsList-from_slice, YieldsList-from_zip}
use Rattle.std.proofs.lemmas.Iterator.Consumers.{YieldsList-turn, YieldsList-end}
use Rattle.std.proofs.lemmas.Slice.Zip.{length-zip}
use Rattle.weights.specs.declared.Triples.{Triples}

abbrev pub Three : Type 0
Three = Zip (Zip (Iter ℕ) (Iter ℕ)) (Iter ℕ)

abbrev pub Item : Type 0
Item = (Bor ℕ × Bor ℕ) × Bor ℕ

abbrev pub steps : Three → Option Item → Three → Type 0
steps = zips (zips fronts fronts) fronts

abbrev pub numbers : Item → (ℕ × ℕ) × ℕ
numbers x = ((x.0.0.now, x.0.1.now), x.1.now)

-- what goes over three slices side by side yields what they hold
pub zipped_yields : {s : Three} (points word times : List ℕ) → iter_rest (zip_first (zip_first s)) ≡ points →
    iter_rest (zip_second (zip_first s)) ≡ word → iter_rest (zip_second s) ≡ times →
    YieldsList steps numbers s (zip (zip points word) times)
zipped_yields points word times a b c =
    YieldsList-from_zip (YieldsList-from_zip (YieldsList-from_slice points a) (YieldsList-from_slice word b)) (YieldsList-from_slice times c)

place_of : (points word times : List ℕ) (j : ℕ) (x d : (ℕ × ℕ) × ℕ) → length word ≡ length points → length times ≡ length points →
    j < length points → x ≡ get_or (zip (zip points word) times) j d →
    (x.0.0 ≡ get_or points j 0) × (x.0.1 ≡ get_or word j 0) × (x.1 ≡ get_or times j 0)
place_of [] word times j x d u v l e = absurd (omega arith)
place_of (α ∷ points) [] times j x d u v l e = absurd (omega arith)
place_of (α ∷ points) (r ∷ word) [] j x d u v l e = absurd (omega arith)
place_of (α ∷ points) (r ∷ word) (m ∷ times) zero x d u v l e =
    (ap (λ (y : (ℕ × ℕ) × ℕ). y.0.0) e, ap (λ (y : (ℕ × ℕ) × ℕ). y.0.1) e, ap (λ (y : (ℕ × ℕ) × ℕ). y.1) e)
place_of (α ∷ points) (r ∷ word) (m ∷ times) (suc j) x d u v l e = place_of points word times j x d (omega arith) (omega arith) (omega arith) e

module _ (z : Triples) where
  long : length (zip (zip z.points.now z.word.now) z.times.now) ≡ length z.points.now
  long = omega (arith, length-zip (zip z.points.now z.word.now) z.times.now, length-zip z.points.now z.word.now, z.symbols, z.multiplicities)

  -- s: where the loop begins; xs: what it has yielded; r: what t gives next
  module _ (s t t' : Three) (r : Option Item) (xs : List Item) (y : Yields steps s xs t) (h : steps t r t')
      (first : iter_rest (zip_first (zip_first s)) ≡ z.points.now) (second : iter_rest (zip_second (zip_first s)) ≡ z.word.now) (third : iter_rest (zip_second s) ≡ z.times.now) where
    road : YieldsList steps numbers s (zip (zip z.points.now z.word.now) z.times.now)
    road = zipped_yields z.points.now z.word.now z.times.now first second third

    pub turn : (x : Item) → r ≡ Some x → (length xs < length z.points.now) ×
        (x.0.0.now ≡ get_or z.points.now (length xs) 0) × (x.0.1.now ≡ get_or z.word.now (length xs) 0) × (x.1.now ≡ get_or z.times.now (length xs) 0)
    turn x e =
        let a = YieldsList-turn road xs t y r t' x e h in
        let l : length xs < length z.points.now = omega (arith, a.0, long) in
        let p = place_of z.points.now z.word.now z.times.now (length xs) _ _ z.symbols z.multiplicities l a.1 in
        (l, p.0, p.1, p.2)

    pub turns : r ≡ None → length xs ≡ length z.points.now
    turns e = omega (arith, (YieldsList-end road xs t y r t' e h).1, long)
