-- When a message meets a triple, and how a score over slices goes on place by place.
use mathlib.Core.Path.{◌≡◌, refl, ap, ◌∙◌}
use mathlib.Core.Bool.{true, false, cond}
use mathlib.Core.List.{List}
use Prim.Native.Nat.{ℕ, ◌+◌, ◌<◌, ◌≤◌}
use native.Mathlib.Numerals.{add-one}
use native.Mathlib.Omega.{arith}
use lib.Dec.{T}
use lib.ListN.{length, get_or, drop, drop_of_length-le}
use lib.Seq.{drop-cons}
use borrow.Author.Tests.{ne_eqb}
use Rattle.rules.specs.Lists.{sum}
use Rattle.rules.specs.Field.{ops, alike, modulus}
use Rattle.rules.specs.Code.{Triple, eval, meets, score}
use Rattle.prime.proofs.Below.{eval_below, alike_below, alike_itself}
use Rattle.weights.specs.Triples.{tripled}
use Rattle.weights.specs.declared.Triples.{Triples}

module _ (q : ℕ) (m : T (modulus q)) where
  module _ (f : List ℕ) (z : Triple ℕ) where
    pub meets_it : eval (ops q) f z.point ≡ z.symbol → meets (ops q) f z ≡ true
    unfolding meets
    meets_it e = ap (λ (x : ℕ). alike q x z.symbol) e ∙ alike_itself q z.symbol

    pub misses_it : z.symbol < q → ¬ (eval (ops q) f z.point ≡ z.symbol) → meets (ops q) f z ≡ false
    unfolding meets
    misses_it l h = alike_below q _ _ (eval_below q m f z.point) l ∙ ne_eqb _ _ h

module _ (q : ℕ) (z : Triples) (f : List ℕ) where
  -- the score from place j on
  abbrev pub behind : ℕ → ℕ
  behind j = score (ops q) (tripled (drop j z.points.now) (drop j z.word.now) (drop j z.times.now)) f

  -- .. where the triple at place j is that of p, r and m
  pub behind_more : (j p r m : ℕ) → j < length z.points.now → p ≡ get_or z.points.now j 0 → r ≡ get_or z.word.now j 0 → m ≡ get_or z.times.now j 0 →
      behind j ≡ cond (meets (ops q) f (record { point = p; symbol = r; times = m })) m 0 + behind (j + 1)
  unfolding score tripled sum
  behind_more j p r m l a b c =
      let n : j < length z.word.now = omega (arith, z.symbols) in
      let o : j < length z.times.now = omega (arith, z.multiplicities) in
      rw (a, b, c, add-one, drop-cons z.points.now j 0 l, drop-cons z.word.now j 0 n, drop-cons z.times.now j 0 o) refl

  pub behind_none : (j : ℕ) → length z.points.now ≤ j → behind j ≡ 0
  unfolding score tripled sum
  behind_none j l = rw (drop_of_length-le z.points.now l) refl
