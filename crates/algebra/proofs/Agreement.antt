-- Document 01's word: agreement in m places is a score of s·m over the triples with multiplicity s, and distinct points give triples that differ.
use mathlib.Core.Path.{◌≡◌, sym, ◌∙◌, ap, ap₂, fun_ext}
use mathlib.Core.Bool.{Bool, true, false, cond, not}
use mathlib.Core.List.{List, [], ◌∷◌, zip_with}
use Prim.Native.Nat.{ℕ, ◌+◌, ◌*◌, ◌<◌}
use native.Mathlib.Nat.{mul-add, mul-zero, mul-one, mul-le-mul_left, le_of_mul-le-mul_left}
use lib.Dec.{T, T_not, leb, leb→le, le→leb}
use Rattle.rules.specs.Lists.{all, distinct, keep, sum}
use Rattle.rules.specs.Field.{Ops}
use Rattle.rules.specs.Laws.{Laws}
use Rattle.rules.specs.Code.{triples, meets, eval, score, sifted, scoring, readings}
use Rattle.rules.specs.Curve.{passes}
use Rattle.rules.specs.Search.{rows, listed}
use Rattle.rules.proofs.Tests.{both, same_test}
use Rattle.algebra.specs.Points.{Apart, Differ}
use Rattle.algebra.proofs.Ring.{same_if}
use Rattle.algebra.proofs.Complete.{listed_scoring}

leb_times : (s m n : ℕ) → 0 < s → leb (s * m) (s * n) ≡ leb m n
leb_times s m n h = same_test _ _ (λ t. le→leb m n (le_of_mul-le-mul_left (leb→le (s * m) (s * n) t) h))
    (λ t. le→leb (s * m) (s * n) (mul-le-mul_left s (leb→le m n t)))

cond_times : (s : ℕ) (b : Bool) → cond b s 0 ≡ s * cond b 1 0
cond_times s true = sym (mul-one s)
cond_times s false = sym (mul-zero s)

module _ (O : Ops) where
  open O use {Symbol, same}

  score_times : (s : ℕ) (points word f : List Symbol) → score O (triples s points word) f ≡ s * score O (triples 1 points word) f
  unfolding score meets triples zip_with sum
  score_times s [] word f = sym (mul-zero s)
  score_times s (α ∷ points) [] f = sym (mul-zero s)
  score_times s (α ∷ points) (r ∷ word) f = ap₂ ◌+◌ (cond_times s (same (eval O f α) r)) (score_times s points word f) ∙ sym (mul-add s _ _)

  pub sifted_times : (s m : ℕ) (points word : List Symbol) (fs : List (List Symbol)) → 0 < s →
      sifted O (s * m) (triples s points word) fs ≡ sifted O m (triples 1 points word) fs
  unfolding sifted
  sifted_times s m points word fs h = ap (λ test. keep test fs) (fun_ext λ f. ap (leb (s * m)) (score_times s points word f) ∙ leb_times s m _ h)

module _ (O : Ops) (L : Laws O) where
  open O use {Symbol, same}

  apart : (s : ℕ) (α r : Symbol) (points word : List Symbol) → T (all (λ y. not (same α y)) points) →
      Apart O (record { point = α; symbol = r; times = s }) (triples s points word)
  unfolding all triples zip_with
  apart s α r [] word t = tt
  apart s α r (β ∷ points) [] t = tt
  apart s α r (β ∷ points) (y ∷ word) t =
      let h = both (not (same α β)) _ t in
      (λ e. absurd (T_not (same α β) h.0 (same_if O L α β (sym e))), apart s α r points word h.1)

  pub triples_differ : (s : ℕ) (points word : List Symbol) → T (distinct same points) → Differ O (triples s points word)
  unfolding distinct triples zip_with
  triples_differ s [] word t = tt
  triples_differ s (α ∷ points) [] t = tt
  triples_differ s (α ∷ points) (r ∷ word) t = let h = both (all (λ y. not (same α y)) points) _ t in
      (apart s α r points word h.0, triples_differ s points word h.1)

  -- Demand 2: for every curve that passes, the list from it is the list of readings.
  pub listed_readings : (k s m ℓ : ℕ) (points word Q : List Symbol) → 0 < k → 0 < s → T (distinct same points) →
      T (passes O k (s * m) ℓ (triples s points word) Q) →
      listed O k m (triples 1 points word) (rows (s * m) (ℓ + 1) Q) ≡ readings O k m points word
  unfolding listed readings scoring
  listed_readings k s m ℓ points word Q h p u t =
      sym (sifted_times O s m points word _ p)
      ∙ listed_scoring O L k (s * m) ℓ (triples s points word) Q h t (triples_differ s points word u)
      ∙ sifted_times O s m points word _ p
