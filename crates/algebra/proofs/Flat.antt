-- The curve that Kötter's algorithm finds, as a flat curve: of the curves that pass it is the chosen one, and there is only one such.
use mathlib.Core.Path.{◌≡◌, sym, ◌∙◌, ap, subst, subst₂}
use mathlib.Core.Logic.{◌⊎◌, inl, inr, by_cases}
use mathlib.Core.List.{List}
use Prim.Native.Nat.{ℕ, ◌<◌, ◌≤◌, ◌+◌, ◌*◌, ◌-◌, ◌/◌, ◌%◌}
use native.Mathlib.Omega.{arith}
use native.Mathlib.Nat.{mul-zero, div-add-mod', div-lt_iff_lt-mul, mod-lt}
use native.Mathlib.Decide.{dec_lt}
use lib.Dec.{T, T_not}
use lib.ListN.{length, get_or, get_or-eq_default}
use lib.Seq.{ext_get_or}
use Rattle.rules.specs.Field.{Ops}
use Rattle.rules.specs.Laws.{Laws}
use Rattle.rules.specs.Code.{Triple, zeros}
use Rattle.rules.specs.Curve.{coefficient, passes}
use Rattle.algebra.specs.Conditions.{conditions}
use Rattle.algebra.specs.Poly.{coef}
use Rattle.algebra.specs.Space.{space, Curve, Same, Below, Top, Monic, LeastCurve, Chosen}
use Rattle.algebra.proofs.Rank.{rank_eq}
use Rattle.algebra.proofs.Basis.{monic_same, meets_same}
use Rattle.algebra.proofs.Least.{greatest}
use Rattle.algebra.proofs.Rows.{zeros_zero}
use Rattle.algebra.proofs.Complete.{weighted_at}
use Rattle.algebra.proofs.Passes.{passes_says, passes_found}

-- every place of a flat curve is that of a term
pub each_place : (W n : ℕ) (X : ℕ → Type 0) → ((t i : ℕ) → t < n → i < W → X (t * W + i)) → (m : ℕ) → m < n * W → X m
each_place W n X h m l = go (dec_lt 0 W)
  where
    go : Dec (0 < W) → X m
    go (yes p) = subst X (div-add-mod' m W) (h (m / W) (m % W) ((div-lt_iff_lt-mul p).1 l) (mod-lt m p))
    go (no p) = let e : W ≡ 0 = omega arith in absurd (let z : n * W ≡ 0 = ap (◌*◌ n) e ∙ mul-zero n in omega arith)

module _ (O : Ops) (L : Laws O) (k W ℓ : ℕ) (zs : List (Triple O.Symbol)) where
  open O use {Symbol, nil}

  -- a curve that passes has a greatest term
  pub passes_top : (Q : List Symbol) → length Q ≡ (ℓ + 1) * W → T (passes O k W ℓ zs Q) → (i : ℕ) × (t : ℕ) × Top O (space k W ℓ) (coefficient O W Q) i t
  unfolding coefficient coef
  passes_top Q long p = go (greatest O L (space k W ℓ) (coefficient O W Q))
    where
      zero_at : Below O (space k W ℓ) (coefficient O W Q) 0 → (t i : ℕ) → t < ℓ + 1 → i < W → get_or Q (t * W + i) nil ≡ nil
      zero_at b t i u l = by_cases (dec_lt (i + t * (k - 1)) W)
          (λ h. b i t (record { column = omega arith; inside = h }) (omega arith))
          (λ h. weighted_at O L k W ℓ Q (passes_says O L k W ℓ zs Q p).within t i u l (omega arith))

      zero_all : Below O (space k W ℓ) (coefficient O W Q) 0 → (m : ℕ) → get_or Q m nil ≡ nil
      zero_all b m = by_cases (dec_lt m (length Q))
          (λ l. each_place W (ℓ + 1) (λ m. get_or Q m nil ≡ nil) (zero_at b) m (omega arith))
          (λ n. get_or-eq_default Q nil (omega arith))

      go : Below O (space k W ℓ) (coefficient O W Q) 0 ⊎ ((i : ℕ) × (t : ℕ) × Top O (space k W ℓ) (coefficient O W Q) i t) →
          (i : ℕ) × (t : ℕ) × Top O (space k W ℓ) (coefficient O W Q) i t
      go (inl b) = absurd (T_not (zeros O Q) (passes_says O L k W ℓ zs Q p).some ((zeros_zero O L Q).1 (zero_all b)))
      go (inr T) = T

  -- curves that pass and agree in the space are equal
  passes_same : (P Q : List Symbol) → length P ≡ (ℓ + 1) * W → length Q ≡ (ℓ + 1) * W → T (passes O k W ℓ zs P) → T (passes O k W ℓ zs Q) →
      Same O (space k W ℓ) (coefficient O W P) (coefficient O W Q) → P ≡ Q
  unfolding coefficient
  passes_same P Q long_p long_q p q s = ext_get_or nil P Q (long_p ∙ sym long_q) (λ m l. each_place W (ℓ + 1) (λ m. get_or P m nil ≡ get_or Q m nil) at m (omega arith))
    where
      gone : (R : List Symbol) → T (passes O k W ℓ zs R) → (t i : ℕ) → t < ℓ + 1 → i < W → W ≤ i + t * (k - 1) → get_or R (t * W + i) nil ≡ nil
      gone R r = weighted_at O L k W ℓ R (passes_says O L k W ℓ zs R r).within

      at : (t i : ℕ) → t < ℓ + 1 → i < W → get_or P (t * W + i) nil ≡ get_or Q (t * W + i) nil
      at t i u l = by_cases (dec_lt (i + t * (k - 1)) W)
          (λ h. s i t (record { column = omega arith; inside = h }))
          (λ h. gone P p t i u l (omega arith) ∙ sym (gone Q q t i u l (omega arith)))

  -- a least curve, written out flat with zeros outside the space, is the chosen curve
  pub chosen : {P : Curve O} {i t : ℕ} (Q : List Symbol) → LeastCurve O (space k W ℓ) (conditions zs) P i t → length Q ≡ (ℓ + 1) * W →
      Same O (space k W ℓ) (coefficient O W Q) P → ((t i : ℕ) → t < ℓ + 1 → i < W → W ≤ i + t * (k - 1) → coefficient O W Q i t ≡ nil) → Chosen O k W ℓ zs Q
  chosen {P} {i} {t} Q A long s z = record {
    long = long;
    passing = p;
    i = i;
    t = t;
    monic = M;
    least = λ R a j r U. A.least _ a j (passes_says O L k W ℓ zs R r).meets U;
    only = λ R long_r r N. passes_same R Q long_r long r p (λ i t h. A.only _ (passes_says O L k W ℓ zs R r).meets N i t h ∙ sym (s i t h));
  }
    where
      M : Monic O (space k W ℓ) (coefficient O W Q) i t
      M = monic_same O L (space k W ℓ) s A.monic

      p : T (passes O k W ℓ zs Q)
      p = passes_found O L k W ℓ zs Q z M (meets_same O L (space k W ℓ) s A.meets)

  -- there is one chosen curve only
  pub chosen_one : (P Q : List Symbol) → Chosen O k W ℓ zs P → Chosen O k W ℓ zs Q → P ≡ Q
  chosen_one P Q p q = q.only P p.long p.passing (subst₂ (Monic O (space k W ℓ) (coefficient O W P)) e.0 e.1 p.monic)
    where
      top : {R : Curve O} {i t : ℕ} → Monic O (space k W ℓ) R i t → Top O (space k W ℓ) R i t
      top M = record { within = M.within; some = λ z. L.one_nil (sym M.lead ∙ z); rest = M.rest }

      e : (p.i ≡ q.i) × (p.t ≡ q.t)
      e = rank_eq (space k W ℓ) _ _ _ _ p.monic.within.column q.monic.within.column
          (let l = p.least Q _ _ q.passing (top q.monic) in let m = q.least P _ _ p.passing (top p.monic) in omega arith)
