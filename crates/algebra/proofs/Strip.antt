-- The curve stripped: its roots and its coefficients. One record describes it completely, so that nothing after it recurses over it.
use mathlib.Core.Path.{◌≡◌, refl, sym, ◌∙◌, ap, ap₂, fun_ext, subst}
use mathlib.Core.List.{List, [], ◌∷◌, map}
use mathlib.Core.Logic.{◌↔◌, by_cases}
use Prim.Native.Nat.{ℕ, zero, suc, ◌<◌, ◌≤◌, ◌+◌}
use native.Mathlib.Nat.{add-zero, add-suc}
use native.Mathlib.Omega.{arith}
use native.Mathlib.Decide.{dec_le, dec_lt}
use lib.Dec.{T_not}
use lib.ListN.{length, length-map}
use Rattle.rules.specs.Field.{Ops}
use Rattle.rules.specs.Laws.{Laws}
use Rattle.rules.specs.Code.{zeros}
use Rattle.rules.specs.Search.{width, rest, firsts, strip, stripped, along}
use Rattle.rules.proofs.Tests.{either}
use Rattle.algebra.specs.Poly.{Zero, coef, shift}
use Rattle.algebra.specs.Search.{cell, Stripped, Within}
use Rattle.algebra.proofs.Seq.{shift_zero, shift_suc}
use Rattle.algebra.proofs.Rows.{zeros_zero, coef_first, coef_rest, cell_firsts, cell_rest, cell_width}
use Rattle.algebra.proofs.Step.{shift_roots}

module _ (O : Ops) (L : Laws O) where
  open O use {Symbol, nil}

  rows_rest : (Q : List (List Symbol)) → Zero O (firsts O Q) → map (coef O) Q ≡ map (shift O) (map (coef O) (map rest Q))
  unfolding firsts coef
  rows_rest [] z = refl
  rows_rest (q ∷ Q) z = ap₂ ◌∷◌ (fun_ext go) (rows_rest Q (λ i. z (suc i)))
    where
      go : (i : ℕ) → coef O q i ≡ shift O (coef O (rest q)) i
      go zero = coef_first O L q ∙ z zero ∙ sym (shift_zero O L _)
      go (suc i) = sym (coef_rest O L q i) ∙ sym (shift_suc O L _ i)

  strip_roots : (n : ℕ) (Q : List (List Symbol)) (f : List Symbol) → Zero O (along O Q f) ↔ Zero O (along O (strip O n Q) f)
  unfolding strip
  strip_roots zero Q f = (λ z. z, λ z. z)
  strip_roots (suc n) Q f =
      let e = strip_roots n (map rest Q) f in
      either (λ S. Zero O (along O Q f) ↔ Zero O (along O S f)) _ _ (zeros O (firsts O Q))
      (λ h. let a = shift_roots O L f Q (map rest Q) (rows_rest Q ((zeros_zero O L _).0 h)) in (λ z. e.0 (a.0 z), λ z. a.1 (e.1 z)))
      (λ h. (λ z. z, λ z. z))

  -- x^r·Q has the roots of Q
  pub stripped_roots : (Q : List (List Symbol)) (f : List Symbol) → Zero O (along O Q f) ↔ Zero O (along O (stripped O Q) f)
  unfolding stripped
  stripped_roots Q f = strip_roots (width Q) Q f

  strip_length : (n : ℕ) (Q : List (List Symbol)) → length (strip O n Q) ≡ length Q
  unfolding strip
  strip_length zero Q = refl
  strip_length (suc n) Q =
      let e = strip_length n (map rest Q) ∙ length-map Q rest in
      either (λ (S : List (List Symbol)). length S ≡ length Q) _ _ (zeros O (firsts O Q)) (λ h. e) (λ h. refl)

  pub stripped_length : (Q : List (List Symbol)) → length (stripped O Q) ≡ length Q
  unfolding stripped
  stripped_length Q = strip_length (width Q) Q

  strip_is : (n : ℕ) (Q : List (List Symbol)) → Stripped O n (cell O Q) (cell O (strip O n Q))
  unfolding strip
  strip_is zero Q = record {
    v = 0;
    small = omega arith;
    moved = λ t i. ap (cell O Q t) (sym (add-zero i));
    clear = λ t i l. absurd (omega arith);
    stop = λ l. absurd (omega arith);
  }
  strip_is (suc n) Q =
      let r = strip_is n (map rest Q) in
      either (λ S. Stripped O (suc n) (cell O Q) (cell O S)) _ _ (zeros O (firsts O Q))
      (λ h. record {
        v = suc r.v;
        small = omega (arith, r.small);
        moved = λ t i. r.moved t i ∙ cell_rest O L Q t (i + r.v) ∙ ap (cell O Q t) (sym (add-suc i r.v));
        clear = λ t. elim [
          | zero ↦ λ l. sym (cell_firsts O L Q t) ∙ (zeros_zero O L (firsts O Q)).0 h t
          | suc i ↦ λ l. sym (cell_rest O L Q t i)
              ∙ r.clear t i (omega arith)
        ];
        stop = λ l z. r.stop (omega arith) (λ t. cell_rest O L Q t r.v ∙ z t);
      })
      (λ h. record {
        v = 0;
        small = omega arith;
        moved = λ t i. ap (cell O Q t) (sym (add-zero i));
        clear = λ t i l. absurd (omega arith);
        stop = λ l z. T_not (zeros O (firsts O Q)) h ((zeros_zero O L (firsts O Q)).1 (λ t. cell_firsts O L Q t ∙ z t));
      })

  pub stripped_is : (Q : List (List Symbol)) → Stripped O (width Q) (cell O Q) (cell O (stripped O Q))
  unfolding stripped
  stripped_is Q = strip_is (width Q) Q

  -- a coefficient that is not zero stands at the power divided out or above
  pub stripped_kept : (n : ℕ) (P S : ℕ → ℕ → Symbol) (r : Stripped O n P S) (t i : ℕ) → ¬ (P t i ≡ nil) → r.v ≤ i
  stripped_kept n P S r t i k = by_cases (dec_le r.v i) (λ l. l) (λ l. absurd (k (r.clear t i (omega arith))))

  -- what is divided out is determined, whatever bound it is looked for below
  module _ (P : ℕ → ℕ → Symbol) where
    half : (m n : ℕ) (S R : ℕ → ℕ → Symbol) (r : Stripped O m P S) (s : Stripped O n P R) → ((t i : ℕ) → m ≤ i → P t i ≡ nil) → r.v < s.v →
        (t i : ℕ) → S t i ≡ R t i
    half m n S R r s h l t i = by_cases (dec_le m r.v)
        (λ k. r.moved t i ∙ h t _ (omega arith) ∙ sym (s.moved t i ∙ h t _ (omega arith)))
        (λ k. absurd (r.stop (omega arith) (λ t. s.clear t _ l)))

    pub stripped_one : (m n : ℕ) (S R : ℕ → ℕ → Symbol) → Stripped O m P S → Stripped O n P R →
        ((t i : ℕ) → m ≤ i → P t i ≡ nil) → ((t i : ℕ) → n ≤ i → P t i ≡ nil) → S ≡ R
    stripped_one m n S R r s h k = fun_ext λ t. fun_ext λ i. by_cases (dec_lt r.v s.v) (λ l. half m n S R r s h l t i)
        (λ l. by_cases (dec_lt s.v r.v) (λ g. sym (half n m R S s r k g t i))
        (λ g. let e : r.v ≡ s.v = omega arith in r.moved t i ∙ ap (λ v. P t (i + v)) e ∙ sym (s.moved t i)))

  -- so a curve that is cut out of the coefficients of Q is Q stripped
  pub stripped_same : (n : ℕ) (Q : List (List Symbol)) (S : ℕ → ℕ → Symbol) → Stripped O n (cell O Q) S → ((t i : ℕ) → n ≤ i → cell O Q t i ≡ nil) →
      S ≡ cell O (stripped O Q)
  stripped_same n Q S r h = stripped_one (cell O Q) n (width Q) S _ r (stripped_is Q) h (λ t i l. cell_width O L Q t i l)

  pub stripped_cells : (P Q : List (List Symbol)) → cell O P ≡ cell O Q → cell O (stripped O P) ≡ cell O (stripped O Q)
  stripped_cells P Q e =
      stripped_same (width P) Q _ (subst (λ c. Stripped O (width P) c (cell O (stripped O P))) e (stripped_is P))
      (λ t i l. ap (λ c. c t i) (sym e) ∙ cell_width O L P t i l)

  pub stripped_within : (e W : ℕ) (Q : List (List Symbol)) → Within O e W Q → Within O e W (stripped O Q)
  stripped_within e W Q h t i l =
      let r = stripped_is Q in
      r.moved t i ∙ h t (i + r.v) (omega arith)
