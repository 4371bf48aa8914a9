-- The coefficients of a curve that is a list of rows, and the tests on it as facts.
use mathlib.Core.Path.{◌≡◌, refl, sym, ◌∙◌, ap, fun_ext}
use mathlib.Core.List.{List, [], ◌∷◌, map}
use mathlib.Core.Logic.{◌↔◌, by_cases}
use Prim.Native.Nat.{ℕ, zero, suc, ◌<◌, ◌≤◌, ◌+◌, ◌*◌}
use native.Mathlib.Omega.{arith}
use native.Mathlib.Decide.{dec_lt}
use lib.Dec.{T}
use lib.ListN.{length, get_or, take, drop, get_or-eq_default, length-take}
use lib.Seq.{get_or-take, get_or-drop}
use Rattle.rules.specs.Lists.{all}
use Rattle.rules.specs.Field.{Ops}
use Rattle.rules.specs.Laws.{Laws}
use Rattle.rules.specs.Code.{zeros, eval}
use Rattle.rules.specs.Search.{rows, width, rest, first, firsts, follows}
use Rattle.rules.proofs.Tests.{both, and}
use Rattle.algebra.specs.Poly.{Zero, coef, entry}
use Rattle.algebra.specs.Search.{cell}
use Rattle.algebra.proofs.Ring.{same_if}
use Rattle.algebra.proofs.Seq.{entry_nil, entry_zero, entry_suc, none_at}
use Rattle.algebra.proofs.Taylor.{coef_short}

pub rows_length : {A : Type 0} (W n : ℕ) (Q : List A) → length (rows W n Q) ≡ n
unfolding rows
rows_length W zero Q = refl
rows_length W (suc n) Q = ap suc (rows_length W n (drop W Q))

module _ (O : Ops) (L : Laws O) where
  open O use {Symbol, nil, same}

  pub zeros_zero : (q : List Symbol) → T (zeros O q) ↔ Zero O q
  unfolding zeros all coef
  zeros_zero [] = (λ h i. refl, λ z. tt)
  zeros_zero (c ∷ q) =
      let k = zeros_zero q in (
        λ t. let h = both (same c nil) (zeros O q) t in elim [ zero ↦ L.same_eq c nil h.0 | suc i ↦ k.0 h.1 i ],
        λ z. and (same c nil) (zeros O q) (same_if O L c nil (z zero)) (k.1 (λ i. z (suc i))),
      )

  pub coef_first : (q : List Symbol) → coef O q zero ≡ first O q
  unfolding first coef
  coef_first [] = refl
  coef_first (c ∷ q) = refl

  pub coef_rest : (q : List Symbol) (i : ℕ) → coef O (rest q) i ≡ coef O q (suc i)
  unfolding rest coef
  coef_rest [] i = refl
  coef_rest (c ∷ q) i = refl

  pub cell_entry : (Q : List (List Symbol)) (t i : ℕ) → entry O (map (coef O) Q) t i ≡ cell O Q t i
  unfolding cell
  cell_entry [] t i = rw entry_nil (none_at O L i ∙ unfold coef in refl)
  cell_entry (q ∷ Q) zero i = rw entry_zero
  cell_entry (q ∷ Q) (suc t) i = rw (entry_suc, cell_entry Q t i)

  -- the coefficients at x^i
  pub cell_column : (Q : List (List Symbol)) (t i : ℕ) → coef O (map (λ q. coef O q i) Q) t ≡ cell O Q t i
  unfolding cell coef
  cell_column [] t i = refl
  cell_column (q ∷ Q) zero i = refl
  cell_column (q ∷ Q) (suc t) i = cell_column Q t i

  pub firsts_column : (Q : List (List Symbol)) → firsts O Q ≡ map (λ q. coef O q zero) Q
  unfolding firsts
  firsts_column Q = ap (λ w. map w Q) (fun_ext (λ q. sym (coef_first q)))

  pub cell_firsts : (Q : List (List Symbol)) (t : ℕ) → coef O (firsts O Q) t ≡ cell O Q t zero
  cell_firsts Q t = ap (λ q. coef O q t) (firsts_column Q) ∙ cell_column Q t zero

  pub cell_rest : (Q : List (List Symbol)) (t i : ℕ) → cell O (map rest Q) t i ≡ cell O Q t (suc i)
  unfolding cell
  cell_rest [] t i = unfold coef in refl
  cell_rest (q ∷ Q) zero i = coef_rest q i
  cell_rest (q ∷ Q) (suc t) i = cell_rest Q t i

  pub cell_width : (Q : List (List Symbol)) (t i : ℕ) → width Q ≤ i → cell O Q t i ≡ nil
  unfolding cell width
  cell_width [] t i l = unfold coef in refl
  cell_width (q ∷ Q) zero i l = coef_short O L q (length q) (omega arith) i (omega arith)
  cell_width (q ∷ Q) (suc t) i l = cell_width Q t i (omega arith)

  pub cell_length : (Q : List (List Symbol)) (t i : ℕ) → length Q ≤ t → cell O Q t i ≡ nil
  unfolding cell coef
  cell_length Q t i l = ap (λ q. get_or q i nil) (get_or-eq_default Q [] l)

  -- "The coefficient of x^i·y^t .. stands at place t·W + i"
  pub cell_rows : (W n t i : ℕ) (Q : List Symbol) → t < n → i < W → cell O (rows W n Q) t i ≡ get_or Q (t * W + i) nil
  unfolding rows cell coef
  cell_rows W zero t i Q h l = absurd (omega arith)
  cell_rows W (suc n) zero i Q h l = get_or-take W Q i nil l ∙ ap (λ j. get_or Q j nil) start
    where
      start : i ≡ 0 * W + i
      start = omega arith
  cell_rows W (suc n) (suc t) i Q h l = cell_rows W n t i (drop W Q) (omega arith) l ∙ get_or-drop W Q (t * W + i) nil ∙ ap (λ j. get_or Q j nil) after
    where
      after : W + (t * W + i) ≡ suc t * W + i
      after = omega arith

  -- a row has W coefficients
  pub rows_wide : (W n t i : ℕ) (Q : List Symbol) → W ≤ i → cell O (rows W n Q) t i ≡ nil
  unfolding rows cell
  rows_wide W zero t i Q h = unfold coef in refl
  rows_wide W (suc n) zero i Q h = coef_short O L (take W Q) W (omega (arith, length-take W Q)) i h
  rows_wide W (suc n) (suc t) i Q h = rows_wide W n t i (drop W Q) h

  pub follows_eval : (Q : List (List Symbol)) (g : Symbol) → T (follows O Q g) ↔ eval O (firsts O Q) g ≡ nil
  unfolding follows
  follows_eval Q g = (L.same_eq _ nil, same_if O L _ nil)

  -- a flat curve holds the coefficients of Q, where Q has none outside of it
  pub rows_cells : (W n : ℕ) (s : List Symbol) (Q : List (List Symbol)) → ((t i : ℕ) → t < n → i < W → get_or s (t * W + i) nil ≡ cell O Q t i) →
      ((t i : ℕ) → n ≤ t → cell O Q t i ≡ nil) → ((t i : ℕ) → W ≤ i → cell O Q t i ≡ nil) → cell O (rows W n s) ≡ cell O Q
  rows_cells W n s Q h tall wide = fun_ext λ t. fun_ext λ i. by_cases (dec_lt t n)
      (λ l. by_cases (dec_lt i W) (λ m. cell_rows W n t i s l m ∙ h t i l m) (λ m. rows_wide W n t i s (omega arith) ∙ sym (wide t i (omega arith))))
      (λ l. cell_length (rows W n s) t i (omega (arith, rows_length W n s)) ∙ sym (tall t i (omega arith)))
