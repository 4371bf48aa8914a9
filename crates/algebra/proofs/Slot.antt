-- The search over curves that are held flat, n rows of W numbers: what a step cut to W columns, and then stripped, leaves for the rest of the search.
use mathlib.Core.Path.{◌≡◌, refl, sym, ◌∙◌, ap, fun_ext}
use mathlib.Core.List.{List, []}
use mathlib.Core.Logic.{by_cases}
use Prim.Native.Nat.{ℕ, zero, suc, ◌<◌, ◌≤◌, ◌+◌, ◌-◌, ◌*◌}
use native.Mathlib.Omega.{arith}
use native.Mathlib.Decide.{dec_lt}
use lib.Dec.{T}
use lib.ListN.{length, get_or, drop}
use lib.Seq.{drop-cons}
use Rattle.rules.specs.Field.{Ops}
use Rattle.rules.specs.Laws.{Laws}
use Rattle.rules.specs.Curve.{weighted}
use Rattle.rules.specs.Search.{rows, stripped, step}
use Rattle.algebra.specs.Poly.{shift}
use Rattle.algebra.specs.Search.{cell, next, found, tried, Within}
use Rattle.algebra.proofs.Complete.{weighted_at}
use Rattle.algebra.proofs.Rows.{rows_length, cell_length, cell_rows, rows_wide, rows_cells}
use Rattle.algebra.proofs.Step.{step_zero, step_suc, step_nil, step_within, step_tall}
use Rattle.algebra.proofs.Strip.{stripped_same, stripped_cells, stripped_within}
use Rattle.algebra.proofs.Search.{found_stripped, found_row, found_same, tried_same}

module _ (O : Ops) (L : Laws O) where
  open O use {Symbol, nil, add, mul}

  -- "each coefficient with i + t·(k−1) ≥ W is zero"
  pub rows_within : (k W ℓ : ℕ) (Q : List Symbol) → T (weighted O k W ℓ Q) → Within O (k - 1) W (rows W (ℓ + 1) Q)
  rows_within k W ℓ Q w t i g = by_cases (dec_lt t (ℓ + 1))
      (λ l. by_cases (dec_lt i W)
      (λ m. cell_rows O L W (ℓ + 1) t i Q l m ∙ weighted_at O L k W ℓ Q w t i l m g)
      (λ m. rows_wide O L W (ℓ + 1) t i Q (omega arith)))
      (λ l. cell_length O L (rows W (ℓ + 1) Q) t i (omega (arith, rows_length W (ℓ + 1) Q)))

  -- The step by Horner from the last row on: what the rows from u on give, from what those after u give.
  module _ (g : Symbol) (Q : List (List Symbol)) (u : ℕ) (l : u < length Q) where
    pub step_from_zero : (i : ℕ) → cell O (step O g (drop u Q)) 0 i ≡ add (cell O Q u i) (mul g (cell O (step O g (drop (suc u) Q)) 0 i))
    unfolding cell
    step_from_zero i = rw (drop-cons Q u [] l) (step_zero O L g (get_or Q u []) (drop (suc u) Q) i)

    pub step_from_suc : (t i : ℕ) →
        cell O (step O g (drop u Q)) (suc t) i ≡ add (shift O (cell O (step O g (drop (suc u) Q)) t) i) (mul g (cell O (step O g (drop (suc u) Q)) (suc t) i))
    step_from_suc t i = rw (drop-cons Q u [] l) (step_suc O L g (get_or Q u []) (drop (suc u) Q) t i)

  -- v columns of p that are zero are taken out, and v columns of zeros put behind
  pub slot_stripped : (W n v : ℕ) (p r : List Symbol) → v ≤ W →
      ((t i : ℕ) → t < n → i + v < W → get_or r (t * W + i) nil ≡ get_or p (t * W + (i + v)) nil) →
      ((t i : ℕ) → t < n → i < W → W ≤ i + v → get_or r (t * W + i) nil ≡ nil) →
      ((t i : ℕ) → t < n → i < v → get_or p (t * W + i) nil ≡ nil) →
      (v < W → ¬ ((t : ℕ) → t < n → get_or p (t * W + v) nil ≡ nil)) → cell O (rows W n r) ≡ cell O (stripped O (rows W n p))
  slot_stripped W n v p r s moved behind clear stop = stripped_same O L W (rows W n p) _
      (record {
        v = v;
        small = s;
        moved = λ t i. by_cases (dec_lt t n)
            (λ l. by_cases (dec_lt (i + v) W)
            (λ m. cell_rows O L W n t i r l (omega arith) ∙ moved t i l m ∙ sym (cell_rows O L W n t (i + v) p l m))
            (λ m. by_cases (dec_lt i W) (λ k. cell_rows O L W n t i r l k ∙ behind t i l k (omega arith)) (λ k. rows_wide O L W n t i r (omega arith))
            ∙ sym (rows_wide O L W n t (i + v) p (omega arith))))
            (λ l. cell_length O L (rows W n r) t i (omega (arith, rows_length W n r))
            ∙ sym (cell_length O L (rows W n p) t (i + v) (omega (arith, rows_length W n p))));
        clear = λ t i m. by_cases (dec_lt t n) (λ l. cell_rows O L W n t i p l (omega arith) ∙ clear t i l m)
            (λ l. cell_length O L (rows W n p) t i (omega (arith, rows_length W n p)));
        stop = λ m z. stop m (λ t l. sym (cell_rows O L W n t v p l m) ∙ z t);
      })
      (λ t i m. rows_wide O L W n t i p m)

  -- p is the step of s by g, cut to W columns; r is p stripped
  module _
      (W n : ℕ)
      (g : Symbol)
      (s p r : List Symbol)
      (h : (t i : ℕ) → t < n → i < W → get_or p (t * W + i) nil ≡ cell O (step O g (rows W n s)) t i)
      (e : cell O (rows W n r) ≡ cell O (stripped O (rows W n p)))
    where
      tall : (t i : ℕ) → n ≤ t → cell O (step O g (rows W n s)) t i ≡ nil
      tall = step_tall O L g n (rows W n s) (λ t i l. cell_length O L (rows W n s) t i (omega (arith, rows_length W n s)))

      -- while symbols are left after g, nothing is cut off
      pub next_cells : (k : ℕ) → Within O (suc k) W (rows W n s) → cell O (rows W n r) ≡ cell O (next O g (rows W n s))
      next_cells k w =
          e ∙ stripped_cells O L _ _ (rows_cells O L W n p (step O g (rows W n s)) h tall (λ t i l. step_within O L g k W (rows W n s) w t i (omega arith)))

      -- after the last symbol the row at y^0 is whole
      next_row : Within O 0 W (rows W n s) → cell O (rows W n p) 0 ≡ cell O (step O g (rows W n s)) 0
      next_row w = fun_ext λ i. by_cases (dec_lt 0 n)
          (λ l. by_cases (dec_lt i W) (λ m. cell_rows O L W n 0 i p l m ∙ h 0 i l m)
          (λ m. rows_wide O L W n 0 i p (omega arith) ∙ sym (step_nil O L g (rows W n s) 0 i (λ u _. w u (i - 0) (omega arith)))))
          (λ l. cell_length O L (rows W n p) 0 i (omega (arith, rows_length W n p)) ∙ sym (tall 0 i (omega arith)))

      -- r is searched, with k symbols to place, as the curve of the longer beginning is
      pub next_found : (k : ℕ) → Within O k W (rows W n s) → found O k (rows W n r) ≡ found O k (next O g (rows W n s))
      next_found zero w = found_same O L 0 _ _ e ∙ found_stripped O L (rows W n p) ∙ found_row O L _ _ (next_row w)
          ∙ sym (found_stripped O L (step O g (rows W n s)))
      next_found (suc k) w = found_same O L (suc k) _ _ (next_cells k w)

      pub next_tried : (k : ℕ) → Within O k W (rows W n s) → tried O k (rows W n r) ≡ tried O k (next O g (rows W n s))
      next_tried zero w = unfold tried in refl
      next_tried (suc k) w = tried_same O L (suc k) _ _ (next_cells k w)

      pub next_within : (k : ℕ) → Within O k W (rows W n s) → Within O (k - 1) W (rows W n r)
      next_within zero w t i l = rows_wide O L W n t i r (omega arith)
      next_within (suc k) w t i l =
          let d : suc k - 1 ≡ k = omega arith in
          ap (λ c. c t i) (next_cells k w) ∙ stripped_within O L k W _ (step_within O L g k W (rows W n s) w) t i (rw d at l)
