-- One step of the root search: Q(x, x·y + g) as an operator on rows, its coefficients, and the roots that it keeps.
use mathlib.Core.Path.{◌≡◌, refl, sym, ◌∙◌, ap, ap₂, fun_ext}
use mathlib.Core.List.{List, [], ◌∷◌, map}
use mathlib.Core.Logic.{◌↔◌, by_cases}
use Prim.Native.Nat.{ℕ, zero, suc, ◌<◌, ◌≤◌, ◌+◌, ◌-◌}
use native.Mathlib.Nat.{add-zero, add-suc, sub_self, mul-suc, mul-le-mul_right}
use native.Mathlib.Omega.{arith}
use native.Mathlib.Decide.{dec_lt}
use Rattle.rules.specs.Field.{Ops}
use Rattle.rules.specs.Laws.{Laws}
use Rattle.rules.specs.Code.{eval}
use Rattle.rules.specs.Search.{merge, scale, firsts, step, along}
use Rattle.algebra.specs.Poly.{Short, Zero, coef, taylor, plus, stretch, shift, lone, near, act, horner, expand, entry}
use Rattle.algebra.specs.Search.{cell, Within}
use Rattle.algebra.proofs.Ring.{mul_nil, nil_add}
use Rattle.algebra.proofs.Seq.{act_cons, act_linear, act_commutes, shift_linear, horner_map, horner_expand, expand_zero, expand_suc, plus_at, stretch_at, none_at, none_plus, shift_zero, shift_suc, shift_none, lone_nil, lone_zero, lone_suc, near_zero, near_suc}
use Rattle.algebra.proofs.Taylor.{eval_cons, taylor_nil, taylor_cons, taylor_zero, coef_nil, coef_cons, coef_suc, coef_sum, coef_scale, coef_product, zero_path, path_zero}
use Rattle.algebra.proofs.Rows.{coef_first, cell_entry, cell_column, firsts_column}

module _ (O : Ops) (L : Laws O) where
  open O use {Symbol, nil, add, mul}

  pub coef_along : (Q : List (List Symbol)) (f : List Symbol) → coef O (along O Q f) ≡ horner O (act O (shift O) f) (map (coef O) Q)
  unfolding horner along
  coef_along [] f = coef_nil O L
  coef_along (q ∷ Q) f = rw (coef_sum, coef_product, coef_along Q f)

  rows_x : (A : List (List Symbol)) → map (coef O) (map (◌∷◌ nil) A) ≡ map (shift O) (map (coef O) A)
  rows_x [] = refl
  rows_x (q ∷ A) = ap₂ ◌∷◌ (rw (coef_cons, lone_nil, none_plus)) (rows_x A)

  -- x·Q has the roots of Q
  module _ (f : List Symbol) (P Q : List (List Symbol)) (e : map (coef O) P ≡ map (shift O) (map (coef O) Q)) where
    along_shift : coef O (along O P f) ≡ shift O (coef O (along O Q f))
    along_shift =
        coef_along P f ∙ ap (horner O (act O (shift O) f)) e
        ∙ horner_map O L _ _ (shift_linear O L) (act_commutes O L (shift O) (shift O) (shift_linear O L) (λ t. refl) f) _
        ∙ ap (shift O) (sym (coef_along Q f))

    pub shift_roots : Zero O (along O P f) ↔ Zero O (along O Q f)
    shift_roots = (
      λ z i. sym (shift_suc O L _ i) ∙ ap (λ s. s (suc i)) (sym along_shift) ∙ z (suc i),
      λ z. path_zero O L _ (rw (along_shift, zero_path O L _ z) (shift_none O L)),
    )

  rows_merge : (A B : List (List Symbol)) → map (coef O) (merge (merge add) A B) ≡ merge (plus O) (map (coef O) A) (map (coef O) B)
  unfolding merge
  rows_merge [] B = refl
  rows_merge (p ∷ A) [] = refl
  rows_merge (p ∷ A) (q ∷ B) = ap₂ ◌∷◌ (coef_sum O L p q) (rows_merge A B)

  rows_scale : (g : Symbol) (A : List (List Symbol)) → map (coef O) (map (scale O g) A) ≡ map (stretch O g) (map (coef O) A)
  rows_scale g [] = refl
  rows_scale g (q ∷ A) = ap₂ ◌∷◌ (coef_scale O L g q) (rows_scale g A)

  rows_step : (g : Symbol) (Q : List (List Symbol)) → map (coef O) (step O g Q) ≡ expand O (shift O) g (map (coef O) Q)
  unfolding step expand
  rows_step g [] = refl
  rows_step g (q ∷ Q) =
      rows_merge (q ∷ map (◌∷◌ nil) (step O g Q)) (map (scale O g) (step O g Q))
      ∙ ap₂ (λ A B. merge (plus O) (coef O q ∷ A) B)
      (rows_x (step O g Q) ∙ ap (map (shift O)) (rows_step g Q)) (rows_scale g (step O g Q) ∙ ap (map (stretch O g)) (rows_step g Q))

  -- g ∷ f is a root of Q when f is one of Q(x, x·y + g)
  pub along_step : (g : Symbol) (f : List Symbol) (Q : List (List Symbol)) → coef O (along O (step O g Q) f) ≡ coef O (along O Q (g ∷ f))
  along_step g f Q =
      coef_along (step O g Q) f ∙ ap (horner O (act O (shift O) f)) (rows_step g Q)
      ∙ horner_expand O L (act O (shift O) (g ∷ f)) (act O (shift O) f) (shift O) g (act_linear O L _ (shift_linear O L) f) (shift_linear O L)
      (act_commutes O L (shift O) (shift O) (shift_linear O L) (λ t. refl) f) (act_cons O L (shift O) g f) (map (coef O) Q)
      ∙ sym (coef_along Q (g ∷ f))

  -- the first symbol of a root is a root of Q(0, y)
  pub along_first : (Q : List (List Symbol)) (g : Symbol) (f : List Symbol) → coef O (along O Q (g ∷ f)) zero ≡ eval O (firsts O Q) g
  unfolding along firsts
  along_first [] g f = unfold coef eval in refl
  along_first (q ∷ Q) g f =
      rw (coef_sum, coef_product, act_cons, plus_at, plus_at, stretch_at, shift_zero, L.add_nil, along_first Q g f, coef_first, eval_cons)

  step_row : (g : Symbol) (Q : List (List Symbol)) (t : ℕ) → cell O (step O g Q) t ≡ entry O (expand O (shift O) g (map (coef O) Q)) t
  step_row g Q t = fun_ext λ i. sym (cell_entry O L (step O g Q) t i) ∙ ap (λ A. entry O A t i) (rows_step g Q)

  -- the coefficients of the step, row by row
  pub step_zero : (g : Symbol) (q : List Symbol) (Q : List (List Symbol)) (i : ℕ) →
      cell O (step O g (q ∷ Q)) zero i ≡ add (coef O q i) (mul g (cell O (step O g Q) zero i))
  step_zero g q Q i = rw (step_row g (q ∷ Q), step_row g Q, expand_zero O L (shift O) (shift_linear O L), plus_at, stretch_at)

  pub step_suc : (g : Symbol) (q : List Symbol) (Q : List (List Symbol)) (t i : ℕ) →
      cell O (step O g (q ∷ Q)) (suc t) i ≡ add (shift O (cell O (step O g Q) t) i) (mul g (cell O (step O g Q) (suc t) i))
  step_suc g q Q t i = rw (step_row g (q ∷ Q), step_row g Q t, step_row g Q (suc t), expand_suc O L (shift O) (shift_linear O L), plus_at, stretch_at)

  -- the step has a factor x^t at y^t
  pub step_low : (g : Symbol) (Q : List (List Symbol)) (t i : ℕ) → i < t → cell O (step O g Q) t i ≡ nil
  step_low g [] t i l = unfold step cell coef in refl
  step_low g (q ∷ Q) zero i l = absurd (omega arith)
  step_low g (q ∷ Q) (suc t) zero l = rw (step_suc, shift_zero, step_low g Q (suc t) zero (omega arith), mul_nil) (L.add_nil nil)
  step_low g (q ∷ Q) (suc t) (suc i) l =
      rw (step_suc, shift_suc, step_low g Q t i (omega arith), step_low g Q (suc t) (suc i) (omega arith), mul_nil) (L.add_nil nil)

  -- and beside it the Taylor coefficients in y at g, column by column
  step_high : (g : Symbol) (Q : List (List Symbol)) (t i : ℕ) → cell O (step O g Q) t (i + t) ≡ taylor O g (map (λ q. coef O q i) Q) t
  step_high g [] t i = rw taylor_nil (unfold step cell coef in sym (none_at O L t))
  step_high g (q ∷ Q) zero i = rw (step_zero, step_high g Q zero i, taylor_cons, plus_at, lone_zero, near_zero, add-zero)
  step_high g (q ∷ Q) (suc t) i =
      rw (step_suc, step_high g Q (suc t) i, add-suc i t, shift_suc, step_high g Q t i, taylor_cons, plus_at, lone_suc, near_suc, nil_add) (L.add_comm _ _)

  -- the coefficients of the step, from those of Q
  pub step_cell : (g : Symbol) (Q : List (List Symbol)) (t i : ℕ) → t ≤ i → cell O (step O g Q) t i ≡ taylor O g (map (λ q. coef O q (i - t)) Q) t
  step_cell g Q t i l = ap (cell O (step O g Q) t) back ∙ step_high g Q t (i - t)
    where
      back : i ≡ i - t + t
      back = omega arith

  -- at x^t·y^t the t-th Taylor coefficient of Q(0, y) at g
  pub step_diagonal : (g : Symbol) (Q : List (List Symbol)) (t : ℕ) → cell O (step O g Q) t t ≡ taylor O g (firsts O Q) t
  step_diagonal g Q t = step_cell g Q t t (omega arith) ∙ rw (sub_self, ← firsts_column O L Q)

  -- Taylor coefficients do not see the zeros at the end of a list
  pub taylor_same : (α : Symbol) (p q : List Symbol) → coef O p ≡ coef O q → taylor O α p ≡ taylor O α q
  taylor_same α [] q e = taylor_nil O L α ∙ sym (taylor_zero O L α q (path_zero O L q (sym e ∙ coef_nil O L)))
  taylor_same α (a ∷ p) [] e = taylor_zero O L α (a ∷ p) (path_zero O L _ (e ∙ coef_nil O L)) ∙ sym (taylor_nil O L α)
  taylor_same α (a ∷ p) (b ∷ q) e =
      rw (taylor_cons O L α a p, taylor_cons O L α b q, taylor_same α p q (fun_ext λ i. sym (coef_suc O L a p i) ∙ ap (λ s. s (suc i)) e ∙ coef_suc O L b q i))
      (ap (λ c. plus O (lone O c) (near O α (taylor O α q))) (unfold coef in ap (λ s. s zero) e))

  taylor_short : (α : Symbol) (p : List Symbol) (n : ℕ) → Short O n (coef O p) → Short O n (taylor O α p)
  unfolding coef
  taylor_short α [] n h i l = rw taylor_nil (none_at O L i)
  taylor_short α (a ∷ p) zero h i l = ap (λ s. s i) (taylor_zero O L α (a ∷ p) (λ j. h j (omega arith))) ∙ none_at O L i
  taylor_short α (a ∷ p) (suc n) h zero l = absurd (omega arith)
  taylor_short α (a ∷ p) (suc n) h (suc i) l =
      let k = taylor_short α p n (λ j m. h (suc j) (omega arith)) in
      rw (taylor_cons, plus_at, lone_suc, near_suc, nil_add, k (suc i) (omega arith), k i (omega arith), mul_nil) (L.add_nil nil)

  -- the step of curves with the same coefficients has the same coefficients
  pub step_same : (g : Symbol) (P Q : List (List Symbol)) → cell O P ≡ cell O Q → cell O (step O g P) ≡ cell O (step O g Q)
  step_same g P Q e = fun_ext λ t. fun_ext λ i. by_cases (dec_lt i t)
      (λ l. step_low g P t i l ∙ sym (step_low g Q t i l))
      (λ l. step_cell g P t i (omega arith)
      ∙ ap (λ s. s t) (taylor_same g _ _ (fun_ext λ u. cell_column O L P u (i - t) ∙ ap (λ c. c u (i - t)) e ∙ sym (cell_column O L Q u (i - t))))
      ∙ sym (step_cell g Q t i (omega arith)))

  -- where no row from t on has a coefficient at x^(i − t), the step has none at x^i·y^t
  pub step_nil : (g : Symbol) (Q : List (List Symbol)) (t i : ℕ) → ((u : ℕ) → t ≤ u → cell O Q u (i - t) ≡ nil) → cell O (step O g Q) t i ≡ nil
  step_nil g Q t i h = by_cases (dec_lt i t) (step_low g Q t i)
      (λ l. step_cell g Q t i (omega arith) ∙ taylor_short g _ t (λ u k. cell_column O L Q u (i - t) ∙ h u k) t (omega arith))

  -- each step takes one from the weight of y: x·y raises i by one with each t
  pub step_within : (g : Symbol) (e W : ℕ) (Q : List (List Symbol)) → Within O (suc e) W Q → Within O e W (step O g Q)
  step_within g e W Q h t i l = step_nil g Q t i (λ u k. h u (i - t) (omega (arith, mul-suc t e, mul-le-mul_right (suc e) k)))

  -- and adds no row
  pub step_tall : (g : Symbol) (n : ℕ) (Q : List (List Symbol)) → ((t i : ℕ) → n ≤ t → cell O Q t i ≡ nil) → (t i : ℕ) → n ≤ t → cell O (step O g Q) t i ≡ nil
  step_tall g n Q h t i l = step_nil g Q t i (λ u k. h u (i - t) (omega arith))
