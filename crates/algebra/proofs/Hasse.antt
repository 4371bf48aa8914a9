-- The Hasse derivatives of rules, sums with binomials over a flat curve, are the Taylor coefficients of its rows.
use mathlib.Core.Path.{◌≡◌, refl, sym, ◌∙◌, ap, ap₂}
use mathlib.Core.List.{List, [], ◌∷◌, map}
use Prim.Native.Nat.{ℕ, zero, suc, ◌+◌, ◌-◌, ◌*◌, ◌≤◌, ◌<◌}
use native.Mathlib.Nat.{zero-mul}
use native.Mathlib.Omega.{arith}
use lib.ListN.{length, get_or, take, drop, length-take}
use lib.Seq.{get_or-take, get_or-drop, drop-drop}
use Rattle.rules.specs.Field.{Ops}
use Rattle.rules.specs.Laws.{Laws}
use Rattle.rules.specs.Curve.{total, coefficient, hasse}
use Rattle.rules.specs.Search.{rows}
use Rattle.algebra.specs.Poly.{taylor, taylor²}
use Rattle.algebra.specs.Conditions.{weight}
use Rattle.algebra.proofs.Ring.{nil_add, one_mul, add_mul, mul_nil, nil_mul}
use Rattle.algebra.proofs.Total.{total_ext, total_nil, total_front, total_mul, total_add}
use Rattle.algebra.proofs.Weight.{weight_zero, weight_low, weight_up, weight_next, hasse_weights}

module _ (O : Ops) (L : Laws O) where
  open O use {Symbol, nil, one, add, mul, of_nat}

  pub taylor_total : (α : Symbol) (q : List Symbol) (a n : ℕ) → length q ≤ n → taylor O α q a ≡ total O n (λ i. mul (weight O α a i) (get_or q i nil))
  unfolding taylor
  taylor_total α [] a n l = sym (total_nil O L n _ (λ i _. mul_nil O L _))
  taylor_total α (c ∷ q) a zero l = absurd (omega arith)
  taylor_total α (c ∷ q) zero (suc n) l =
      ap₂ (λ x y. add x (mul α y)) (sym (ap (λ w. mul w c) (weight_zero O L α) ∙ one_mul O L c)) (taylor_total α q zero n (omega arith))
      ∙ ap (add _) (sym (total_mul O L n α _) ∙ total_ext O L n _ _ (λ i _. sym (ap (λ w. mul w (get_or q i nil)) (weight_up O L α i) ∙ L.mul_assoc _ _ _)))
      ∙ sym (total_front O L n _)
  taylor_total α (c ∷ q) (suc a) (suc n) l =
      ap₂ (λ x y. add (mul α x) y) (taylor_total α q (suc a) n (omega arith)) (taylor_total α q a n (omega arith))
      ∙ ap₂ add (sym (total_mul O L n α _)) refl ∙ sym (total_add O L n _ _)
      ∙ total_ext O L n _ _ (λ i _. sym (ap (λ w. mul w (get_or q i nil)) (weight_next O L α a i) ∙ add_mul O L _ _ _ ∙ ap₂ add (L.mul_assoc _ _ _) refl))
      ∙ sym (total_front O L n _ ∙ ap₂ add (ap (λ w. mul w c) (weight_low O L α a) ∙ nil_mul O L c) refl ∙ nil_add O L _)

  -- row t of a flat curve begins at place t·W
  row : (W n t : ℕ) (Q : List Symbol) (g : List Symbol → Symbol) → t < n → get_or (map g (rows W n Q)) t nil ≡ g (take W (drop (t * W) Q))
  unfolding rows
  row W zero t Q g h = absurd (omega arith)
  row W (suc n) zero Q g h = simp zero-mul
  row W (suc n) (suc t) Q g h = row W n t (drop W Q) g (omega arith) ∙ ap (λ q. g (take W q)) (drop-drop (t * W) W Q ∙ ap (λ m. drop m Q) up)
    where
      up : W + t * W ≡ suc t * W
      up = omega arith

  rows_length : (W n : ℕ) (Q : List Symbol) (g : List Symbol → Symbol) → length (map g (rows W n Q)) ≡ n
  unfolding rows
  rows_length W zero Q g = refl
  rows_length W (suc n) Q g = ap suc (rows_length W n (drop W Q) g)

  column : (W : ℕ) (Q : List Symbol) (α : Symbol) (a t : ℕ) →
      total O W (λ i. mul (weight O α a i) (coefficient O W Q i t)) ≡ taylor O α (take W (drop (t * W) Q)) a
  unfolding coefficient
  column W Q α a t =
      total_ext O L W _ _ (λ i h. ap (mul (weight O α a i)) (sym (get_or-take W _ i nil h ∙ get_or-drop (t * W) Q i nil)))
      ∙ sym (taylor_total α _ a W (omega (arith, length-take W (drop (t * W) Q))))

  pub hasse_taylor : (W ℓ : ℕ) (Q : List Symbol) (α r : Symbol) (a b : ℕ) → hasse O W ℓ Q α r a b ≡ taylor² O α r a b (rows W (ℓ + 1) Q)
  unfolding taylor²
  hasse_taylor W ℓ Q α r a b =
      hasse_weights O L W ℓ Q α r a b
      ∙ total_ext O L (ℓ + 1) _ _ (λ t h. ap (mul (weight O r b t)) (column W Q α a t ∙ sym (row W (ℓ + 1) t Q (λ q. taylor O α q a) h)))
      ∙ sym (taylor_total r (map (λ q. taylor O α q a) (rows W (ℓ + 1) Q)) b (ℓ + 1) (omega (arith, rows_length W (ℓ + 1) Q (λ q. taylor O α q a))))
