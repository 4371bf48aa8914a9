-- Taylor coefficients and coefficients of sums and products: both are operators on sequences.
use mathlib.Core.Path.{◌≡◌, refl, sym, ◌∙◌, ap, fun_ext}
use mathlib.Core.List.{List, [], ◌∷◌}
use Prim.Native.Nat.{ℕ, zero, suc, ◌≤◌, ◌-◌}
use native.Mathlib.Omega.{arith}
use lib.ListN.{length}
use Rattle.rules.specs.Field.{Ops}
use Rattle.rules.specs.Laws.{Laws}
use Rattle.rules.specs.Code.{eval}
use Rattle.rules.specs.Search.{merge, scale, product}
use Rattle.algebra.specs.Poly.{Seq, Short, Zero, coef, neg, factor, taylor, plus, stretch, none, shift, lone, near, act}
use Rattle.algebra.proofs.Ring.{nil_add}
use Rattle.algebra.proofs.Seq.{seq, near_linear, of_none, none_plus, plus_none, stretch_none}

module _ (O : Ops) (L : Laws O) where
  open O use {Symbol, nil, one, add, mul}

  pub eval_cons : (a : Symbol) (p : List Symbol) (x : Symbol) → eval O (a ∷ p) x ≡ add a (mul x (eval O p x))
  unfolding eval
  eval_cons a p x = refl

  pub taylor_nil : (α : Symbol) → taylor O α [] ≡ none O
  unfolding taylor none
  taylor_nil α = refl

  pub taylor_cons : (α a : Symbol) (p : List Symbol) → taylor O α (a ∷ p) ≡ plus O (lone O a) (near O α (taylor O α p))
  unfolding taylor plus lone near stretch shift
  taylor_cons α a p = fun_ext (elim [ zero ↦ ap (add a) (sym (L.add_nil _)) | suc i ↦ sym (nil_add O L _) ])

  pub taylor_eval : (α : Symbol) (p : List Symbol) → taylor O α p zero ≡ eval O p α
  unfolding taylor eval
  taylor_eval α [] = refl
  taylor_eval α (a ∷ p) = ap (λ x. add a (mul α x)) (taylor_eval α p)

  pub taylor_sum : (α : Symbol) (p q : List Symbol) → taylor O α (merge O.add p q) ≡ plus O (taylor O α p) (taylor O α q)
  unfolding merge near
  taylor_sum α [] q = rw taylor_nil (sym (none_plus O L _))
  taylor_sum α (a ∷ p) [] = rw taylor_nil (sym (plus_none O L _))
  taylor_sum α (a ∷ p) (b ∷ q) = simp (taylor_cons, taylor_sum α p q, seq)

  pub taylor_scale : (α c : Symbol) (p : List Symbol) → taylor O α (scale O c p) ≡ stretch O c (taylor O α p)
  unfolding scale near
  taylor_scale α c [] = rw taylor_nil (sym (stretch_none O L c))
  taylor_scale α c (a ∷ p) = simp (taylor_cons, taylor_scale α c p, seq)

  -- Taylor coefficients turn the product by f into the operator f(α + x)
  pub taylor_product : (α : Symbol) (f p : List Symbol) → taylor O α (product O f p) ≡ act O (near O α) f (taylor O α p)
  unfolding product act
  taylor_product α [] p = taylor_nil α
  taylor_product α (c ∷ f) p = rw (taylor_sum, taylor_scale, taylor_cons, taylor_product α f p) (simp seq)

  -- the factor rule
  pub taylor_factor : (α β : Symbol) (q : List Symbol) → taylor O β (factor O α q) ≡ near O (add β (neg O α)) (taylor O β q)
  unfolding factor near
  taylor_factor α β q = rw (taylor_sum, taylor_scale, taylor_cons) (simp seq)

  pub near_nil : (s : Seq O) → near O nil s ≡ shift O s
  unfolding near
  near_nil s = simp seq

  pub coef_nil : coef O [] ≡ none O
  unfolding coef none
  coef_nil = refl

  pub coef_cons : (a : Symbol) (p : List Symbol) → coef O (a ∷ p) ≡ plus O (lone O a) (shift O (coef O p))
  unfolding coef plus lone shift
  coef_cons a p = fun_ext (elim [ zero ↦ sym (L.add_nil a) | suc i ↦ sym (nil_add O L _) ])

  pub coef_suc : (a : Symbol) (p : List Symbol) (i : ℕ) → coef O (a ∷ p) (suc i) ≡ coef O p i
  unfolding coef
  coef_suc a p i = refl

  pub coef_taylor : (p : List Symbol) → coef O p ≡ taylor O nil p
  coef_taylor [] = coef_nil ∙ sym (taylor_nil nil)
  coef_taylor (a ∷ p) = rw (coef_cons, taylor_cons, coef_taylor p, near_nil)

  pub coef_sum : (p q : List Symbol) → coef O (merge O.add p q) ≡ plus O (coef O p) (coef O q)
  coef_sum p q = rw (coef_taylor (merge O.add p q), coef_taylor p, coef_taylor q) (taylor_sum nil p q)

  pub coef_scale : (c : Symbol) (p : List Symbol) → coef O (scale O c p) ≡ stretch O c (coef O p)
  coef_scale c p = rw (coef_taylor (scale O c p), coef_taylor p) (taylor_scale nil c p)

  pub coef_product : (f p : List Symbol) → coef O (product O f p) ≡ act O (shift O) f (coef O p)
  coef_product f p =
      rw (coef_taylor (product O f p), coef_taylor p) (taylor_product nil f p ∙ ap (λ u. act O u f (taylor O nil p)) (fun_ext near_nil))

  pub coef_short : (p : List Symbol) (n : ℕ) → length p ≤ n → Short O n (coef O p)
  unfolding coef
  coef_short [] n l i g = refl
  coef_short (a ∷ p) n l zero g = absurd (omega arith)
  coef_short (a ∷ p) n l (suc i) g = coef_short p (n - 1) (omega arith) i (omega arith)

  -- Zero, as a path
  pub zero_path : (p : List Symbol) → Zero O p → coef O p ≡ none O
  unfolding none
  zero_path p z = fun_ext z

  pub path_zero : (p : List Symbol) → coef O p ≡ none O → Zero O p
  unfolding none
  path_zero p e i = ap (λ s. s i) e

  -- the zero polynomial has no Taylor coefficients
  pub taylor_zero : (α : Symbol) (p : List Symbol) → Zero O p → taylor O α p ≡ none O
  unfolding coef
  taylor_zero α [] z = taylor_nil α
  taylor_zero α (a ∷ p) z =
      rw (taylor_cons, taylor_zero α p (λ i. z (suc i)), of_none O L (near O α) (near_linear O L α)) (ap (λ c. plus O (lone O c) (none O)) (z zero) ∙ simp seq)
