-- A polynomial with as many roots as coefficients is zero: roots are divided out one after the other, without subtraction.
use mathlib.Core.Path.{◌≡◌, refl, sym, ◌∙◌, ap, subst}
use mathlib.Core.List.{List, [], ◌∷◌}
use Prim.Native.Nat.{ℕ, zero, suc, ◌≤◌, ◌-◌}
use native.Mathlib.Omega.{arith}
use lib.ListN.{length, take, length-take}
use Rattle.rules.specs.Field.{Ops}
use Rattle.rules.specs.Laws.{Laws}
use Rattle.rules.specs.Code.{eval}
use Rattle.algebra.specs.Poly.{Seq, Val, Short, Zero, coef, neg, taylor, plus, shift, lone, near}
use Rattle.algebra.specs.Points.{Root, count, Away, Distinct, places, Roots}
use Rattle.algebra.proofs.Ring.{mul_nil, neg_add, add_neg, sub_nil, no_zero_divisor}
use Rattle.algebra.proofs.Seq.{seq, shift_suc, near_zero, near_suc, near_linear, of_none, none_plus, lone_nil}
use Rattle.algebra.proofs.Taylor.{eval_cons, taylor_nil, taylor_cons, taylor_eval, taylor_zero, coef_taylor, near_nil, zero_path, path_zero, coef_suc}

module _ (O : Ops) (L : Laws O) where
  open O use {Symbol, nil, one, add, mul}

  -- the values at α of all the suffixes: the quotient of a ∷ p by x − α
  unfoldable pub sweep : Symbol → List Symbol → List Symbol
  sweep α [] = []
  sweep α (a ∷ p) = eval O (a ∷ p) α ∷ sweep α p

  length_sweep : (α : Symbol) (p : List Symbol) → length (sweep α p) ≡ length p
  unfolding sweep
  length_sweep α [] = refl
  length_sweep α (a ∷ p) = ap suc (length_sweep α p)

  -- division with remainder, in Taylor coefficients at γ + α
  taylor_sweep : (γ α a : Symbol) (p : List Symbol) →
      taylor O (add γ α) (a ∷ p) ≡ plus O (lone O (eval O (a ∷ p) α)) (near O γ (taylor O (add γ α) (sweep α p)))
  unfolding sweep near
  taylor_sweep γ α a [] = unfold eval in simp (taylor_cons, taylor_nil, seq, mul_nil O L)
  taylor_sweep γ α a (b ∷ p) =
      rw (taylor_cons O L _ a (b ∷ p), taylor_sweep γ α b p, taylor_cons, eval_cons O L a) (simp seq)

  -- at a root α the polynomial is x − α times the sweep
  pub taylor_root : (α a : Symbol) (p : List Symbol) → eval O (a ∷ p) α ≡ nil → (β : Symbol) →
      taylor O β (a ∷ p) ≡ near O (add β (neg O α)) (taylor O β (sweep α p))
  taylor_root α a p e β =
      subst (λ b. taylor O b (a ∷ p) ≡ near O (add β (neg O α)) (taylor O b (sweep α p)))
      (L.add_assoc _ _ _ ∙ ap (add β) (neg_add O L α) ∙ L.add_nil β)
      (taylor_sweep (add β (neg O α)) α a p ∙ rw (e, lone_nil, none_plus))

  -- c + x hides no zeros when c is not zero
  near_val : (c : Symbol) → ¬ (c ≡ nil) → (k : ℕ) (s : Seq O) → Val O k (near O c s) → Val O k s
  near_val c n k s v zero l = no_zero_divisor O L c _ n (sym (near_zero O L c s) ∙ v zero l)
  near_val c n k s v (suc i) l =
      no_zero_divisor O L c _ n (sym (L.add_nil _) ∙ ap (add _) (sym (near_val c n k s v i (omega arith))) ∙ sym (near_suc O L c s i) ∙ v (suc i) l)

  -- p with the root α taken out m times
  record Peeled (α : Symbol) (m : ℕ) (p : List Symbol) : Type 0 where
    rest : List Symbol
    short : length rest ≤ length p - m
    keep : (β : Symbol) → ¬ (β ≡ α) → (k : ℕ) → Val O k (taylor O β p) → Val O k (taylor O β rest)
    back : Zero O rest → Zero O p

  peel : (α : Symbol) (m : ℕ) (p : List Symbol) → Val O m (taylor O α p) → Peeled α m p
  peel α zero p v = record { rest = p; short = omega arith; keep = λ β n k h. h; back = λ z. z }
  peel α (suc m) [] v = record { rest = []; short = omega arith; keep = λ β n k h. h; back = λ z. z }
  peel α (suc m) (a ∷ p) v = wrap (peel α m (sweep α p) low)
    where
      at : (β : Symbol) → taylor O β (a ∷ p) ≡ near O (add β (neg O α)) (taylor O β (sweep α p))
      at = taylor_root α a p (sym (taylor_eval O L α (a ∷ p)) ∙ v zero (omega arith))

      at_root : shift O (taylor O α (sweep α p)) ≡ taylor O α (a ∷ p)
      at_root = sym (near_nil O L _) ∙ ap (λ c. near O c (taylor O α (sweep α p))) (sym (add_neg O L α)) ∙ sym (at α)

      low : Val O m (taylor O α (sweep α p))
      low i l = sym (shift_suc O L _ i) ∙ ap (λ s. s (suc i)) at_root ∙ v (suc i) (omega arith)

      wrap : Peeled α m (sweep α p) → Peeled α (suc m) (a ∷ p)
      wrap r = record {
        rest = r.rest;
        short = omega (arith, r.short, length_sweep α p);
        keep = λ β n k h. r.keep β n k (near_val _ (λ e. n (sub_nil O L β α e)) k _ (rw (at β) at h));
        back = λ z. path_zero O L _ (rw (coef_taylor, at nil, ← coef_taylor O L (sweep α p), zero_path O L _ (r.back z)) (of_none O L _ (near_linear O L _)));
      }

  pub root_count : (p : List Symbol) (rs : List (Root O)) → Distinct O (places O rs) → Roots O p rs → length p ≤ count O rs → Zero O p
  root_count [] [] d h l = unfold coef in λ i. refl
  root_count (a ∷ p) [] d h l = absurd (omega arith)
  root_count p (r ∷ rs) d h l = go (peel r.place r.times p h.0) (λ q. root_count q rs d.1)
    where
      kept : (q : Peeled r.place r.times p) (ts : List (Root O)) → Away O r.place (places O ts) → Roots O p ts → Roots O q.rest ts
      kept q [] w k = tt
      kept q (t ∷ ts) w k = (q.keep t.place w.0 t.times k.0, kept q ts w.1 k.1)

      go : Peeled r.place r.times p → ((q : List Symbol) → Roots O q rs → length q ≤ count O rs → Zero O q) → Zero O p
      go q ih = q.back (ih q.rest (kept q rs d.0 h.1) (omega (arith, q.short)))

  taylor_take : (α : Symbol) (n : ℕ) (p : List Symbol) → Short O n (coef O p) → taylor O α (take n p) ≡ taylor O α p
  taylor_take α zero p h = taylor_nil O L α ∙ sym (taylor_zero O L α p (λ i. h i (omega arith)))
  taylor_take α (suc n) [] h = refl
  taylor_take α (suc n) (a ∷ p) h =
      rw (taylor_cons O L α a (take n p), taylor_cons O L α a p, taylor_take α n p (λ i l. sym (coef_suc O L a p i) ∙ h (suc i) (omega arith)))

  -- the same by the degree and not the length
  pub root_count_short : (n : ℕ) (p : List Symbol) (rs : List (Root O)) → Short O n (coef O p) →
      Distinct O (places O rs) → Roots O p rs → n ≤ count O rs → Zero O p
  root_count_short n p rs h d k l =
      path_zero O L p
      (rw (coef_taylor, ← taylor_take nil n p h, ← coef_taylor O L (take n p))
      (zero_path O L _ (root_count (take n p) rs d (cut rs k) (omega (arith, length-take n p)))))
    where
      cut : (ts : List (Root O)) → Roots O p ts → Roots O (take n p) ts
      cut [] k = tt
      cut (r ∷ ts) k = (rw (taylor_take r.place n p h) k.0, cut ts k.1)
