-- The value of a condition is linear, sees only the terms of the space, and vanishes at (x − point)·Q where the condition before it does at Q.
use mathlib.Core.Path.{◌≡◌, refl, sym, ◌∙◌, ap, ap₂}
use mathlib.Core.List.{List}
use Prim.Native.Nat.{ℕ, zero, suc, ◌+◌, ◌-◌, ◌<◌}
use native.Mathlib.Omega.{arith}
use Rattle.rules.specs.Field.{Ops}
use Rattle.rules.specs.Laws.{Laws}
use Rattle.rules.specs.Curve.{total}
use Rattle.algebra.specs.Poly.{neg}
use Rattle.algebra.specs.Conditions.{Condition, weight, Ready}
use Rattle.algebra.specs.Space.{Space, Curve, mix, shift, Same, Room, value, Meets, raised}
use Rattle.algebra.proofs.Ring.{mul_left_comm, nil_add, add_mul, mul_nil, nil_mul, add_neg}
use Rattle.algebra.proofs.Total.{total_ext, total_nil, total_front, total_mul, total_add}
use Rattle.algebra.proofs.Weight.{weight_up, weight_next}

module _ (O : Ops) (L : Laws O) where
  open O use {Symbol, nil, one, add, mul}

  -- the sum of w i·(p i + s·q i)
  total_mix : (n : ℕ) (w p q : ℕ → Symbol) (s : Symbol) →
      total O n (λ i. mul (w i) (add (p i) (mul s (q i)))) ≡ add (total O n (λ i. mul (w i) (p i))) (mul s (total O n (λ i. mul (w i) (q i))))
  total_mix n w p q s =
      total_ext O L n _ _ (λ i l. L.mul_add _ _ _ ∙ ap (add _) (mul_left_comm O L _ _ _))
      ∙ total_add O L n _ _ ∙ ap (add _) (total_mul O L n s _)

  -- x times a sequence with room at its end
  total_shift : (n : ℕ) (w q s : ℕ → Symbol) → s 0 ≡ nil → ((i : ℕ) → s (suc i) ≡ q i) → ((i : ℕ) → suc i ≡ n → q i ≡ nil) →
      total O n (λ i. mul (w i) (s i)) ≡ total O n (λ i. mul (w (suc i)) (q i))
  total_shift zero w q s z e r = unfold total in refl
  total_shift (suc n) w q s z e r =
      total_front O L n _ ∙ ap₂ add (ap (mul (w 0)) z ∙ mul_nil O L _) (total_ext O L n _ _ (λ i l. ap (mul (w (suc i))) (e i)))
      ∙ L.add_comm _ _ ∙ unfold total in ap (add _) (sym (ap (mul (w (suc n))) (r n refl) ∙ mul_nil O L _))

  module _ (S : Space) where
    -- the sum of u i·v t·Q i t over the space
    unfoldable form : (ℕ → Symbol) → (ℕ → Symbol) → Curve O → Symbol
    form u v Q = total O (S.top + 1) (λ t. mul (v t) (total O (S.wide - S.off t) (λ i. mul (u i) (Q i t))))

    form_ext : (u v : ℕ → Symbol) (P Q : Curve O) → Same O S P Q → form u v P ≡ form u v Q
    unfolding form
    form_ext u v P Q e = total_ext O L _ _ _ (λ t ht. ap (mul (v t)) (total_ext O L _ _ _ (λ i hi. ap (mul (u i)) (e i t (omega arith)))))

    form_lin : (u v : ℕ → Symbol) (P : Curve O) (q : Symbol) (Q : Curve O) → form u v (mix O P q Q) ≡ add (form u v P) (mul q (form u v Q))
    unfolding form
    form_lin u v P q Q = total_ext O L _ _ _ (λ t ht. ap (mul (v t)) (total_mix _ u (λ i. P i t) (λ i. Q i t) q)) ∙ total_mix _ v _ _ q

    form_shift : (α : Symbol) (u u' v : ℕ → Symbol) (Q : Curve O) → ((i : ℕ) → u (suc i) ≡ add (mul α (u i)) (u' i)) → Room O S Q →
        form u v (shift O Q) ≡ add (form u' v Q) (mul α (form u v Q))
    unfolding form
    form_shift α u u' v Q e h = total_ext O L _ _ _ (λ t ht. ap (mul (v t)) (inner t ht)) ∙ total_mix _ v _ _ α
      where
        swap : (n : ℕ) (p q : ℕ → Symbol) → total O n (λ i. mul (p i) (q i)) ≡ total O n (λ i. mul (q i) (p i))
        swap n p q = total_ext O L n _ _ (λ i l. L.mul_comm _ _)

        inner : (t : ℕ) → t < S.top + 1 →
            total O (S.wide - S.off t) (λ i. mul (u i) (shift O Q i t))
            ≡ add (total O (S.wide - S.off t) (λ i. mul (u' i) (Q i t))) (mul α (total O (S.wide - S.off t) (λ i. mul (u i) (Q i t))))
        inner t ht =
            let n = S.wide - S.off t in
            total_shift n u (λ i. Q i t) (λ i. shift O Q i t) refl (λ i. refl) (λ i m. h i t (omega arith) (omega arith))
            ∙ total_ext O L n _ _ (λ i l. L.mul_comm _ _ ∙ ap (mul (Q i t)) (e i ∙ L.add_comm _ _))
            ∙ total_mix n (λ i. Q i t) u' u α ∙ ap₂ (λ x y. add x (mul α y)) (swap n _ _) (swap n _ _)

    form_gain : (α : Symbol) (u u' v : ℕ → Symbol) (Q : Curve O) → ((i : ℕ) → u (suc i) ≡ add (mul α (u i)) (u' i)) → Room O S Q →
        form u' v Q ≡ nil → form u v (mix O (shift O Q) (neg O α) Q) ≡ nil
    form_gain α u u' v Q e h z =
        form_lin u v _ _ Q ∙ ap (λ x. add x (mul (neg O α) (form u v Q))) (form_shift α u u' v Q e h ∙ ap (λ x. add x (mul α (form u v Q))) z ∙ nil_add O L _)
        ∙ sym (add_mul O L _ _ _) ∙ ap (λ x. mul x (form u v Q)) (add_neg O L α) ∙ nil_mul O L _

    pub value_ext : (c : Condition Symbol) (P Q : Curve O) → Same O S P Q → value O S c P ≡ value O S c Q
    unfolding value form
    value_ext c = form_ext (weight O c.point c.a) (weight O c.symbol c.b)

    pub value_lin : (c : Condition Symbol) (P : Curve O) (q : Symbol) (Q : Curve O) → value O S c (mix O P q Q) ≡ add (value O S c P) (mul q (value O S c Q))
    unfolding value form
    value_lin c = form_lin (weight O c.point c.a) (weight O c.symbol c.b)

    pub value_gain : (cs : List (Condition Symbol)) (c : Condition Symbol) (Q : Curve O) → Ready cs c → Room O S Q → Meets O S cs Q →
        value O S c (raised O c Q) ≡ nil
    unfolding value form
    value_gain cs c Q r h s = go c.a refl
      where
        α : Symbol
        α = c.point

        go : (a : ℕ) → c.a ≡ a → form (weight O α c.a) (weight O c.symbol c.b) (raised O c Q) ≡ nil
        go zero e =
            rw e (form_gain α (weight O α 0) (λ _. nil) _ Q (λ i. weight_up O L α i ∙ sym (L.add_nil _)) h
            (total_nil O L _ _ (λ t l. ap (mul _) (total_nil O L _ _ (λ i m. nil_mul O L _)) ∙ mul_nil O L _)))
        go (suc a) e = rw e (form_gain α (weight O α (suc a)) (weight O α a) _ Q (weight_next O L α a) h (s.each _ (r a e)))
