-- A curve along a message y = f(x): where the curve has multiplicity m, Q(x, f(x)) has it too.
use mathlib.Core.Path.{◌≡◌, refl, sym, ◌∙◌, ap}
use mathlib.Core.List.{List, [], ◌∷◌, map}
use Prim.Native.Nat.{ℕ, zero, suc, ◌<◌, ◌+◌}
use native.Mathlib.Omega.{arith}
use Rattle.rules.specs.Field.{Ops}
use Rattle.rules.specs.Laws.{Laws}
use Rattle.rules.specs.Code.{eval}
use Rattle.rules.specs.Search.{merge, product, along}
use Rattle.algebra.specs.Poly.{Seq, Val, taylor, taylor², plus, stretch, none, shift, near, act, horner, expand, entry}
use Rattle.algebra.proofs.Ring.{nil_add}
use Rattle.algebra.proofs.Seq.{
  seq,
  Linear,
  act_cons,
  act_linear,
  near_linear,
  same_linear,
  plus_none,
  stretch_none,
  plus_val,
  stretch_val,
  shift_val,
  horner_val,
  horner_expand,
  expand_nil,
  expand_zero,
  expand_suc,
  plus_at,
  stretch_at,
  none_at,
  lone_zero,
  lone_suc,
  near_zero,
  near_suc,
}
use Rattle.algebra.proofs.Taylor.{eval_cons, taylor_nil, taylor_cons, taylor_sum, taylor_product}

module _ (O : Ops) (L : Laws O) where
  open O use {Symbol, nil, one, add, mul}

  pub along_nil : (f : List Symbol) → along O [] f ≡ []
  unfolding along
  along_nil f = refl

  pub along_cons : (q : List Symbol) (Q : List (List Symbol)) (f : List Symbol) → along O (q ∷ Q) f ≡ merge O.add q (product O f (along O Q f))
  unfolding along
  along_cons q Q f = refl

  taylor_along : (α : Symbol) (Q : List (List Symbol)) (f : List Symbol) → taylor O α (along O Q f) ≡ horner O (act O (near O α) f) (map (taylor O α) Q)
  unfolding horner
  taylor_along α [] f = rw along_nil (taylor_nil O L α)
  taylor_along α (q ∷ Q) f = rw (along_cons, taylor_sum, taylor_product, taylor_along α Q f)

  -- f(α + x) − f(α) times a sequence
  above : Symbol → List Symbol → Seq O → Seq O
  above α [] s = none O
  above α (c ∷ f) s = plus O (stretch O α (above α f s)) (shift O (act O (near O α) f s))

  above_cons : (α c : Symbol) (f : List Symbol) (s : Seq O) →
      above α (c ∷ f) s ≡ plus O (stretch O α (above α f s)) (shift O (act O (near O α) f s))
  unfolding above
  above_cons α c f s = refl

  act_above : (α : Symbol) (f : List Symbol) (s : Seq O) → act O (near O α) f s ≡ plus O (stretch O (eval O f α) s) (above α f s)
  unfolding near
  act_above α [] s = unfold act above eval in simp seq
  act_above α (c ∷ f) s =
      rw (act_cons, above_cons, eval_cons)
      (ap (λ t. plus O (stretch O c s) (plus O (stretch O α t) (shift O (act O (near O α) f s)))) (act_above α f s) ∙ simp seq)

  above_linear : (α : Symbol) (f : List Symbol) → Linear O L (above α f)
  above_linear α [] = unfold above in record { of_plus = λ a b. sym (plus_none O L _); of_stretch = λ c a. sym (stretch_none O L c) }
  above_linear α (d ∷ f) =
      let h = above_linear α f in
      let k = act_linear O L (near O α) (near_linear O L α) f in
      record { of_plus = λ a b. simp (above_cons, seq, h.of_plus, k.of_plus); of_stretch = λ c a. simp (above_cons, seq, h.of_stretch, k.of_stretch) }

  act_val : (k : ℕ) (α : Symbol) (f : List Symbol) (s : Seq O) → Val O k s → Val O k (act O (near O α) f s)
  unfolding act near
  act_val k α [] s h = λ i l. none_at O L i
  act_val k α (c ∷ f) s h =
      let g = act_val k α f s h in
      plus_val O L k _ _ (stretch_val O L k c s h) (plus_val O L k _ _ (stretch_val O L k α _ g) (λ i l. shift_val O L k _ g i (omega arith)))

  above_val : (k : ℕ) (α : Symbol) (f : List Symbol) (s : Seq O) → Val O k s → Val O (suc k) (above α f s)
  unfolding above
  above_val k α [] s h = λ i l. none_at O L i
  above_val k α (c ∷ f) s h = plus_val O L (suc k) _ _ (stretch_val O L (suc k) α _ (above_val k α f s h)) (shift_val O L k _ (act_val k α f s h))

  entry_recentre : (r : Symbol) (A : List (Seq O)) (a b : ℕ) → entry O (expand O (λ s. s) r A) b a ≡ taylor O r (map (λ s. s a) A) b
  entry_recentre r [] a b = rw (expand_nil, taylor_nil) (none_at O L a ∙ sym (none_at O L b))
  entry_recentre r (s ∷ A) a zero =
      rw (expand_zero O L (λ s. s) (same_linear O L), plus_at, stretch_at, entry_recentre r A a zero, taylor_cons, plus_at, lone_zero, near_zero)
  entry_recentre r (s ∷ A) a (suc b) =
      rw (
        expand_suc O L (λ s. s) (same_linear O L),
        plus_at,
        stretch_at,
        entry_recentre r A a (suc b),
        entry_recentre r A a b,
        taylor_cons,
        plus_at,
        lone_suc,
        near_suc,
        nil_add,
      )
      (L.add_comm _ _)

  map_at : (α : Symbol) (a : ℕ) (Q : List (List Symbol)) → map (λ s. s a) (map (taylor O α) Q) ≡ map (λ q. taylor O α q a) Q
  map_at α a [] = refl
  map_at α a (q ∷ Q) = ap (◌∷◌ (taylor O α q a)) (map_at α a Q)

  pub along_val : (Q : List (List Symbol)) (f : List Symbol) (α : Symbol) (m : ℕ) →
      ((a b : ℕ) → a + b < m → taylor² O α (eval O f α) a b Q ≡ nil) → Val O m (taylor O α (along O Q f))
  unfolding taylor²
  along_val Q f α m h =
      rw (
        taylor_along,
        ← horner_expand O L (act O (near O α) f) (above α f) (λ s. s) (eval O f α) (above_linear α f) (same_linear O L) (λ s. refl) (act_above α f),
      )
      (horner_val O L (above α f) (λ k s. above_val k α f s) _ m (λ a b l. entry_recentre _ _ a b ∙ rw (map_at α a Q) (h a b l)))
