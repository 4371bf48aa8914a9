-- Sequences over a ring as a module with the shift operator: the laws are paths, so that simp sorts both sides of an identity.
use mathlib.Core.Path.{◌≡◌, refl, sym, ◌∙◌, ap, fun_ext}
use mathlib.Core.List.{List, [], ◌∷◌, map}
use lib.ListN.{length}
use Prim.Native.Nat.{ℕ, zero, suc, ◌<◌, ◌≤◌, ◌+◌, ◌-◌}
use native.Mathlib.Omega.{arith}
use native.Mathlib.Decide.{dec_le}
use Rattle.rules.specs.Field.{Ops}
use Rattle.rules.specs.Laws.{Laws}
use Rattle.rules.specs.Search.{merge}
use Rattle.algebra.specs.Poly.{Seq, Val, Short, plus, stretch, none, shift, lone, near, act, horner, expand, entry}
use Rattle.algebra.proofs.Ring.{add_left_comm, mul_left_comm, nil_add, add_mul, mul_nil, nil_mul}

module _ (O : Ops) (L : Laws O) where
  open O use {Symbol, nil, one, add, mul}

  pub plus_assoc : (a b c : Seq O) → plus O (plus O a b) c ≡ plus O a (plus O b c)
  unfolding plus
  plus_assoc a b c = fun_ext (λ i. L.add_assoc _ _ _)

  pub plus_comm : (a b : Seq O) → plus O a b ≡ plus O b a
  unfolding plus
  plus_comm a b = fun_ext (λ i. L.add_comm _ _)

  pub plus_left_comm : (a b c : Seq O) → plus O a (plus O b c) ≡ plus O b (plus O a c)
  unfolding plus
  plus_left_comm a b c = fun_ext (λ i. add_left_comm O L _ _ _)

  pub plus_none : (a : Seq O) → plus O a (none O) ≡ a
  unfolding plus none
  plus_none a = fun_ext (λ i. L.add_nil _)

  pub none_plus : (a : Seq O) → plus O (none O) a ≡ a
  unfolding plus none
  none_plus a = fun_ext (λ i. nil_add O L _)

  pub stretch_plus : (c : Symbol) (a b : Seq O) → stretch O c (plus O a b) ≡ plus O (stretch O c a) (stretch O c b)
  unfolding plus stretch
  stretch_plus c a b = fun_ext (λ i. L.mul_add _ _ _)

  pub stretch_none : (c : Symbol) → stretch O c (none O) ≡ (none O)
  unfolding stretch none
  stretch_none c = fun_ext (λ i. mul_nil O L _)

  pub stretch_nil : (a : Seq O) → stretch O nil a ≡ (none O)
  unfolding stretch none
  stretch_nil a = fun_ext (λ i. nil_mul O L _)

  pub stretch_add : (c d : Symbol) (a : Seq O) → stretch O (add c d) a ≡ plus O (stretch O c a) (stretch O d a)
  unfolding plus stretch
  stretch_add c d a = fun_ext (λ i. add_mul O L _ _ _)

  pub stretch_mul : (c d : Symbol) (a : Seq O) → stretch O (mul c d) a ≡ stretch O c (stretch O d a)
  unfolding stretch
  stretch_mul c d a = fun_ext (λ i. L.mul_assoc _ _ _)

  pub stretch_swap : (c d : Symbol) (a : Seq O) → stretch O c (stretch O d a) ≡ stretch O d (stretch O c a)
  unfolding stretch
  stretch_swap c d a = fun_ext (λ i. mul_left_comm O L _ _ _)

  pub shift_plus : (a b : Seq O) → shift O (plus O a b) ≡ plus O (shift O a) (shift O b)
  unfolding plus shift
  shift_plus a b = fun_ext (elim [ zero ↦ sym (L.add_nil _) | suc n ↦ refl ])

  pub shift_stretch : (c : Symbol) (a : Seq O) → shift O (stretch O c a) ≡ stretch O c (shift O a)
  unfolding stretch shift
  shift_stretch c a = fun_ext (elim [ zero ↦ sym (mul_nil O L _) | suc n ↦ refl ])

  pub shift_none : shift O (none O) ≡ (none O)
  unfolding none shift
  shift_none = fun_ext (elim [ zero ↦ refl | suc n ↦ refl ])

  pub lone_add : (c d : Symbol) → lone O (add c d) ≡ plus O (lone O c) (lone O d)
  unfolding plus lone
  lone_add c d = fun_ext (elim [ zero ↦ refl | suc n ↦ sym (L.add_nil _) ])

  pub lone_mul : (c d : Symbol) → lone O (mul c d) ≡ stretch O c (lone O d)
  unfolding stretch lone
  lone_mul c d = fun_ext (elim [ zero ↦ refl | suc n ↦ sym (mul_nil O L _) ])

  pub lone_nil : lone O nil ≡ (none O)
  unfolding lone none
  lone_nil = fun_ext (elim [ zero ↦ refl | suc n ↦ refl ])

  pub plus_at : (a b : Seq O) (i : ℕ) → plus O a b i ≡ add (a i) (b i)
  unfolding plus
  plus_at a b i = refl

  pub stretch_at : (c : Symbol) (a : Seq O) (i : ℕ) → stretch O c a i ≡ mul c (a i)
  unfolding stretch
  stretch_at c a i = refl

  pub none_at : (i : ℕ) → (none O) i ≡ nil
  unfolding none
  none_at i = refl

  pub shift_zero : (a : Seq O) → shift O a zero ≡ nil
  unfolding shift
  shift_zero a = refl

  pub shift_suc : (a : Seq O) (i : ℕ) → shift O a (suc i) ≡ a i
  unfolding shift
  shift_suc a i = refl

  pub lone_zero : (c : Symbol) → lone O c zero ≡ c
  unfolding lone
  lone_zero c = refl

  pub lone_suc : (c : Symbol) (i : ℕ) → lone O c (suc i) ≡ nil
  unfolding lone
  lone_suc c i = refl

  pub ruleset at = (plus_at, stretch_at, none_at, shift_zero, shift_suc, lone_zero, lone_suc)

  -- every law of the module, for simp
  pub ruleset seq = (
    plus_assoc,
    plus_comm,
    plus_left_comm,
    plus_none,
    none_plus,
    stretch_plus,
    stretch_none,
    stretch_nil,
    stretch_add,
    stretch_mul,
    stretch_swap,
    shift_plus,
    shift_stretch,
    shift_none,
    lone_add,
    lone_mul,
    lone_nil,
  )

  -- an operator that is additive and commutes with scaling
  pub record Linear (u : Seq O → Seq O) : Type 0 where
    pub of_plus : (a b : Seq O) → u (plus O a b) ≡ plus O (u a) (u b)
    pub of_stretch : (c : Symbol) (a : Seq O) → u (stretch O c a) ≡ stretch O c (u a)

  pub of_none : (u : Seq O → Seq O) → Linear u → u (none O) ≡ (none O)
  of_none u l = ap u (sym (stretch_nil (none O))) ∙ l.of_stretch nil (none O) ∙ stretch_nil _

  pub near_zero : (α : Symbol) (s : Seq O) → near O α s zero ≡ mul α (s zero)
  unfolding near plus stretch shift
  near_zero α s = L.add_nil _

  pub near_suc : (α : Symbol) (s : Seq O) (i : ℕ) → near O α s (suc i) ≡ add (mul α (s (suc i))) (s i)
  unfolding near plus stretch shift
  near_suc α s i = refl

  pub stretch_linear : (c : Symbol) → Linear (stretch O c)
  stretch_linear c = record { of_plus = stretch_plus c; of_stretch = stretch_swap c }

  pub same_linear : Linear (λ s. s)
  same_linear = record { of_plus = λ a b. refl; of_stretch = λ c a. refl }

  pub shift_linear : Linear (shift O)
  shift_linear = record { of_plus = shift_plus; of_stretch = shift_stretch }

  pub near_linear : (α : Symbol) → Linear (near O α)
  unfolding near
  near_linear α = record { of_plus = λ a b. simp seq; of_stretch = λ c a. simp seq }

  pub act_cons : (u : Seq O → Seq O) (a : Symbol) (f : List Symbol) (s : Seq O) → act O u (a ∷ f) s ≡ plus O (stretch O a s) (u (act O u f s))
  unfolding act
  act_cons u a f s = refl

  pub act_linear : (u : Seq O → Seq O) → Linear u → (f : List Symbol) → Linear (act O u f)
  unfolding act
  act_linear u l [] = record { of_plus = λ a b. sym (plus_none (none O)); of_stretch = λ c a. sym (stretch_none c) }
  act_linear u l (d ∷ f) =
      let h = act_linear u l f in
      record { of_plus = λ a b. simp (seq, h.of_plus, l.of_plus); of_stretch = λ c a. simp (seq, h.of_stretch, l.of_stretch) }

  pub act_commutes : (u w : Seq O → Seq O) → Linear w → ((s : Seq O) → u (w s) ≡ w (u s)) → (f : List Symbol) (s : Seq O) → act O u f (w s) ≡ w (act O u f s)
  unfolding act
  act_commutes u w l c [] s = sym (of_none w l)
  act_commutes u w l c (d ∷ f) s = rw (act_commutes u w l c f s) (simp (l.of_plus, l.of_stretch, c))

  pub horner_cons : (u : Seq O → Seq O) (s : Seq O) (A : List (Seq O)) → horner O u (s ∷ A) ≡ plus O s (u (horner O u A))
  unfolding horner
  horner_cons u s A = refl

  pub horner_merge : (u : Seq O → Seq O) → Linear u → (A B : List (Seq O)) → horner O u (merge (plus O) A B) ≡ plus O (horner O u A) (horner O u B)
  unfolding horner merge
  horner_merge u l [] B = sym (none_plus _)
  horner_merge u l (s ∷ A) [] = sym (plus_none _)
  horner_merge u l (s ∷ A) (t ∷ B) = rw (horner_merge u l A B) (simp (seq, l.of_plus))

  pub horner_map : (u w : Seq O → Seq O) → Linear w → ((s : Seq O) → u (w s) ≡ w (u s)) → (A : List (Seq O)) → horner O u (map w A) ≡ w (horner O u A)
  unfolding horner
  horner_map u w l c [] = sym (of_none w l)
  horner_map u w l c (s ∷ A) = rw (horner_map u w l c A, c, l.of_plus)

  pub horner_expand : (v u w : Seq O → Seq O) (r : Symbol) → Linear u → Linear w → ((s : Seq O) → u (w s) ≡ w (u s)) →
      ((s : Seq O) → v s ≡ plus O (stretch O r s) (w (u s))) → (A : List (Seq O)) → horner O u (expand O w r A) ≡ horner O v A
  unfolding expand
  horner_expand v u w r l k c e [] = unfold horner in refl
  horner_expand v u w r l k c e (s ∷ A) =
      horner_merge u l (s ∷ map w (expand O w r A)) (map (stretch O r) (expand O w r A))
      ∙ rw (
        horner_cons u,
        horner_map u w k c,
        horner_map u (stretch O r) (stretch_linear r) (l.of_stretch r),
        horner_expand v u w r l k c e A,
        horner_cons,
        e,
        c,
      ) (simp seq)

  pub entry_nil : (b : ℕ) → entry O [] b ≡ (none O)
  unfolding entry
  entry_nil b = refl

  pub entry_zero : (s : Seq O) (A : List (Seq O)) → entry O (s ∷ A) zero ≡ s
  unfolding entry
  entry_zero s A = refl

  pub entry_suc : (s : Seq O) (A : List (Seq O)) (b : ℕ) → entry O (s ∷ A) (suc b) ≡ entry O A b
  unfolding entry
  entry_suc s A b = refl

  pub entry_merge : (A B : List (Seq O)) (b : ℕ) → entry O (merge (plus O) A B) b ≡ plus O (entry O A b) (entry O B b)
  unfolding entry merge
  entry_merge [] B b = sym (none_plus _)
  entry_merge (s ∷ A) [] b = sym (plus_none _)
  entry_merge (s ∷ A) (t ∷ B) zero = refl
  entry_merge (s ∷ A) (t ∷ B) (suc b) = entry_merge A B b

  pub entry_map : (w : Seq O → Seq O) → Linear w → (A : List (Seq O)) (b : ℕ) → entry O (map w A) b ≡ w (entry O A b)
  unfolding entry
  entry_map w l [] b = sym (of_none w l)
  entry_map w l (s ∷ A) zero = refl
  entry_map w l (s ∷ A) (suc b) = entry_map w l A b

  pub expand_nil : (w : Seq O → Seq O) (r : Symbol) (b : ℕ) → entry O (expand O w r []) b ≡ (none O)
  unfolding expand
  expand_nil w r b = entry_nil b

  pub expand_zero : (w : Seq O → Seq O) → Linear w → (r : Symbol) (s : Seq O) (A : List (Seq O)) →
      entry O (expand O w r (s ∷ A)) zero ≡ plus O s (stretch O r (entry O (expand O w r A) zero))
  unfolding expand
  expand_zero w l r s A = rw (entry_merge, entry_zero, entry_map (stretch O r) (stretch_linear r))

  pub expand_suc : (w : Seq O → Seq O) → Linear w → (r : Symbol) (s : Seq O) (A : List (Seq O)) (b : ℕ) →
      entry O (expand O w r (s ∷ A)) (suc b) ≡ plus O (w (entry O (expand O w r A) b)) (stretch O r (entry O (expand O w r A) (suc b)))
  unfolding expand
  expand_suc w l r s A b = rw (entry_merge, entry_suc, entry_map w l, entry_map (stretch O r) (stretch_linear r))

  -- sequences that begin with zeros
  pub plus_val : (k : ℕ) (a b : Seq O) → Val O k a → Val O k b → Val O k (plus O a b)
  plus_val k a b h g i l = rw (plus_at, h i l, g i l) (L.add_nil nil)

  pub stretch_val : (k : ℕ) (c : Symbol) (a : Seq O) → Val O k a → Val O k (stretch O c a)
  stretch_val k c a h i l = rw (stretch_at, h i l) (mul_nil O L c)

  pub shift_val : (k : ℕ) (a : Seq O) → Val O k a → Val O (suc k) (shift O a)
  shift_val k a h zero l = shift_zero a
  shift_val k a h (suc i) l = shift_suc a i ∙ h i (omega arith)

  pub horner_val : (u : Seq O → Seq O) → ((k : ℕ) (s : Seq O) → Val O k s → Val O (suc k) (u s)) → (A : List (Seq O)) (m : ℕ) →
      ((a b : ℕ) → a + b < m → entry O A b a ≡ nil) → Val O m (horner O u A)
  unfolding horner entry
  horner_val u w [] m h = λ i l. none_at i
  horner_val u w (s ∷ A) m h =
      plus_val m _ _ (λ i l. h i 0 (omega arith))
      (λ i l. w (m - 1) _ (horner_val u w A (m - 1) (λ a b g. h a (suc b) (omega arith))) i (omega arith))

  -- sequences that end in zeros
  pub plus_short : (n : ℕ) (a b : Seq O) → Short O n a → Short O n b → Short O n (plus O a b)
  plus_short n a b h g i l = rw (plus_at, h i l, g i l) (L.add_nil nil)

  pub stretch_short : (n : ℕ) (c : Symbol) (a : Seq O) → Short O n a → Short O n (stretch O c a)
  stretch_short n c a h i l = rw (stretch_at, h i l) (mul_nil O L c)

  pub shift_short : (n : ℕ) (a : Seq O) → Short O n a → Short O (suc n) (shift O a)
  shift_short n a h zero l = shift_zero a
  shift_short n a h (suc i) l = shift_suc a i ∙ h i (omega arith)

  act_short : (n : ℕ) (s : Seq O) → Short O n s → (f : List Symbol) (d : ℕ) → length f ≤ suc d → Short O (n + d) (act O (shift O) f s)
  unfolding act
  act_short n s h [] d l = λ i g. none_at i
  act_short n s h (c ∷ []) zero l = plus_short _ _ _ (λ i g. stretch_short n c s h i (omega arith)) (λ i g. rw shift_none (none_at i))
  act_short n s h (c ∷ e ∷ f) zero l = absurd (omega arith)
  act_short n s h (c ∷ f) (suc d) l =
      plus_short _ _ _ (λ i g. stretch_short n c s h i (omega arith))
      (λ i g. shift_short (n + d) _ (act_short n s h f d (omega arith)) i (omega arith))

  -- the product by a polynomial of d + 1 coefficients; the subtraction may stop at 0
  pub act_fits : (W d : ℕ) (f : List Symbol) (s : Seq O) → length f ≤ suc d → Short O (W - d) s → Short O W (act O (shift O) f s)
  act_fits W d f s l h = go (dec_le d W)
    where
      go : Dec (d ≤ W) → Short O W (act O (shift O) f s)
      go (yes g) i k = act_short (W - d) s h f d l i (omega arith)
      go (no g) i k =
          ap (λ t. act O (shift O) f t i) (fun_ext (λ j. h j (omega arith) ∙ sym (none_at j)))
          ∙ ap (λ t. t i) (of_none _ (act_linear _ shift_linear f)) ∙ none_at i
