-- Kötter's algorithm keeps a basis: at its start, at a condition that all curves meet, and at its step. With fewer conditions than terms a curve is left.
use mathlib.Core.Path.{◌≡◌, refl, sym, ◌∙◌, ap, ap₂, subst}
use mathlib.Core.Logic.{⊎_elim}
use mathlib.Core.List.Memᴰ
use mathlib.Core.List.{List, [], ◌∷◌, ◌++◌}
use Prim.Native.Nat.{ℕ, zero, suc, ◌<◌, ◌≤◌, ◌+◌, ◌-◌}
use native.Mathlib.Omega.{arith}
use native.Mathlib.Decide.{dec_lt, ℕ_discrete}
use lib.ListN.{length, length-append}
use Rattle.rules.specs.Lists.{from, below, sum}
use Rattle.rules.specs.Field.{Ops}
use Rattle.rules.specs.Laws.{Laws}
use Rattle.algebra.specs.Conditions.{Condition, Ready, ConditionsOrdered}
use Rattle.algebra.specs.Space.{Space, In, rank, Curve, mix, shift, Same, Below, Room, value, Meets, Monic, Basis, Pivot}
use Rattle.algebra.proofs.Ring.{nil_add, mul_nil, nil_mul, no_zero_divisor, decide}
use Rattle.algebra.proofs.Rank.{rank_suc, rank_lt, rank_eq}
use Rattle.algebra.proofs.Conditions.{value_ext, value_lin, value_gain}

-- sums of leads
sum_same : (f h : ℕ → ℕ) (a n : ℕ) → ((j : ℕ) → a ≤ j → j < a + n → h j ≡ f j) → sum h (from a n) ≡ sum f (from a n)
unfolding sum from
sum_same f h a zero e = refl
sum_same f h a (suc n) e = ap₂ ◌+◌ (e a (omega arith) (omega arith)) (sum_same f h (suc a) n (λ j l m. e j (omega arith) (omega arith)))

sum_grow : (f h : ℕ → ℕ) (p a n : ℕ) → a ≤ p → p < a + n → h p ≡ suc (f p) → ((j : ℕ) → j < a + n → ¬ (j ≡ p) → h j ≡ f j) →
    sum h (from a n) ≡ suc (sum f (from a n))
unfolding sum from
sum_grow f h p a zero l m g e = absurd (omega arith)
sum_grow f h p a (suc n) l m g e = go (ℕ_discrete a p) (λ l'. sum_grow f h p (suc a) n l' (omega arith) g (λ j k. e j (omega arith)))
  where
    go : Dec (a ≡ p) → (suc a ≤ p → sum h (from (suc a) n) ≡ suc (sum f (from (suc a) n))) → h a + sum h (from (suc a) n) ≡ suc (f a + sum f (from (suc a) n))
    go (yes q) ih = let s = sum_same f h (suc a) n (λ j k k'. e j (omega arith) (omega arith)) in let g' = subst (λ x. h x ≡ suc (f x)) (sym q) g in omega arith
    go (no q) ih = let s = ih (omega arith) in let u = e a (omega arith) q in omega arith

sum_nil : (a n : ℕ) → sum (λ _. 0) (from a n) ≡ 0
unfolding sum from
sum_nil a zero = refl
sum_nil a (suc n) = omega (arith, sum_nil (suc a) n)

-- where the sum is less some summand is less
sum_less : (f h : ℕ → ℕ) (a n : ℕ) → sum f (from a n) < sum h (from a n) → (j : ℕ) × (j < a + n) × (f j < h j)
unfolding sum from
sum_less f h a zero l = absurd (omega arith)
sum_less f h a (suc n) l = go (dec_lt (f a) (h a)) (sum_less f h (suc a) n)
  where
    go : Dec (f a < h a) → (sum f (from (suc a) n) < sum h (from (suc a) n) → (j : ℕ) × (j < suc a + n) × (f j < h j)) → (j : ℕ) × (j < a + suc n) × (f j < h j)
    go (yes q) ih = (a, omega arith, q)
    go (no q) ih = let r = ih (omega arith) in (r.0, omega arith, r.2)

module _ (O : Ops) (L : Laws O) (S : Space) where
  open O use {Symbol, nil, one, add, mul}

  pub both : (q a b : Symbol) → a ≡ nil → b ≡ nil → add a (mul q b) ≡ nil
  both q a b ea eb = ap₂ (λ x y. add x (mul q y)) ea eb ∙ simp (mul_nil O L, L.add_nil)

  pub monic_same : {P Q : Curve O} {a j : ℕ} → Same O S P Q → Monic O S Q a j → Monic O S P a j
  monic_same e M = record { within = M.within; lead = e _ _ M.within ∙ M.lead; rest = λ i t h l. e i t h ∙ M.rest i t h l }

  pub monic_shift : {Q : Curve O} {a j : ℕ} → In S (suc a) j → Monic O S Q a j → Monic O S (shift O Q) (suc a) j
  monic_shift {Q} {a} {j} w M = record { within = w; lead = M.lead; rest = above }
    where
      above : Below O S (shift O Q) (suc (rank S (suc a) j))
      above zero t h l = refl
      above (suc i) t h l = M.rest i t (omega arith) (omega (arith, rank_suc S a j, rank_suc S i t))

  monic_mix : {P Q : Curve O} {r : Symbol} {a j : ℕ} → Monic O S P a j → Below O S Q (rank S a j) → Monic O S (mix O P r Q) a j
  monic_mix {r = r} M b = record {
    within = M.within;
    lead = ap₂ (λ x y. add x (mul r y)) M.lead (b _ _ M.within (omega arith)) ∙ simp (mul_nil O L, L.add_nil);
    rest = λ i t h l. both r _ _ (M.rest i t h l) (b i t h (omega arith));
  }

  monic_below : {Q : Curve O} {a j : ℕ} (r : ℕ) → Monic O S Q a j → rank S a j < r → Below O S Q r
  monic_below r M l i t h k = M.rest i t h (omega arith)

  mix_nil : (P : Curve O) (q : Symbol) (Q : Curve O) → q ≡ nil → Same O S (mix O P q Q) P
  mix_nil P q Q e i t h = ap (λ x. add (P i t) (mul x (Q i t))) e ∙ simp (nil_mul O L, L.add_nil)

  module _ {cs : List (Condition Symbol)} where
    pub meets_snoc : {Q : Curve O} (c : Condition Symbol) → Meets O S cs Q → value O S c Q ≡ nil → Meets O S (cs ++ (c ∷ [])) Q
    meets_snoc {Q} c s e =
        record { each = λ k m. ⊎_elim (s.each k) (λ n. ap (λ x. value O S x Q) (Memᴰ.eq_of_singleton n) ∙ e) (Memᴰ.append_cases cs m) }

    pub meets_mix : {P Q : Curve O} {q : Symbol} → Meets O S cs P → Meets O S cs Q → Meets O S cs (mix O P q Q)
    meets_mix s t = record { each = λ k m. value_lin O L S k _ _ _ ∙ both _ _ _ (s.each k m) (t.each k m) }

    pub meets_same : {P Q : Curve O} → Same O S P Q → Meets O S cs Q → Meets O S cs P
    meets_same e s = record { each = λ k m. value_ext O L S k _ _ e ∙ s.each k m }

    -- conditions in order that Q meets x·Q meets too
    pub meets_shift : {Q : Curve O} → ConditionsOrdered cs → Room O S Q → Meets O S cs Q → Meets O S cs (shift O Q)
    meets_shift {Q} o h s = record {
      each = λ k m.
          sym (L.add_nil _) ∙ ap (add _) (sym (ap (mul _) (s.each k m) ∙ mul_nil O L _))
          ∙ sym (value_lin O L S k (shift O Q) _ Q) ∙ value_gain O L S cs k Q (o k m) h s;
    }

    pub order_snoc : (c : Condition Symbol) → ConditionsOrdered cs → Ready cs c → ConditionsOrdered (cs ++ (c ∷ []))
    order_snoc c o r k m a e =
        Memᴰ.append_left (c ∷ []) (⊎_elim (λ n. o k n a e) (λ n. subst (Ready cs) (sym (Memᴰ.eq_of_singleton n)) r a e) (Memᴰ.append_cases cs m))

    -- the curves matter only in the space, the leads only up to the top
    pub basis_same : {d d' : ℕ → ℕ} {g g' : ℕ → Curve O} → Basis O S cs d g → ((j : ℕ) → j ≤ S.top → d' j ≡ d j) →
        ((j : ℕ) → In S (d j) j → Same O S (g' j) (g j)) → Basis O S cs d' g'
    unfolding below
    basis_same {d} {d'} {g} {g'} B e h = record {
      order = B.order;
      fit = λ j l. rw (e j l) (B.fit j l);
      monic = λ j a. let q = e j a.column in rw q (monic_same (h j (rw q at a)) (B.monic j (rw q at a)));
      meets = λ j a. let a' = rw (e j a.column) at a in meets_same (h j a') (B.meets j a');
      size = omega (arith, B.size, sum_same d d' 0 (S.top + 1) (λ j l m. e j (omega arith)));
    }

  -- the powers of y, before any condition
  pub start : (g : ℕ → Curve O) → ((j : ℕ) → j ≤ S.top → S.off j ≤ S.wide) → ((j : ℕ) → In S 0 j → g j 0 j ≡ one) →
      ((j i t : ℕ) → In S 0 j → In S i t → ¬ ((i ≡ 0) × (t ≡ j)) → g j i t ≡ nil) → Basis O S [] (λ _. 0) g
  unfolding below
  start g f u z = record {
    order = λ c m. absurd (Memᴰ.not-nil m);
    fit = λ j l. omega (arith, f j l);
    monic = λ j w. record { within = w; lead = u j w; rest = λ i t h l. z j i t w h (λ e. let q = ap₂ (rank S) e.0 e.1 in omega arith) };
    meets = λ j w. record { each = λ c m. absurd (Memᴰ.not-nil m) };
    size = omega (arith, sum_nil 0 (S.top + 1));
  }

  module _ {cs : List (Condition Symbol)} {d : ℕ → ℕ} {g : ℕ → Curve O} (B : Basis O S cs d g) where
    -- a condition that every alive curve meets changes nothing
    pub quiet : (c : Condition Symbol) → Ready cs c → ((j : ℕ) → In S (d j) j → value O S c (g j) ≡ nil) → Basis O S (cs ++ (c ∷ [])) d g
    quiet c r h = record {
      order = order_snoc c B.order r;
      fit = B.fit;
      monic = B.monic;
      meets = λ j a. meets_snoc c (B.meets j a) (h j a);
      size = omega (arith, B.size, length-append cs (c ∷ []));
    }

    -- with fewer conditions than terms a curve is alive
    pub end : length cs < sum (λ t. S.wide - S.off t) (below (S.top + 1)) → (j : ℕ) × In S (d j) j
    unfolding below
    end l = let e = sum_less d (λ t. S.wide - S.off t) 0 (S.top + 1) (omega (arith, B.size)) in
        (e.0, record { column = omega (arith, e.1); inside = omega (arith, e.2) })

    module _ {c : Condition Symbol} {p : ℕ} {d' : ℕ → ℕ} {g' : ℕ → Curve O} (r : Ready cs c) (P : Pivot O S c p d g d' g') where
      M : Monic O S (g p) (d p) p
      M = B.monic p P.alive

      pivot_monic : In S (d' p) p → Monic O S (g' p) (d' p) p
      pivot_monic a =
          monic_same (P.raise a) (rw P.grow (monic_mix (monic_shift (rw P.grow at a) M) (monic_below _ M (omega (arith, rank_suc S (d p) p)))))

      pivot_meets : In S (d' p) p → Meets O S (cs ++ (c ∷ [])) (g' p)
      pivot_meets a = meets_same (P.raise a) (meets_snoc c (meets_mix (meets_shift B.order room s) s) (value_gain O L S cs c (g p) r room s))
        where
          s : Meets O S cs (g p)
          s = B.meets p P.alive

          room : Room O S (g p)
          room i t h l = M.rest i t h (rank_lt S (d p) p i t a.column (omega (arith, P.grow)))

      other_monic : (j : ℕ) → In S (d j) j → ¬ (j ≡ p) → Monic O S (g' j) (d j) j
      other_monic j a n = monic_same (P.reduce j a n) (go (decide O L (P.ratio j) nil))
        where
          go : Dec (P.ratio j ≡ nil) → Monic O S (mix O (g j) (P.ratio j) (g p)) (d j) j
          go (yes e) = monic_same (mix_nil (g j) (P.ratio j) (g p) e) (B.monic j a)
          go (no e) =
              let l = P.first j a (λ z. P.fails
              (no_zero_divisor O L _ _ e (sym (nil_add O L _) ∙ ap (λ x. add x (mul (P.ratio j) (value O S c (g p)))) (sym z) ∙ P.clears j a n))) in
              let apart : ¬ (rank S (d p) p ≡ rank S (d j) j) = λ q. n (sym (rank_eq S _ _ _ _ P.alive.column a.column q).1) in
              monic_mix (B.monic j a) (monic_below _ M (omega arith))

      other_meets : (j : ℕ) → In S (d j) j → ¬ (j ≡ p) → Meets O S (cs ++ (c ∷ [])) (g' j)
      other_meets j a n =
          meets_same (P.reduce j a n)
          (meets_snoc c (meets_mix (B.meets j a) (B.meets p P.alive)) (value_lin O L S c (g j) (P.ratio j) (g p) ∙ P.clears j a n))

      pub step : Basis O S (cs ++ (c ∷ [])) d' g'
      unfolding below
      step = record {
        order = order_snoc c B.order r;
        fit = λ j h. fits j h (ℕ_discrete j p);
        monic = λ j a. monic' j a (ℕ_discrete j p);
        meets = λ j a. meets' j a (ℕ_discrete j p);
        size = omega (
          arith,
          B.size,
          length-append cs (c ∷ []),
          sum_grow d d' p 0 (S.top + 1) (omega arith) (omega (arith, P.alive.column)) P.grow (λ j l. P.stay j (omega arith)),
        );
      }
        where
          back : (j : ℕ) → ¬ (j ≡ p) → In S (d' j) j → In S (d j) j
          back j n a = rw (P.stay j a.column n) at a

          fits : (j : ℕ) → j ≤ S.top → Dec (j ≡ p) → d' j + S.off j ≤ S.wide
          fits j h (yes e) = rw (e, P.grow) (omega (arith, P.alive.inside))
          fits j h (no e) = rw (P.stay j h e) (B.fit j h)

          monic' : (j : ℕ) → In S (d' j) j → Dec (j ≡ p) → Monic O S (g' j) (d' j) j
          monic' j a (yes e) = rw e (pivot_monic (rw e at a))
          monic' j a (no e) = rw (P.stay j a.column e) (other_monic j (back j e a) e)

          meets' : (j : ℕ) → In S (d' j) j → Dec (j ≡ p) → Meets O S (cs ++ (c ∷ [])) (g' j)
          meets' j a (yes e) = rw e (pivot_meets (rw e at a))
          meets' j a (no e) = other_meets j (back j e a) e
