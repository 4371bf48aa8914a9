-- The leading terms of the basis are the least: every curve that meets the conditions has its greatest term at or above one of them.
-- The best curve is the only one of its greatest term.
use mathlib.Core.Path.{◌≡◌, refl, sym, ◌∙◌, ap}
use mathlib.Core.Logic.{◌⊎◌, inl, inr}
use mathlib.Core.List.Memᴰ
use mathlib.Core.List.{List, [], ◌∷◌, ◌++◌}
use Prim.Native.Nat.{ℕ, zero, suc, ◌<◌, ◌≤◌, ◌+◌, ◌*◌}
use native.Mathlib.Omega.{arith}
use native.Mathlib.Decide.{dec_lt, ℕ_discrete}
use Rattle.rules.specs.Field.{Ops}
use Rattle.rules.specs.Laws.{Laws}
use Rattle.algebra.specs.Poly.{neg}
use Rattle.algebra.specs.Conditions.{Condition, Ready, ConditionsOrdered}
use Rattle.algebra.specs.Space.{Space, In, rank, Curve, mix, shift, Same, Below, value, Meets, Top, Monic, Basis, Least, Pivot, Best, LeastCurve}
use Rattle.algebra.proofs.Ring.{nil_add, add_mul, mul_nil, nil_mul, one_mul, neg_add, add_neg, cancel, no_zero_divisor, decide}
use Rattle.algebra.proofs.Rank.{rank_lt, rank_scan, rank_eq, rank_bound, rank_find}
use Rattle.algebra.proofs.Conditions.{value_ext, value_lin}
use Rattle.algebra.proofs.Basis.{both, monic_shift, meets_snoc, meets_mix, meets_shift, order_snoc}

module _ (O : Ops) (L : Laws O) (S : Space) where
  open O use {Symbol, nil, one, add, mul}

  -- the curve is below rank r, or r is the rank of its greatest term
  abbrev TopOrBelow : Curve O → ℕ → Type 0
  TopOrBelow Q r = Below O S Q r ⊎ ((i : ℕ) × (t : ℕ) × (rank S i t ≡ r) × Top O S Q i t)

  -- one term less: a curve below suc r that vanishes at the term of rank r, where there is one, is below r
  lower : (Q : Curve O) (i t : ℕ) → t ≤ S.top → (In S i t → Q i t ≡ nil) → Below O S Q (suc (rank S i t)) → Below O S Q (rank S i t)
  lower Q i t ht z b i' t' h l = go (ℕ_discrete (rank S i t) (rank S i' t'))
    where
      go : Dec (rank S i t ≡ rank S i' t') → Q i' t' ≡ nil
      go (yes q) = let w = rank_eq S i t i' t' ht h.column q in rw (← w.0, ← w.1) (z (rw (← w.0, ← w.1) at h))
      go (no q) = b i' t' h (omega arith)

  peel : (Q : Curve O) (r : ℕ) → Below O S Q (suc r) → TopOrBelow Q r
  peel Q r b = found (rank_find S r)
    where
      split : (i t : ℕ) → t ≤ S.top → rank S i t ≡ r → Dec (i + S.off t < S.wide) → Dec (Q i t ≡ nil) → TopOrBelow Q r
      split i t ht e (yes hi) (no n) = inr (i, t, e, record { within = record { column = ht; inside = hi }; some = n; rest = rw e b })
      split i t ht e (yes hi) (yes z) = inl (rw e at (lower Q i t ht (λ h. z) (rw e b)))
      split i t ht e (no hi) z = inl (rw e at (lower Q i t ht (λ h. absurd (hi h.inside)) (rw e b)))

      found : ((i : ℕ) × (t : ℕ) × (t ≤ S.top) × (rank S i t ≡ r)) ⊎ ((i t : ℕ) → t ≤ S.top → ¬ (rank S i t ≡ r)) → TopOrBelow Q r
      found (inr n) = inl (λ i t h l. b i t h (let m = n i t h.column in omega arith))
      found (inl (i, t, ht, e)) = split i t ht e (dec_lt _ _) (decide O L _ _)

  -- a curve is zero or has a greatest term
  pub greatest : (Q : Curve O) → Below O S Q 0 ⊎ ((i : ℕ) × (t : ℕ) × Top O S Q i t)
  greatest Q = down (S.wide * suc S.top) (λ i t h l. absurd (omega (arith, rank_bound S i t h)))
    where
      down : (r : ℕ) → Below O S Q r → Below O S Q 0 ⊎ ((i : ℕ) × (t : ℕ) × Top O S Q i t)
      down zero b = inl b
      down (suc r) b = go (peel Q r b) (down r)
        where
          go : TopOrBelow Q r → (Below O S Q r → Below O S Q 0 ⊎ ((i : ℕ) × (t : ℕ) × Top O S Q i t)) → Below O S Q 0 ⊎ ((i : ℕ) × (t : ℕ) × Top O S Q i t)
          go (inl b') ih = ih b'
          go (inr (i, t, e, T)) ih = inr (i, t, T)

  -- subtract the greatest term
  cut : (Q h : Curve O) (i t : ℕ) → Below O S Q (suc (rank S i t)) → Monic O S h i t → Below O S (mix O Q (neg O (Q i t)) h) (rank S i t)
  cut Q h i t b M =
      lower (mix O Q (neg O (Q i t)) h) i t M.within.column
      (λ w. ap (λ x. add (Q i t) (mul (neg O (Q i t)) x)) M.lead ∙ ap (add (Q i t)) (L.mul_one _) ∙ add_neg O L (Q i t))
      (λ i' t' w l. both O L S _ _ _ (b i' t' w l) (M.rest i' t' w l))

  -- x + (− q)·y = 0 says x = q·y
  move : {x q y : Symbol} → add x (mul (neg O q) y) ≡ nil → x ≡ mul q y
  move {x} {q} {y} e =
      sym (L.add_nil x) ∙ ap (add x) (sym (nil_mul O L y) ∙ ap (λ z. mul z y) (sym (neg_add O L q)) ∙ add_mul O L _ _ _)
      ∙ sym (L.add_assoc _ _ _) ∙ ap (λ z. add z (mul q y)) e ∙ nil_add O L _

  value_nil : (c : Condition Symbol) (Q : Curve O) → Below O S Q 0 → value O S c Q ≡ nil
  value_nil c Q b = cancel O L (value O S c Q) _ _ (sym twice ∙ sym (L.add_nil _))
    where
      flat : Same O S Q (mix O Q one Q)
      flat i t h = let z = b i t h (omega arith) in z ∙ sym (both O L S _ _ _ z z)

      twice : value O S c Q ≡ add (value O S c Q) (value O S c Q)
      twice = value_ext O L S c _ _ flat ∙ value_lin O L S c Q one Q ∙ ap (add (value O S c Q)) (one_mul O L _)

  -- what meets one condition more meets the others and that one
  module _ (cs : List (Condition Symbol)) (c : Condition Symbol) {Q : Curve O} (s : Meets O S (cs ++ (c ∷ [])) Q) where
    front : Meets O S cs Q
    front = record { each = λ k m. s.each k (Memᴰ.append_left (c ∷ []) m) }

    last : value O S c Q ≡ nil
    last = s.each c (Memᴰ.append_right cs (Memᴰ.head refl))

  pub least_start : Least O S [] (λ _. 0)
  least_start Q a j s T = omega arith

  -- x^e·Q, by where its leading term is
  climb : {cs : List (Condition Symbol)} {Q : Curve O} {a j : ℕ} → ConditionsOrdered cs → Monic O S Q a j → Meets O S cs Q → (i : ℕ) → a ≤ i → In S i j →
      (h : Curve O) × Monic O S h i j × Meets O S cs h
  climb {Q = Q} {a = a} o M s zero l w = let z : a ≡ 0 = omega arith in (Q, rw z at M, s)
  climb {cs} {Q} {a} {j} o M s (suc i) l w = go (ℕ_discrete a (suc i)) (λ l'. climb o M s i l' (omega arith))
    where
      go : Dec (a ≡ suc i) → (a ≤ i → (h : Curve O) × Monic O S h i j × Meets O S cs h) → (h : Curve O) × Monic O S h (suc i) j × Meets O S cs h
      go (yes e) ih = (Q, rw e at M, s)
      go (no e) ih =
          let r = ih (omega arith) in (
            shift O r.0,
            monic_shift O L S w r.1,
            meets_shift O L S o (λ i' t' w' m. r.1.rest i' t' w' (rank_lt S i j i' t' w.column (omega arith))) r.2,
          )

  module _ {cs : List (Condition Symbol)} {d : ℕ → ℕ} (H : Least O S cs d) where
    pub least_quiet : (c : Condition Symbol) → Least O S (cs ++ (c ∷ [])) d
    least_quiet c Q a j s T = H Q a j (front cs c s) T

    module _ {g : ℕ → Curve O} (B : Basis O S cs d g) {c : Condition Symbol} {p : ℕ} {d' : ℕ → ℕ} {g' : ℕ → Curve O} (r : Ready cs c)
        (P : Pivot O S c p d g d' g') where
      -- a curve below the pivot's leading term meets the new condition
      under : (r : ℕ) (Q : Curve O) → r ≤ rank S (d p) p → Meets O S cs Q → Below O S Q r → value O S c Q ≡ nil
      under zero Q l s b = value_nil c Q b
      under (suc n) Q l s b = go (peel Q n b) (λ Q' s' b'. under n Q' (omega arith) s' b')
        where
          go : TopOrBelow Q n → ((Q' : Curve O) → Meets O S cs Q' → Below O S Q' n → value O S c Q' ≡ nil) → value O S c Q ≡ nil
          go (inl b') ih = ih Q s b'
          go (inr (i, t, e, T)) ih =
              finish (climb (order_snoc O L S c B.order r) (B.monic t al) (meets_snoc O L S c (B.meets t al) (calm (decide O L _ _))) i low T.within)
            where
              low : d t ≤ i
              low = H Q i t s T

              al : In S (d t) t
              al = let w = T.within in omega (arith, low)

              calm : Dec (value O S c (g t) ≡ nil) → value O S c (g t) ≡ nil
              calm (yes z) = z
              calm (no z) = absurd (omega (arith, P.first t al z, rank_scan S (d t) t i t (omega arith) (omega (arith, low))))

              finish : (h : Curve O) × Monic O S h i t × Meets O S (cs ++ (c ∷ [])) h → value O S c Q ≡ nil
              finish (h, M, m) =
                  move (sym (value_lin O L S c Q _ h) ∙ ih _ (meets_mix O L S s (front cs c m)) (rw e at (cut Q h i t T.rest M)))
                  ∙ ap (mul _) (last cs c m) ∙ mul_nil O L _

      -- no curve with the pivot's leading term meets the new condition too
      clash : (Q : Curve O) → Meets O S (cs ++ (c ∷ [])) Q → Below O S Q (suc (rank S (d p) p)) → Q (d p) p ≡ nil
      clash Q s b = no_zero_divisor O L _ _ P.fails (L.mul_comm _ _ ∙ sym (move (sym (value_lin O L S c Q _ (g p)) ∙ nothing)) ∙ last cs c s)
        where
          nothing : value O S c (mix O Q (neg O (Q (d p) p)) (g p)) ≡ nil
          nothing = under (rank S (d p) p) _ (omega arith) (meets_mix O L S (front cs c s) (B.meets p P.alive))
              (cut Q (g p) (d p) p b (B.monic p P.alive))

      pub least_step : Least O S (cs ++ (c ∷ [])) d'
      least_step Q a j s T = go (ℕ_discrete j p) (ℕ_discrete a (d p))
        where
          low : d j ≤ a
          low = H Q a j (front cs c s) T

          go : Dec (j ≡ p) → Dec (a ≡ d p) → d' j ≤ a
          go (no e) f = rw (P.stay j T.within.column e) low
          go (yes e) (no f) = rw (e, P.grow) (omega (arith, low, ap d e))
          go (yes e) (yes f) = absurd (T.some (rw (e, f) (clash Q s (rw (e, f) at T.rest))))

    module _ {g : ℕ → Curve O} (B : Basis O S cs d g) {j : ℕ} (T : Best S d j) where
      -- the best curve's greatest term is least
      least : (Q : Curve O) (a t : ℕ) → Meets O S cs Q → Top O S Q a t → rank S (d j) j ≤ rank S a t
      least Q a t s U =
          let low = H Q a t s U in
          let w = U.within in
          omega (arith, T.least t (omega arith), rank_scan S (d t) t a t (omega arith) (omega arith))

      vanish : (r : ℕ) (Q : Curve O) → r ≤ rank S (d j) j → Meets O S cs Q → Below O S Q r → Below O S Q 0
      vanish zero Q l s b = b
      vanish (suc r) Q l s b = go (peel Q r b) (vanish r Q (omega arith) s)
        where
          go : TopOrBelow Q r → (Below O S Q r → Below O S Q 0) → Below O S Q 0
          go (inl b') ih = ih b'
          go (inr (i, t, e, U)) ih = absurd (omega (arith, least Q i t s U))

      -- a curve with the best greatest term is a multiple of the best
      multiple : (Q : Curve O) → Meets O S cs Q → Below O S Q (suc (rank S (d j) j)) → Same O S Q (λ i t. mul (Q (d j) j) (g j i t))
      multiple Q s b i t h =
          move (vanish (rank S (d j) j) _ (omega arith) (meets_mix O L S s (B.meets j T.alive))
          (cut Q (g j) (d j) j b (B.monic j T.alive)) i t h (omega arith))

      pub least_curve : LeastCurve O S cs (g j) (d j) j
      least_curve = record {
        monic = B.monic j T.alive;
        meets = B.meets j T.alive;
        least = least;
        only = λ Q s M i t h. multiple Q s M.rest i t h ∙ ap (λ x. mul x (g j i t)) M.lead ∙ one_mul O L _;
      }
