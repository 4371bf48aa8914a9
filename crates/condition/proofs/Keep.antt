-- One condition keeps the basis: what the numbers become is a step of Kötter's algorithm on the curves over the field.
use mathlib.Core.Path.{◌≡◌, refl, sym, ap, ap₂, ◌∙◌}
use mathlib.Core.Logic.{by_cases}
use mathlib.Core.List.{List, [], ◌∷◌, ◌++◌}
use Prim.Native.Nat.{ℕ, zero, suc, ◌+◌, ◌-◌, ◌*◌, ◌<◌, ◌≤◌, Fin}
use native.Mathlib.Nat.{mod-eq_of_lt, zero-mod, pos_of_ne-zero}
use native.Mathlib.Numerals.{add-one}
use native.Mathlib.Decide.{ℕ_discrete, dec_lt}
use native.Mathlib.Omega.{arith}
use lib.ListN.{length, get_or, set}
use lib.Seq.{get_or-set_same, get_or-set_other, get_or-take, get_or-drop}
use Rattle.rules.specs.Field.{Ops, ops, minus, inverse}
use Rattle.rules.specs.Laws.{Laws}
use Rattle.rules.specs.Curve.{coefficient}
use Rattle.algebra.specs.Hom.{Hom}
use Rattle.algebra.specs.Poly.{neg}
use Rattle.algebra.specs.Conditions.{Condition, Ready, carry}
use Rattle.algebra.specs.Space.{Space, In, space, mix, shift, raised, value, Pivot}
use Rattle.algebra.proofs.Ring.{nil_mul, mul_neg, clears}
use Rattle.algebra.proofs.Conditions.{value_ext}
use Rattle.algebra.proofs.Carry.{value_hom}
use Rattle.algebra.proofs.Basis.{quiet, step}
use Rattle.algebra.proofs.Least.{least_quiet, least_step}
use Rattle.prime.specs.Field.{elt, field}
use Rattle.prime.proofs.Below.{plus_below, minus_reduced}
use Rattle.prime.proofs.Laws.{laws}
use Rattle.prime.proofs.Tests.{modulus_says}
use Rattle.prime.proofs.Inverse.{inverse_times}
use Rattle.demands.proofs.Link.{elt_hom}
use Rattle.weights.specs.Shape.{Shaped}
use Rattle.weights.specs.Value.{pairing}
use Rattle.weights.proofs.Pairing.{pairing_value}
use Rattle.within.specs.Runs.{moved}
use Rattle.slots.specs.Slot.{slot, place, ratio, curve_at, raised_at, Treated, Swept}
use Rattle.condition.specs.Valued.{valued}
use Rattle.condition.specs.Kept.{Fit, Row, First, view, Kept, Met}
use Rattle.slots.proofs.Swept.{place_in}
use Rattle.condition.proofs.Values.{pairing_below, valued_alive}
use Rattle.condition.proofs.Places.{outside_stays, zero_stays, other_loses, pivot_raised}

module _ {q k w l : ℕ} (s : Shaped q k w l) (h : 1 < q) where
  abbrev F : Ops
  F = field q h

  abbrev e : ℕ → Fin q
  e = elt q h

  L : Laws F
  L = laws q s.field h

  H : Hom (ops q) F e
  H = elt_hom q s.field h

  abbrev S : Space
  S = space k w l

  elt_neg : (x : ℕ) → e (minus q 0 x) ≡ neg F (e x)
  elt_neg x = ap e (sym (minus_reduced q 0 x))

  -- a number below q that is zero in the field is zero
  elt_zero : (x : ℕ) → x < q → e x ≡ e 0 → x ≡ 0
  elt_zero x l z = sym (mod-eq_of_lt l) ∙ ap (λ a. a.0) z ∙ zero-mod q

  -- the ratio by which a curve loses, in the field
  elt_ratio : (v over : ℕ) → e (ratio q over v) ≡ neg F (F.mul (e v) (e over))
  elt_ratio v over = H.mul v _ ∙ ap (F.mul (e v)) (elt_neg over) ∙ mul_neg F L (e v) (e over)

  ratio_none : (over : ℕ) → e (ratio q over 0) ≡ F.nil
  ratio_none over = H.mul 0 (minus q 0 over) ∙ nil_mul F L (e (minus q 0 over))

  elt_inverse : (v : ℕ) → ¬ (v ≡ 0) → v < q → F.mul (e v) (e (inverse (ops q) v)) ≡ F.one
  elt_inverse v n l =
      sym (H.mul v _) ∙ ap e (inverse_times q (modulus_says q s.field) v (pos_of_ne-zero n) l)

  module _ (α r a b : ℕ) (x y : List ℕ) (X : Row q α a w x) (Y : Row q r b (l + 1) y) where
    abbrev c : Condition (Fin q)
    c = carry e (record { point = α; symbol = r; a = a; b = b })

    -- the value that was computed is the condition's
    value_at : (work : List ℕ) (j : ℕ) → e (pairing q k w l x y (curve_at w l work j)) ≡ value F S c (view q h k w l work j)
    unfolding coefficient
    value_at work j =
        ap e (pairing_value q k w l x y (curve_at w l work j) (record { point = α; symbol = r; a = a; b = b }) X (λ t u. Y t (omega arith)))
        ∙ value_hom (ops q) F e H S _ _
        ∙ value_ext F L S c _ _
        (λ i t v. ap e (get_or-take (slot w l) _ (place w t i) 0 (place_in w l (omega (arith, v.column)) (omega (arith, v.inside)))
        ∙ get_or-drop (j * slot w l) work (place w t i) 0))

    module _ {cs : List (Condition (Fin q))} {leads work : List ℕ} (R : Ready cs c) (K : Kept q h k w l cs leads work) (values : List ℕ)
        (G : (j : ℕ) → In S (get_or leads j 0) j → get_or values j 0 ≡ pairing q k w l x y (curve_at w l work j)) where
      value_is : (j : ℕ) → In S (get_or leads j 0) j → e (get_or values j 0) ≡ value F S c (view q h k w l work j)
      value_is j v = ap e (G j v) ∙ value_at work j

      -- no alive curve misses the condition
      pub kept_quiet : ((j : ℕ) → In S (get_or leads j 0) j → get_or values j 0 ≡ 0) → Kept q h k w l (cs ++ (c ∷ [])) leads work
      kept_quiet z = record {
        basis = quiet F L S K.basis c R (λ j v. sym (value_is j v) ∙ ap e (z j v));
        least = least_quiet F L S K.least c;
        small = K.small;
        clear = K.clear;
      }

      -- p is the pivot, the others are swept, and the pivot is raised
      module _ {p over : ℕ} {swept work' : List ℕ} (P : First k w l leads values p) (fits : p < length leads) (room : p < length values)
          (o : over ≡ inverse (ops q) (get_or values p 0))
          (W : Swept q k w l p over (set values p 0) (l + 1) work swept)
          (U : Treated (raised_at q (minus q 0 α) w swept (p * slot w l)) (p * slot w l) k w (l + 1) swept work') where
        column : p < l + 1
        column = omega (arith, P.alive.column)

        gone : get_or (set values p 0) p 0 ≡ 0
        gone = get_or-set_same values p 0 0 room

        other : (j : ℕ) → ¬ (j ≡ p) → get_or (set values p 0) j 0 ≡ get_or values j 0
        other j n = get_or-set_other values p j 0 0 n

        raise_at : (i t : ℕ) → In S i t → view q h k w l work' p i t ≡ raised F c (view q h k w l work p) i t
        unfolding moved
        raise_at i t v =
            ap e (pivot_raised q k w l p over (minus q 0 α) gone W U t i (omega (arith, v.column)) v.inside) ∙ H.add _ _
            ∙ ap₂ F.add (last i) (H.mul _ _ ∙ ap₂ F.mul (elt_neg α) (here i))
          where
            here : (i : ℕ) → e (get_or work (p * slot w l + t * w + i) 0) ≡ view q h k w l work p i t
            here i = ap (λ (m : ℕ). e (get_or work m 0)) (omega arith)

            last : (i : ℕ) → e (moved work (p * slot w l + t * w) i) ≡ shift F (view q h k w l work p) i t
            last zero = refl
            last (suc i) = here i

        reduce_at : (j : ℕ) → j < l + 1 → ¬ (j ≡ p) → (i t : ℕ) → In S i t →
            view q h k w l work' j i t ≡ mix F (view q h k w l work j) (e (ratio q over (get_or values j 0))) (view q h k w l work p) i t
        reduce_at j u n i t v =
            let A = view q h k w l work j i t in
            let B = view q h k w l work p i t in
            by_cases (ℕ_discrete (get_or values j 0) 0)
            (λ z. ap e (zero_stays q k w l p over (minus q 0 α) gone W U j t i n (other j n ∙ z) (omega (arith, v.column)) (omega (arith, v.inside)))
            ∙ sym (ap (F.add A) (ap (λ a. F.mul a B) (ap (λ (x : ℕ). e (ratio q over x)) z ∙ ratio_none over) ∙ nil_mul F L B) ∙ L.add_nil A))
            (λ z. ap e (other_loses q k w l p over (minus q 0 α) gone W U j t i u n (λ y. z (sym (other j n) ∙ y)) (omega (arith, v.column)) v.inside)
            ∙ H.add _ _ ∙ ap (F.add A) (H.mul _ _ ∙ ap (λ (x : ℕ). F.mul (e (ratio q over x)) B) (other j n)))

        pivot_is : Pivot F S c p (λ j. get_or leads j 0) (view q h k w l work) (λ j. get_or (set leads p (get_or leads p 0 + 1)) j 0) (view q h k w l work')
        pivot_is = record {
          alive = P.alive;
          fails = λ z. P.some (elt_zero _ (rw (G p P.alive) (pairing_below s x y _)) (value_is p P.alive ∙ z));
          first = λ j v n. P.least j v (λ z. n (sym (value_is j v) ∙ ap e z));
          grow = get_or-set_same leads p _ 0 fits ∙ add-one _;
          stay = λ j u n. get_or-set_other leads p j _ 0 n;
          raise = λ _ i t v. raise_at i t v;
          ratio = λ j. e (ratio q over (get_or values j 0));
          clears = λ j v n. ap₂ (λ a b. F.add a (F.mul (e (ratio q over (get_or values j 0))) b)) (sym (value_is j v)) (sym (value_is p P.alive))
              ∙ ap (λ a. F.add (e (get_or values j 0)) (F.mul a (e (get_or values p 0)))) (elt_ratio (get_or values j 0) over)
              ∙ clears F L (e (get_or values j 0)) (e (get_or values p 0)) (e over)
              (ap (λ (x : ℕ). F.mul (e (get_or values p 0)) (e x)) o ∙ elt_inverse _ P.some (rw (G p P.alive) (pairing_below s x y _)));
          reduce = λ j v n i t u. reduce_at j (omega (arith, v.column)) n i t u;
        }

        small_at : (j t i : ℕ) → j ≤ l → t ≤ l → i < w → get_or work' (j * slot w l + place w t i) 0 < q
        small_at j t i u v b = by_cases (dec_lt (i + t * (k - 1)) w)
            (λ g. by_cases (ℕ_discrete j p)
            (λ z. rw (z, pivot_raised q k w l p over (minus q 0 α) gone W U t i (omega arith) g) (plus_below q s.field _ _))
            (λ n. by_cases (ℕ_discrete (get_or values j 0) 0)
            (λ z. rw (zero_stays q k w l p over (minus q 0 α) gone W U j t i n (other j n ∙ z) (omega arith) b) (K.small j t i u v b))
            (λ z. rw (other_loses q k w l p over (minus q 0 α) gone W U j t i (omega arith) n (λ y. z (sym (other j n) ∙ y)) (omega arith) g)
            (plus_below q s.field _ _))))
            (λ g. rw (outside_stays q k w l p over (minus q 0 α) gone W U j t i (omega arith) b (omega arith)) (K.small j t i u v b))

        pub kept_step : Kept q h k w l (cs ++ (c ∷ [])) (set leads p (get_or leads p 0 + 1)) work'
        kept_step = record {
          basis = step F L S K.basis R pivot_is;
          least = least_step F L S K.least K.basis R pivot_is;
          small = small_at;
          clear = λ j t i u v b g. outside_stays q k w l p over (minus q 0 α) gone W U j t i (omega arith) b g ∙ K.clear j t i u v b g;
        }

module _ {q k w l : ℕ} (s : Shaped q k w l) (α : ℕ) (x y leads work values : List ℕ) (fit : Fit k w l leads)
    (G : (j : ℕ) → j < l + 1 → get_or values j 0 ≡ valued q k w l x y leads work j) where
  given : (j : ℕ) → In (space k w l) (get_or leads j 0) j → get_or values j 0 ≡ pairing q k w l x y (curve_at w l work j)
  given j v = G j (omega (arith, v.column)) ∙ sym (valued_alive q k w l x y leads work j v.inside)

  pub met_quiet : ((j : ℕ) → In (space k w l) (get_or leads j 0) j → get_or values j 0 ≡ 0) → Met q k w l α x y leads leads work work
  met_quiet z = record { fit = fit; keeps = λ r a b X Y h cs R K. kept_quiet s h α r a b x y X Y R K values given z }

  pub met_step : {p over : ℕ} {swept work' : List ℕ} → First k w l leads values p → p < length leads → p < length values →
      over ≡ inverse (ops q) (get_or values p 0) →
      Swept q k w l p over (set values p 0) (l + 1) work swept →
      Treated (raised_at q (minus q 0 α) w swept (p * slot w l)) (p * slot w l) k w (l + 1) swept work' →
      Met q k w l α x y leads (set leads p (get_or leads p 0 + 1)) work work'
  met_step {p} P u v o W U = record {
    fit = λ j b. by_cases (ℕ_discrete j p)
        (λ z. rw (z, get_or-set_same leads p (get_or leads p 0 + 1) 0 u) (omega (arith, P.alive.inside)))
        (λ z. rw (get_or-set_other leads p j (get_or leads p 0 + 1) 0 z) (fit j b));
    keeps = λ r a b X Y h cs R K. kept_step s h α r a b x y X Y R K values given P u v o W U;
  }
