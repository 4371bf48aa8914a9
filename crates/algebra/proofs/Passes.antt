-- A flat curve passes exactly when it is not zero, its terms are those of the space, and it meets the conditions of the triples.
use mathlib.Core.Path.{◌≡◌, sym, ◌∙◌, ap}
use mathlib.Core.Bool.{Bool, true, false, not, ◌&&◌, ◌||◌}
use mathlib.Core.List.{List, Memᴰ}
use Prim.Native.Nat.{ℕ, ◌<◌, ◌≤◌, ◌+◌, ◌*◌, ◌-◌}
use native.Mathlib.Omega.{arith}
use native.Mathlib.Decide.{dec_lt}
use lib.Dec.{T, not_T, ltb, lt→ltb}
use Rattle.rules.specs.Lists.{all}
use Rattle.rules.specs.Field.{Ops}
use Rattle.rules.specs.Laws.{Laws}
use Rattle.rules.specs.Code.{Triple, zeros}
use Rattle.rules.specs.Curve.{coefficient, weighted, hasse, through, passes}
use Rattle.rules.proofs.Tests.{both, and, all_at, all_of, below_of}
use Rattle.algebra.specs.Poly.{coef}
use Rattle.algebra.specs.Conditions.{Condition, condition, conditions}
use Rattle.algebra.specs.Space.{space, value, Meets, Monic, Passing}
use Rattle.algebra.proofs.Ring.{mul_nil, same_if}
use Rattle.algebra.proofs.Total.{total_ext, total_cut}
use Rattle.algebra.proofs.Weight.{hasse_weights}
use Rattle.algebra.proofs.Rows.{zeros_zero}
use Rattle.algebra.proofs.Complete.{weighted_at, through_hasse}
use Rattle.algebra.proofs.Plan.{condition_mem, mem_condition}

module _ (O : Ops) (L : Laws O) where
  open O use {Symbol, nil, same, mul}

  module _ (W ℓ : ℕ) (Q : List Symbol) where
    through_if : (z : Triple Symbol) → ((a b : ℕ) → a + b < z.times → hasse O W ℓ Q z.point z.symbol a b ≡ nil) → T (through O W ℓ Q z)
    unfolding through
    through_if z h = below_of _ z.times (λ a l. below_of _ (z.times - a) (λ b m. same_if O L _ nil (h a b (omega arith))))

    module _ (k : ℕ) where
      pub weighted_if : ((t i : ℕ) → t < ℓ + 1 → i < W → W ≤ i + t * (k - 1) → coefficient O W Q i t ≡ nil) → T (weighted O k W ℓ Q)
      unfolding weighted
      weighted_if h = below_of _ (ℓ + 1) (λ t u. below_of _ W (λ i l. go t i u l (dec_lt (i + t * (k - 1)) W)))
        where
          or_left : (a b : Bool) → T a → T (a || b)
          or_left true b s = tt
          or_left false b s = elim s [ ]

          or_right : (a b : Bool) → T b → T (a || b)
          or_right true b s = tt
          or_right false b s = s

          go : (t i : ℕ) → t < ℓ + 1 → i < W → Dec (i + t * (k - 1) < W) → T (ltb (i + t * (k - 1)) W || same (coefficient O W Q i t) nil)
          go t i u l (yes g) = or_left (ltb (i + t * (k - 1)) W) _ (lt→ltb _ _ g)
          go t i u l (no g) = or_right (ltb (i + t * (k - 1)) W) _ (same_if O L _ nil (h t i u l (omega arith)))

      module _ (w : T (weighted O k W ℓ Q)) where
        -- outside the space there is nothing to add up
        pub hasse_value : (c : Condition Symbol) → hasse O W ℓ Q c.point c.symbol c.a c.b ≡ value O (space k W ℓ) c (coefficient O W Q)
        unfolding value coefficient
        hasse_value c =
            hasse_weights O L W ℓ Q c.point c.symbol c.a c.b
            ∙ total_ext O L (ℓ + 1) _ _ (λ t u. ap (mul _) (total_cut O L (W - t * (k - 1)) W _ (omega arith)
            (λ i l g. ap (mul _) (weighted_at O L k W ℓ Q w t i u g (omega arith)) ∙ mul_nil O L _)))

        meets_through : (zs : List (Triple Symbol)) → T (all (through O W ℓ Q) zs) → Meets O (space k W ℓ) (conditions zs) (coefficient O W Q)
        unfolding condition
        meets_through zs t = record { each = λ c m. go c (mem_condition zs m) }
          where
            go : (c : Condition Symbol) → (z : Triple Symbol) × Memᴰ z zs × (a : ℕ) × (b : ℕ) × (a + b < z.times) × (c ≡ condition z b a) →
                value O (space k W ℓ) c (coefficient O W Q) ≡ nil
            go c (z, m, a, b, l, e) = ap (λ c. value O (space k W ℓ) c (coefficient O W Q)) e ∙ sym (hasse_value (condition z b a))
                ∙ through_hasse O L W ℓ Q z (all_at (through O W ℓ Q) z zs t m) a b l

        through_meets : (zs : List (Triple Symbol)) → Meets O (space k W ℓ) (conditions zs) (coefficient O W Q) → T (all (through O W ℓ Q) zs)
        unfolding condition
        through_meets zs s = all_of (through O W ℓ Q) zs (λ z m. through_if z (λ a b l. hasse_value (condition z b a) ∙ s.each _ (condition_mem zs m a b l)))

  module _ (k W ℓ : ℕ) (zs : List (Triple Symbol)) (Q : List Symbol) where
    pub passes_if : Passing O k W ℓ zs Q → T (passes O k W ℓ zs Q)
    unfolding passes
    passes_if p =
        and (not (zeros O Q) && weighted O k W ℓ Q) (all (through O W ℓ Q) zs) (and (not (zeros O Q)) (weighted O k W ℓ Q) p.some p.within)
        (through_meets W ℓ Q k p.within zs p.meets)

    pub passes_says : T (passes O k W ℓ zs Q) → Passing O k W ℓ zs Q
    unfolding passes
    passes_says t =
        let r = both (not (zeros O Q) && weighted O k W ℓ Q) (all (through O W ℓ Q) zs) t in
        let s = both (not (zeros O Q)) (weighted O k W ℓ Q) r.0 in
        record { some = s.0; within = s.1; meets = meets_through W ℓ Q k s.1 zs r.1 }

    -- a curve found passes: it leads with one
    pub passes_found : {i t : ℕ} → ((t i : ℕ) → t < ℓ + 1 → i < W → W ≤ i + t * (k - 1) → coefficient O W Q i t ≡ nil) →
        Monic O (space k W ℓ) (coefficient O W Q) i t → Meets O (space k W ℓ) (conditions zs) (coefficient O W Q) → T (passes O k W ℓ zs Q)
    unfolding coefficient coef
    passes_found {i} {t} h M s = passes_if (record {
      some = not_T (zeros O Q) (λ z. L.one_nil (sym M.lead ∙ (zeros_zero O L Q).0 z (t * W + i)));
      within = weighted_if W ℓ Q k h;
      meets = s;
    })
