-- Kötter's algorithm run to its end, on curves as functions: after the conditions of any triples there is a basis whose leading terms are least.
use mathlib.Core.Path.{◌≡◌, refl, sym, ap, subst}
use mathlib.Core.Logic.{◌⊎◌, inl, inr}
use mathlib.Core.List.{List, [], ◌∷◌, ◌++◌, map, flat_map, append-nil, append_assoc}
use Prim.Native.Nat.{ℕ, zero, suc, ◌<◌, ◌≤◌, ◌+◌, ◌-◌}
use native.Mathlib.Omega.{arith}
use native.Mathlib.Decide.{dec_le, dec_lt, ℕ_discrete}
use lib.ListN.{length}
use Rattle.rules.specs.Lists.{from, below, sum}
use Rattle.rules.specs.Field.{Ops, inverse}
use Rattle.rules.specs.Laws.{Laws}
use Rattle.rules.specs.Code.{Triple}
use Rattle.algebra.specs.Poly.{neg}
use Rattle.algebra.specs.Conditions.{Condition, condition, conditions_along, conditions_at, conditions, Ready}
use Rattle.algebra.specs.Space.{Space, In, rank, Curve, mix, value, Basis, Least, Pivot, raised, Best, LeastCurve}
use Rattle.algebra.proofs.Ring.{clears, decide}
use Rattle.algebra.proofs.Plan.{map_more, flat_more, ready}
use Rattle.algebra.proofs.Basis.{start, quiet, step, end}
use Rattle.algebra.proofs.Least.{least_start, least_quiet, least_step, least_curve}

-- the least of those below n that have A, or none has it
module _ (A : ℕ → Type 0) (dec : (i : ℕ) → Dec (A i)) (key : ℕ → ℕ) where
  record Min (n j : ℕ) : Type 0 where
    has : A j
    least : (i : ℕ) → i < n → A i → key j ≤ key i

  argmin : (n : ℕ) → ((i : ℕ) → i < n → ¬ (A i)) ⊎ ((j : ℕ) × Min n j)
  argmin zero = inl (λ i l. absurd (omega arith))
  argmin (suc n) = go (argmin n) (dec n)
    where
      upto : {P : ℕ → Type 0} → ((i : ℕ) → i < n → P i) → P n → (i : ℕ) → i < suc n → P i
      upto {P} f z i l = pick (ℕ_discrete i n)
        where
          pick : Dec (i ≡ n) → P i
          pick (yes e) = rw e z
          pick (no e) = f i (omega arith)

      go : ((i : ℕ) → i < n → ¬ (A i)) ⊎ ((j : ℕ) × Min n j) → Dec (A n) → ((i : ℕ) → i < suc n → ¬ (A i)) ⊎ ((j : ℕ) × Min (suc n) j)
      go (inl h) (no x) = inl (upto h x)
      go (inl h) (yes x) = inr (n, record { has = x; least = upto (λ i l a. absurd (h i l a)) (λ a. omega arith) })
      go (inr (j, m)) (no x) = inr (j, record { has = m.has; least = upto m.least (λ a. absurd (x a)) })
      go (inr (j, m)) (yes x) = by (dec_le (key j) (key n))
        where
          by : Dec (key j ≤ key n) → ((i : ℕ) → i < suc n → ¬ (A i)) ⊎ ((j : ℕ) × Min (suc n) j)
          by (yes l) = inr (j, record { has = m.has; least = upto m.least (λ a. l) })
          by (no l) = inr (n, record { has = x; least = upto (λ i k a. omega (arith, m.least i k a)) (λ a. omega arith) })

abbrev choose {ℓ} : {A : Type 0} {T : Type ℓ} → Dec A → T → T → T
choose (yes h) x y = x
choose (no h) x y = y

choose_yes {ℓ} : {A : Type 0} {T : Type ℓ} (e : Dec A) (x y : T) → A → choose e x y ≡ x
choose_yes (yes h) x y a = refl
choose_yes (no h) x y a = absurd (h a)

choose_no {ℓ} : {A : Type 0} {T : Type ℓ} (e : Dec A) (x y : T) → ¬ A → choose e x y ≡ y
choose_no (yes h) x y n = absurd (n h)
choose_no (no h) x y n = refl

module _ (O : Ops) (L : Laws O) (S : Space) where
  open O use {Symbol, nil, one, add, mul}

  alive? : (d : ℕ → ℕ) (j : ℕ) → Dec (In S (d j) j)
  alive? d j = go (dec_le j S.top) (dec_lt (d j + S.off j) S.wide)
    where
      go : Dec (j ≤ S.top) → Dec (d j + S.off j < S.wide) → Dec (In S (d j) j)
      go (yes a) (yes b) = yes (omega arith)
      go (no a) y = no (λ h. a h.column)
      go (yes a) (no b) = no (λ h. b h.inside)

  -- where some curve is alive there is a best
  best : (d : ℕ → ℕ) (k : ℕ) → In S (d k) k → (j : ℕ) × Best S d j
  best d k a = go (argmin (λ i. In S (d i) i) (alive? d) (λ i. rank S (d i) i) (suc S.top))
    where
      go : ((i : ℕ) → i < suc S.top → ¬ (In S (d i) i)) ⊎ ((j : ℕ) × Min (λ i. In S (d i) i) (alive? d) (λ i. rank S (d i) i) (suc S.top) j) →
          (j : ℕ) × Best S d j
      go (inl h) = absurd (h k (omega arith) a)
      go (inr (j, m)) = (j, record { alive = m.has; least = λ i b. m.least i (omega arith) b })

  record State (cs : List (Condition Symbol)) : Type 0 where
    d : ℕ → ℕ
    g : ℕ → Curve O
    basis : Basis O S cs d g
    least : Least O S cs d

  next : {cs : List (Condition Symbol)} (c : Condition Symbol) → Ready cs c → State cs → State (cs ++ (c ∷ []))
  next {cs} c r s = go (argmin Off off? key (suc S.top))
    where
      d : ℕ → ℕ
      d = s.d

      g : ℕ → Curve O
      g = s.g

      Off : ℕ → Type 0
      Off j = In S (d j) j × ¬ (value O S c (g j) ≡ nil)

      off? : (j : ℕ) → Dec (Off j)
      off? j = by (alive? d j) (decide O L (value O S c (g j)) nil)
        where
          by : Dec (In S (d j) j) → Dec (value O S c (g j) ≡ nil) → Dec (Off j)
          by (yes a) (no z) = yes (a, z)
          by (yes a) (yes z) = no (λ h. h.1 z)
          by (no a) z = no (λ h. a h.0)

      key : ℕ → ℕ
      key j = rank S (d j) j

      go : ((i : ℕ) → i < suc S.top → ¬ (Off i)) ⊎ ((j : ℕ) × Min Off off? key (suc S.top) j) → State (cs ++ (c ∷ []))
      go (inl h) = record { d = d; g = g; basis = quiet O L S s.basis c r (λ j a. calm j a (decide O L _ _)); least = least_quiet O L S s.least c }
        where
          calm : (j : ℕ) → In S (d j) j → Dec (value O S c (g j) ≡ nil) → value O S c (g j) ≡ nil
          calm j a (yes z) = z
          calm j a (no z) = absurd (h j (omega (arith, a.column)) (a, z))
      go (inr (p, m)) = record { d = d'; g = g'; basis = step O L S s.basis r P; least = least_step O L S s.least s.basis r P }
        where
          d' : ℕ → ℕ
          d' j = choose (ℕ_discrete j p) (suc (d p)) (d j)

          ratio : ℕ → Symbol
          ratio j = neg O (mul (value O S c (g j)) (inverse O (value O S c (g p))))

          g' : ℕ → Curve O
          g' j = choose (ℕ_discrete j p) (raised O c (g p)) (mix O (g j) (ratio j) (g p))

          P : Pivot O S c p d g d' g'
          P = record {
            alive = m.has.0;
            fails = m.has.1;
            first = λ j a z. m.least j (omega (arith, a.column)) (a, z);
            grow = choose_yes (ℕ_discrete p p) (suc (d p)) (d p) refl;
            stay = λ j l n. choose_no (ℕ_discrete j p) (suc (d p)) (d j) n;
            raise = λ a i t h. ap (λ f. f i t) (choose_yes (ℕ_discrete p p) (raised O c (g p)) (mix O (g p) (ratio p) (g p)) refl);
            ratio = ratio;
            clears = λ j a n. clears O L _ _ _ (L.mul_inverse _ m.has.1);
            reduce = λ j a n i t h. ap (λ f. f i t) (choose_no (ℕ_discrete j p) (raised O c (g p)) (mix O (g j) (ratio j) (g p)) n);
          }

  -- the conditions in their order, through b and a of each triple
  along : (cs : List (Condition Symbol)) (z : Triple Symbol) (b n : ℕ) → State cs → State (cs ++ map (condition z b) (below n))
  unfolding below from
  along cs z b zero s = subst State (sym (append-nil cs)) s
  along cs z b (suc n) s = subst State (sym (map_more cs (condition z b) n)) (next (condition z b n) (ready cs z b n) (along cs z b n s))

  at : (cs : List (Condition Symbol)) (z : Triple Symbol) (n : ℕ) → State cs → State (cs ++ flat_map (conditions_along z) (below n))
  unfolding below from flat_map conditions_along
  at cs z zero s = subst State (sym (append-nil cs)) s
  at cs z (suc n) s = subst State (sym (flat_more cs (conditions_along z) n))
      (along (cs ++ flat_map (conditions_along z) (below n)) z n (z.times - n) (at cs z n s))

  run : (zs : List (Triple Symbol)) (cs : List (Condition Symbol)) → State cs → State (cs ++ conditions zs)
  unfolding conditions conditions_at flat_map
  run [] cs s = subst State (sym (append-nil cs)) s
  run (z ∷ zs) cs s = subst State (append_assoc cs (conditions_at z) (conditions zs)) (run zs (cs ++ conditions_at z) (at cs z z.times s))

  -- Fewer conditions than terms have a least curve.
  pub solve : (zs : List (Triple Symbol)) → ((j : ℕ) → j ≤ S.top → S.off j ≤ S.wide) →
      length (conditions zs) < sum (λ t. S.wide - S.off t) (below (S.top + 1)) →
      (P : Curve O) × (a : ℕ) × (j : ℕ) × LeastCurve O S (conditions zs) P a j
  solve zs f l =
      let s = run zs [] (record { d = λ _. 0; g = power; basis = start O L S power f (λ j w. here j (ℕ_discrete j j)) apart; least = least_start O L S }) in
      let e = end O L S s.basis l in
      let b = best s.d e.0 e.1 in
      (s.g b.0, s.d b.0, b.0, least_curve O L S s.least s.basis b.1)
    where
      -- y^j
      power : ℕ → Curve O
      power j zero t = choose (ℕ_discrete t j) one nil
      power j (suc i) t = nil

      here : (j : ℕ) (e : Dec (j ≡ j)) → choose e one nil ≡ one
      here j e = choose_yes e one nil refl

      apart : (j i t : ℕ) → In S 0 j → In S i t → ¬ ((i ≡ 0) × (t ≡ j)) → power j i t ≡ nil
      apart j zero t v w n = choose_no (ℕ_discrete t j) one nil (λ e. n (refl, e))
      apart j (suc i) t v w n = refl
