-- Where a curve passes, every message that scores enough is a root of it, so that the sifted roots are the readings.
use mathlib.Core.Path.{◌≡◌, refl, sym, ◌∙◌, ap}
use mathlib.Core.Bool.{Bool, true, false, cond, not, ◌&&◌, ◌||◌}
use mathlib.Core.List.{List, [], ◌∷◌, ◌++◌, map, flat_map}
use mathlib.Core.Logic.{by_cases}
use Prim.Native.Nat.{ℕ, zero, suc, ◌+◌, ◌-◌, ◌*◌, ◌≤◌, ◌<◌}
use native.Mathlib.Decide.{dec_lt}
use native.Mathlib.Omega.{arith}
use lib.Dec.{T, ltb, leb→le, ltb→lt}
use lib.ListN.{length, get_or, take, drop, length-take, get_or-eq_default}
use lib.Seq.{get_or-take, get_or-drop}
use Rattle.rules.specs.Lists.{below, all, keep, sum}
use Rattle.rules.specs.Field.{Ops}
use Rattle.rules.specs.Laws.{Laws}
use Rattle.rules.specs.Code.{Triple, zeros, eval, meets, score, messages, sifted, scoring}
use Rattle.rules.specs.Curve.{coefficient, weighted, hasse, through, passes}
use Rattle.rules.specs.Search.{rows, along, roots, listed}
use Rattle.rules.proofs.Tests.{both, either, below_at, or_else}
use Rattle.algebra.specs.Poly.{Short, coef, taylor²}
use Rattle.algebra.specs.Points.{Root, count, Away, Distinct, places, Roots, Apart, Differ}
use Rattle.algebra.proofs.Seq.{plus_short, act_fits, none_at}
use Rattle.algebra.proofs.Taylor.{coef_nil, coef_sum, coef_product}
use Rattle.algebra.proofs.Roots.{root_count_short}
use Rattle.algebra.proofs.Along.{along_nil, along_cons, along_val}
use Rattle.algebra.proofs.Rows.{zeros_zero}
use Rattle.algebra.proofs.Hasse.{hasse_taylor}

-- each of a list
abbrev pub All : {A : Type 0} → (A → Type 0) → List A → Type 0
All P [] = Unit {0}
All P (x ∷ xs) = P x × All P xs

pub all_append : {A : Type 0} (P : A → Type 0) (xs ys : List A) → All P xs → All P ys → All P (xs ++ ys)
all_append P [] ys a b = b
all_append P (x ∷ xs) ys a b = (a.0, all_append P xs ys a.1 b)

off : {A : Type 0} (b : Bool) (x y : A) → ¬ (T b) → cond b x y ≡ y
off true x y n = absurd (n tt)
off false x y n = refl

-- keeping by both tests is keeping by the second, where all that passes the second passes the first
keep_keep : {A : Type 0} (P : A → Type 0) (test test' : A → Bool) → ((x : A) → P x → T (test' x) → T (test x)) → (xs : List A) → All P xs →
    keep test' (keep test xs) ≡ keep test' xs
unfolding keep
keep_keep P test test' h [] a = refl
keep_keep P test test' h (x ∷ xs) a = go (test x) (h x a.0) (keep_keep P test test' h xs a.1)
  where
    go : (b : Bool) → (T (test' x) → T b) → keep test' (keep test xs) ≡ keep test' xs →
        keep test' (cond b (x ∷ keep test xs) (keep test xs)) ≡ cond (test' x) (x ∷ keep test' xs) (keep test' xs)
    go true k e = ap (λ ys. cond (test' x) (x ∷ ys) ys) e
    go false k e = e ∙ sym (off (test' x) _ _ k)

module _ (O : Ops) where
  open O use {Symbol}

  cons_long : (k : ℕ) (g : Symbol) (fs : List (List Symbol)) → All (λ f. length f ≡ k) fs → All (λ f. length f ≡ suc k) (map (◌∷◌ g) fs)
  cons_long k g [] a = tt
  cons_long k g (f ∷ fs) a = (ap suc a.0, cons_long k g fs a.1)

  flat_long : (k : ℕ) (fs : List (List Symbol)) (gs : List Symbol) → All (λ f. length f ≡ k) fs → All (λ f. length f ≡ suc k) (flat_map (λ g. map (◌∷◌ g) fs) gs)
  unfolding flat_map
  flat_long k fs [] a = tt
  flat_long k fs (g ∷ gs) a = all_append (λ f. length f ≡ suc k) (map (◌∷◌ g) fs) _ (cons_long k g fs a) (flat_long k fs gs a)

  pub messages_long : (k : ℕ) → All (λ f. length f ≡ k) (messages O k)
  unfolding messages
  messages_long zero = (refl, tt)
  messages_long (suc k) = flat_long k (messages O k) O.symbols (messages_long k)

module _ (O : Ops) (L : Laws O) where
  open O use {Symbol, nil, same}

  -- The degree of Q(x, f(x)): the row at y^t is short by t·d, and f has at most d + 1 coefficients.

  abbrev Fits : ℕ → ℕ → List (List Symbol) → Type 0
  Fits d B [] = Unit {0}
  Fits d B (q ∷ Q) = Short O B (coef O q) × Fits d (B - d) Q

  along_short : (d : ℕ) (f : List Symbol) → length f ≤ suc d → (Q : List (List Symbol)) (B : ℕ) → Fits d B Q → Short O B (coef O (along O Q f))
  along_short d f l [] B h = λ i g. rw (along_nil, coef_nil) (none_at O L i)
  along_short d f l (q ∷ Q) B h =
      rw (along_cons, coef_sum, coef_product) (plus_short O L B _ _ h.0 (act_fits O L B d f _ l (along_short d f l Q (B - d) h.1)))

  module _ (d W : ℕ) where
    short : (B : ℕ) (Q : List Symbol) → ((i : ℕ) → i < W → B ≤ i → get_or Q i nil ≡ nil) → Short O B (coef O (take W Q))
    unfolding coef
    short B Q h i g = by_cases (dec_lt i W)
        (λ l. get_or-take W Q i nil l ∙ h i l g)
        (λ n. get_or-eq_default (take W Q) nil (omega (arith, length-take W Q)))

    fits : (n B : ℕ) (Q : List Symbol) → ((t i : ℕ) → t < n → i < W → B ≤ i + t * d → get_or Q (t * W + i) nil ≡ nil) → Fits d B (rows W n Q)
    unfolding rows
    fits zero B Q h = tt
    fits (suc n) B Q h = (
      short B Q (λ i l g. ap (λ j. get_or Q j nil) (first i) ∙ h 0 i (omega arith) l (omega arith)),
      fits n (B - d) (drop W Q) (λ t i u l g. get_or-drop W Q (t * W + i) nil ∙ ap (λ j. get_or Q j nil) (place t i) ∙ h (suc t) i (omega arith) l (omega arith)),
    )
      where
        first : (i : ℕ) → i ≡ 0 * W + i
        first i = omega arith

        place : (t i : ℕ) → W + (t * W + i) ≡ suc t * W + i
        place t i = omega arith

  pub weighted_at : (k W ℓ : ℕ) (Q : List Symbol) → T (weighted O k W ℓ Q) → (t i : ℕ) → t < ℓ + 1 → i < W → W ≤ i + t * (k - 1) → get_or Q (t * W + i) nil ≡ nil
  unfolding weighted coefficient
  weighted_at k W ℓ Q w t i u l g =
      L.same_eq _ nil (or_else (ltb (i + t * (k - 1)) W) (same (get_or Q (t * W + i) nil) nil)
      (below_at (λ i. ltb (i + t * (k - 1)) W || same (get_or Q (t * W + i) nil) nil) W i
      (below_at (λ t. all (λ i. ltb (i + t * (k - 1)) W || same (get_or Q (t * W + i) nil) nil) (below W)) (ℓ + 1) t w u) l)
      (λ c. let h : i + t * (k - 1) < W = ltb→lt (i + t * (k - 1)) W c in omega arith))

  -- The triples that a message meets are roots of Q(x, f(x)), as often as they say.

  pub through_hasse : (W ℓ : ℕ) (Q : List Symbol) (z : Triple Symbol) → T (through O W ℓ Q z) → (a b : ℕ) → a + b < z.times →
      hasse O W ℓ Q z.point z.symbol a b ≡ nil
  unfolding through
  through_hasse W ℓ Q z t a b h =
      L.same_eq _ nil (below_at _ (z.times - a) b
      (below_at (λ a. all (λ b. same (hasse O W ℓ Q z.point z.symbol a b) nil) (below (z.times - a))) z.times a t (omega arith)) (omega arith))

  through_at : (W ℓ : ℕ) (Q : List Symbol) (z : Triple Symbol) → T (through O W ℓ Q z) → (a b : ℕ) → a + b < z.times →
      taylor² O z.point z.symbol a b (rows W (ℓ + 1) Q) ≡ nil
  through_at W ℓ Q z t a b h = sym (hasse_taylor O L W ℓ Q z.point z.symbol a b) ∙ through_hasse W ℓ Q z t a b h

  module _ (f : List Symbol) where
    -- the triples that the message meets, as roots
    met : List (Triple Symbol) → List (Root O)
    met [] = []
    met (z ∷ zs) = cond (meets O f z) (record { place = z.point; times = z.times } ∷ met zs) (met zs)

    meets_eq : (z : Triple Symbol) → T (meets O f z) → eval O f z.point ≡ z.symbol
    unfolding meets
    meets_eq z t = L.same_eq _ _ t

    score_met : (zs : List (Triple Symbol)) → score O zs f ≡ count O (met zs)
    unfolding score sum met
    score_met [] = refl
    score_met (z ∷ zs) = go (meets O f z) (score_met zs)
      where
        go : (b : Bool) → score O zs f ≡ count O (met zs) →
            cond b z.times 0 + score O zs f ≡ count O (cond b (record { place = z.point; times = z.times } ∷ met zs) (met zs))
        go true e = ap (◌+◌ z.times) e
        go false e = omega (arith, e)

    met_roots : (W ℓ : ℕ) (Q : List Symbol) (zs : List (Triple Symbol)) → T (all (through O W ℓ Q) zs) → Roots O (along O (rows W (ℓ + 1) Q) f) (met zs)
    unfolding all met
    met_roots W ℓ Q [] t = tt
    met_roots W ℓ Q (z ∷ zs) t =
        let r = both (through O W ℓ Q z) (all (through O W ℓ Q) zs) t in
        let k = met_roots W ℓ Q zs r.1 in
        either (Roots O (along O (rows W (ℓ + 1) Q) f)) _ _ (meets O f z)
        (λ e. (along_val O L (rows W (ℓ + 1) Q) f z.point z.times (rw (meets_eq z e) (through_at W ℓ Q z r.0)), k)) (λ n. k)

    met_away : (z : Triple Symbol) → eval O f z.point ≡ z.symbol → (zs : List (Triple Symbol)) → Apart O z zs → Away O z.point (places O (met zs))
    unfolding met
    met_away z e [] h = tt
    met_away z e (w ∷ zs) h =
        let k = met_away z e zs h.1 in
        either (λ rs. Away O z.point (places O rs)) _ _ (meets O f w) (λ g. (λ q. h.0 q (sym (meets_eq w g) ∙ ap (eval O f) q ∙ e), k)) (λ n. k)

    -- a message has one value at a point, so that the points it meets are distinct
    met_distinct : (zs : List (Triple Symbol)) → Differ O zs → Distinct O (places O (met zs))
    unfolding met
    met_distinct [] h = tt
    met_distinct (z ∷ zs) h =
        let k = met_distinct zs h.1 in
        either (λ rs. Distinct O (places O rs)) _ _ (meets O f z) (λ e. (met_away z (meets_eq z e) zs h.0, k)) (λ n. k)

  module _ (k W ℓ : ℕ) (zs : List (Triple Symbol)) (Q : List Symbol) (h : 0 < k) (t : T (passes O k W ℓ zs Q)) (u : Differ O zs) where
    -- a message that scores W is a root
    pub complete : (f : List Symbol) → length f ≡ k → W ≤ score O zs f → T (zeros O (along O (rows W (ℓ + 1) Q) f))
    unfolding passes
    complete f e g =
        let r = both (not (zeros O Q) && weighted O k W ℓ Q) (all (through O W ℓ Q) zs) t in
        let w = (both (not (zeros O Q)) (weighted O k W ℓ Q) r.0).1 in
        (zeros_zero O L _).1 (root_count_short O L W (along O (rows W (ℓ + 1) Q) f) (met f zs)
        (along_short (k - 1) f (omega arith) (rows W (ℓ + 1) Q) W (fits (k - 1) W (ℓ + 1) W Q (weighted_at k W ℓ Q w)))
        (met_distinct f zs u) (met_roots f W ℓ Q zs r.1) (omega (arith, score_met f zs)))

    -- the roots, sifted, are all messages that score W
    pub listed_scoring : listed O k W zs (rows W (ℓ + 1) Q) ≡ scoring O k W zs
    unfolding listed scoring sifted roots
    listed_scoring = keep_keep (λ f. length f ≡ k) _ _ (λ f e g. complete f e (leb→le W (score O zs f) g)) (messages O k) (messages_long O k)
