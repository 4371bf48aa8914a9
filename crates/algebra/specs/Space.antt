-- Curves of bounded weighted degree, the order of their terms, and Kötter's algorithm: what holds of its curves after some conditions, and its step.
use Rattle.std.specs.Prelude.{◌≡◌, not, ℕ, zero, suc, ◌<◌, ◌≤◌, ◌+◌, ◌*◌, ◌-◌, T, length}
use mathlib.Core.List.{List, Memᴰ}
use Rattle.rules.specs.Lists.{below, sum}
use Rattle.rules.specs.Field.{Ops}
use Rattle.rules.specs.Code.{Triple, zeros}
use Rattle.rules.specs.Curve.{total, coefficient, weighted, passes}
use Rattle.algebra.specs.Poly.{neg}
use Rattle.algebra.specs.Conditions.{Condition, conditions, ConditionsOrdered, weight}

-- The terms x^i·y^t with t ≤ top and i + off t < wide.
pub record Space : Type 0 where
  pub top : ℕ
  pub wide : ℕ
  pub off : ℕ → ℕ

pub record In (S : Space) (i t : ℕ) : Type 0 where
  pub column : t ≤ S.top
  pub inside : i + S.off t < S.wide

-- the terms that document 01 leaves to a curve: i + t·(k−1) < W, t ≤ ℓ
abbrev pub space : ℕ → ℕ → ℕ → Space
space k W ℓ = record { top = ℓ; wide = W; off = λ t. t * (k - 1) }

-- the order of terms as one number: by weight, then by the degree in y
unfoldable pub rank : Space → ℕ → ℕ → ℕ
rank S i t = (i + S.off t) * suc S.top + t

-- of the curves whose leading terms x^(d j)·y^j are in the space, j has the least
pub record Best (S : Space) (d : ℕ → ℕ) (j : ℕ) : Type 0 where
  pub alive : In S (d j) j
  pub least : (i : ℕ) → In S (d i) i → rank S (d j) j ≤ rank S (d i) i

module _ (O : Ops) where
  open O use {Symbol, nil, one, add, mul}

  -- the coefficient of x^i·y^t, for each i and t
  abbrev pub Curve : Type 0
  Curve = ℕ → ℕ → Symbol

  -- P + q·Q
  abbrev pub mix : Curve → Symbol → Curve → Curve
  mix P q Q = λ i t. add (P i t) (mul q (Q i t))

  -- x·Q
  abbrev pub shift : Curve → Curve
  shift Q zero t = nil
  shift Q (suc i) t = Q i t

  -- (x − point)·Q
  abbrev pub raised : Condition Symbol → Curve → Curve
  raised c Q = mix (shift Q) (neg O c.point) Q

  module _ (S : Space) where
    -- equal at every term of the space
    abbrev pub Same : Curve → Curve → Type 0
    Same P Q = (i t : ℕ) → In S i t → P i t ≡ Q i t

    -- no term of rank r or more
    abbrev pub Below : Curve → ℕ → Type 0
    Below Q r = (i t : ℕ) → In S i t → r ≤ rank S i t → Q i t ≡ nil

    -- x·Q is in the space too
    abbrev pub Room : Curve → Type 0
    Room Q = (i t : ℕ) → In S i t → S.wide ≤ suc i + S.off t → Q i t ≡ nil

    -- the condition's Hasse derivative of a curve, over the terms of the space
    unfoldable pub value : Condition Symbol → Curve → Symbol
    value c Q = total O (S.top + 1) (λ t.
        mul (weight O c.symbol c.b t) (total O (S.wide - S.off t) (λ i. mul (weight O c.point c.a i) (Q i t))))

    pub record Meets (cs : List (Condition Symbol)) (Q : Curve) : Type 0 where
      pub each : (c : Condition Symbol) → Memᴰ c cs → value c Q ≡ nil

    -- the greatest term of Q is (a, j)
    pub record Top (Q : Curve) (a j : ℕ) : Type 0 where
      pub within : In S a j
      pub some : ¬ (Q a j ≡ nil)
      pub rest : Below Q (suc (rank S a j))

    -- the greatest term of Q is (a, j), with coefficient one
    pub record Monic (Q : Curve) (a j : ℕ) : Type 0 where
      pub within : In S a j
      pub lead : Q a j ≡ one
      pub rest : Below Q (suc (rank S a j))

    -- The curves g after the conditions cs. Curve j is alive where its leading term x^(d j)·y^j is in the space.
    pub record Basis (cs : List (Condition Symbol)) (d : ℕ → ℕ) (g : ℕ → Curve) : Type 0 where
      pub order : ConditionsOrdered cs
      pub fit : (j : ℕ) → j ≤ S.top → d j + S.off j ≤ S.wide
      pub monic : (j : ℕ) → In S (d j) j → Monic (g j) (d j) j
      pub meets : (j : ℕ) → In S (d j) j → Meets cs (g j)
      pub size : sum d (below (S.top + 1)) ≤ length cs

    -- every curve that meets the conditions has its greatest term at or above the leading term of its column
    abbrev pub Least : List (Condition Symbol) → (ℕ → ℕ) → Type 0
    Least cs d = (Q : Curve) (a j : ℕ) → Meets cs Q → Top Q a j → d j ≤ a

    -- one step for the condition c: of the alive curves that miss it, p has the least leading term
    pub record Pivot (c : Condition Symbol) (p : ℕ) (d : ℕ → ℕ) (g : ℕ → Curve) (d' : ℕ → ℕ) (g' : ℕ → Curve) : Type 0 where
      pub alive : In S (d p) p
      pub fails : ¬ (value c (g p) ≡ nil)
      pub first : (j : ℕ) → In S (d j) j → ¬ (value c (g j) ≡ nil) → rank S (d p) p ≤ rank S (d j) j
      pub grow : d' p ≡ suc (d p)
      pub stay : (j : ℕ) → j ≤ S.top → ¬ (j ≡ p) → d' j ≡ d j
      pub raise : In S (d' p) p → Same (g' p) (raised c (g p))
      pub ratio : ℕ → Symbol
      pub clears : (j : ℕ) → In S (d j) j → ¬ (j ≡ p) → add (value c (g j)) (mul (ratio j) (value c (g p))) ≡ nil
      pub reduce : (j : ℕ) → In S (d j) j → ¬ (j ≡ p) → Same (g' j) (mix (g j) (ratio j) (g p))

    -- the least curve that meets the conditions, and the only one of its greatest term
    pub record LeastCurve (cs : List (Condition Symbol)) (P : Curve) (a j : ℕ) : Type 0 where
      pub monic : Monic P a j
      pub meets : Meets cs P
      pub least : (Q : Curve) (i t : ℕ) → Meets cs Q → Top Q i t → rank S a j ≤ rank S i t
      pub only : (Q : Curve) → Meets cs Q → Monic Q a j → Same Q P

  -- what passing says: the curve is not zero, its terms are those of the space, and it meets the conditions of the triples
  pub record Passing (k W ℓ : ℕ) (zs : List (Triple Symbol)) (Q : List Symbol) : Type 0 where
    pub some : T (not (zeros O Q))
    pub within : T (weighted O k W ℓ Q)
    pub meets : Meets (space k W ℓ) (conditions zs) (coefficient O W Q)

  -- of the curves that pass, Q has the least greatest term, the coefficient one there, and is the only such curve
  pub record Chosen (k W ℓ : ℕ) (zs : List (Triple Symbol)) (Q : List Symbol) : Type 0 where
    pub long : length Q ≡ (ℓ + 1) * W
    pub passing : T (passes O k W ℓ zs Q)
    pub i : ℕ
    pub t : ℕ
    pub monic : Monic (space k W ℓ) (coefficient O W Q) i t
    pub least : (P : List Symbol) (a j : ℕ) → T (passes O k W ℓ zs P) → Top (space k W ℓ) (coefficient O W P) a j →
        rank (space k W ℓ) i t ≤ rank (space k W ℓ) a j
    pub only : (P : List Symbol) → length P ≡ (ℓ + 1) * W → T (passes O k W ℓ zs P) → Monic (space k W ℓ) (coefficient O W P) i t → P ≡ Q
