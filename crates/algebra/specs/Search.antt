-- The root search in the shape in which code runs it, and what is said of a curve that is a list of rows.
use Rattle.std.specs.Prelude.{◌≡◌, cond, ℕ, zero, suc, ◌<◌, ◌≤◌, ◌+◌, ◌*◌, get_or}
use mathlib.Core.List.{List, [], ◌∷◌, map, flat_map}
use Rattle.rules.specs.Lists.{sum}
use Rattle.rules.specs.Field.{Ops}
use Rattle.rules.specs.Code.{zeros}
use Rattle.rules.specs.Search.{firsts, stripped, step, follows}
use Rattle.algebra.specs.Poly.{Short, Zero, coef}

module _ (O : Ops) where
  open O use {Symbol, nil, symbols}

  -- the coefficient of x^i·y^t
  unfoldable pub cell : List (List Symbol) → ℕ → ℕ → Symbol
  cell Q t i = coef O (get_or Q t []) i

  -- the curve that the beginning longer by g is alive with
  abbrev pub next : Symbol → List (List Symbol) → List (List Symbol)
  next g Q = stripped O (step O g Q)

  -- the messages of k symbols at which the search arrives from Q: a beginning of all k symbols is a root when its curve is zero at y = 0
  unfoldable pub found : ℕ → List (List Symbol) → List (List Symbol)
  found zero Q = cond (zeros O (get_or Q 0 [])) ([] ∷ []) []
  found (suc k) Q = flat_map (λ g. cond (follows O Q g) (map (◌∷◌ g) (found k (next g Q))) []) symbols

  -- the beginnings that the search tries from Q on, with k symbols still to place
  unfoldable pub tried : ℕ → List (List Symbol) → ℕ
  tried zero Q = 1
  tried (suc k) Q = 1 + sum (λ g. cond (follows O Q g) (tried k (next g Q)) 0) symbols

  -- Q(0, y) is not zero, and of degree d at the most
  pub record Headed (d : ℕ) (Q : List (List Symbol)) : Type 0 where
    pub live : ¬ Zero O (firsts O Q)
    pub short : Short O (suc d) (coef O (firsts O Q))

  -- S is P over x^v, and x^v the greatest power that divides P, of those up to n. P and S are given by their coefficients
  pub record Stripped (n : ℕ) (P S : ℕ → ℕ → Symbol) : Type 0 where
    pub v : ℕ
    pub small : v ≤ n
    pub moved : (t i : ℕ) → S t i ≡ P t (i + v)
    pub clear : (t i : ℕ) → i < v → P t i ≡ nil
    pub stop : v < n → ¬ ((t : ℕ) → P t v ≡ nil)

  -- the coefficients with i + t·e ≥ W are zero
  abbrev pub Within : ℕ → ℕ → List (List Symbol) → Type 0
  Within e W Q = (t i : ℕ) → W ≤ i + t * e → cell Q t i ≡ nil
