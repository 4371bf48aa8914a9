-- What the parts of the check of one triple decide.
use Rattle.std.specs.Prelude.{Bool, List, ℕ, ◌+◌, ◌-◌, ◌*◌, eqb, take, drop}
use Rattle.rules.specs.Lists.{below, all}
use Rattle.rules.specs.Field.{ops}
use Rattle.rules.specs.Code.{Triple}
use Rattle.rules.specs.Curve.{coefficient}
use Rattle.algebra.specs.Conditions.{condition}
use Rattle.algebra.specs.Space.{space, value}
use Rattle.weights.specs.Value.{pairing}

-- the first n weights of order a
abbrev pub line : ℕ → ℕ → List ℕ → List ℕ
line a n ws = take n (drop (a * 256) ws)

module _ (q k w l : ℕ) where
  -- the weights x, with those of each order below n in ys, make the curve zero
  unfoldable pub zero_with : ℕ → List ℕ → List ℕ → List ℕ → Bool
  zero_with n x ys c = all (λ b. eqb (pairing q k w l x (line b (l + 1) ys) c) 0) (below n)

  -- .. and so do those of all orders a in xs and b in ys, a + b < m
  unfoldable pub zero_below : ℕ → List ℕ → List ℕ → List ℕ → Bool
  zero_below m xs ys c = all (λ a. zero_with (m - a) (line a w xs) ys c) (below m)

  -- the curve meets the conditions of the triple
  unfoldable pub met : List ℕ → Triple ℕ → Bool
  met c z = all (λ a. all (λ b. eqb (value (ops q) (space k w l) (condition z b a) (coefficient (ops q) w c)) 0) (below (z.times - a))) (below z.times)
