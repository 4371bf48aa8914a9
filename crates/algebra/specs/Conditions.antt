-- The conditions that triples lay on a curve, in the order in which they are met, and the weights that they are computed with.
use Rattle.std.specs.Prelude.{◌≡◌, ℕ, zero, suc, ◌-◌}
use mathlib.Core.List.{List, Memᴰ, map, flat_map}
use Rattle.rules.specs.Lists.{below}
use Rattle.rules.specs.Field.{Ops}
use Rattle.rules.specs.Code.{Triple}

-- the Hasse derivative (a, b) at this point and symbol is zero
pub record Condition (A : Type 0) : Type 0 where
  pub point : A
  pub symbol : A
  pub a : ℕ
  pub b : ℕ

-- the condition in another instance of the operations
abbrev pub carry : {A B : Type 0} → (A → B) → Condition A → Condition B
carry φ c = record { point = φ c.point; symbol = φ c.symbol; a = c.a; b = c.b }

module _ {A : Type 0} where
  unfoldable pub condition : Triple A → ℕ → ℕ → Condition A
  condition z b a = record { point = z.point; symbol = z.symbol; a = a; b = b }

  -- those of a triple with one b, a rising: (x − point)·Q gains each of them from the one before it
  unfoldable pub conditions_along : Triple A → ℕ → List (Condition A)
  conditions_along z b = map (condition z b) (below (z.times - b))

  -- those of a triple: a + b is below its multiplicity
  unfoldable pub conditions_at : Triple A → List (Condition A)
  conditions_at z = flat_map (conditions_along z) (below z.times)

  unfoldable pub conditions : List (Triple A) → List (Condition A)
  conditions zs = flat_map conditions_at zs

  -- the condition before c, the same with a smaller by one, is among these
  abbrev pub Ready : List (Condition A) → Condition A → Type 0
  Ready cs c = (a : ℕ) → c.a ≡ suc a → Memᴰ (record { point = c.point; symbol = c.symbol; a = a; b = c.b }) cs

  abbrev pub ConditionsOrdered : List (Condition A) → Type 0
  ConditionsOrdered cs = (c : Condition A) → Memᴰ c cs → Ready cs c

module _ (O : Ops) where
  open O use {Symbol, nil, one, add, mul}

  -- the coefficient of x^a in (x + α)^i, without binomials and powers
  unfoldable pub weight : Symbol → ℕ → ℕ → Symbol
  weight α zero zero = one
  weight α (suc a) zero = nil
  weight α zero (suc i) = mul α (weight α zero i)
  weight α (suc a) (suc i) = add (mul α (weight α (suc a) i)) (weight α a i)
