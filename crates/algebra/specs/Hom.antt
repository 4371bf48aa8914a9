-- A map between two instances of the operations that keeps them.
use Rattle.std.specs.Prelude.{◌≡◌, map, ℕ}
use Rattle.rules.specs.Field.{Ops}
use Rattle.rules.specs.Code.{Triple}

pub record Hom (O O' : Ops) (φ : O.Symbol → O'.Symbol) : Type 0 where
  pub nil : φ O.nil ≡ O'.nil
  pub one : φ O.one ≡ O'.one
  pub add : (a b : O.Symbol) → φ (O.add a b) ≡ O'.add (φ a) (φ b)
  pub mul : (a b : O.Symbol) → φ (O.mul a b) ≡ O'.mul (φ a) (φ b)
  pub of_nat : (n : ℕ) → φ (O.of_nat n) ≡ O'.of_nat n
  pub same : (a b : O.Symbol) → O.same a b ≡ O'.same (φ a) (φ b)
  pub symbols : map φ O.symbols ≡ O'.symbols

-- the triple in the other instance
abbrev pub move : {A B : Type 0} → (A → B) → Triple A → Triple B
move φ z = record { point = φ z.point; symbol = φ z.symbol; times = z.times }
