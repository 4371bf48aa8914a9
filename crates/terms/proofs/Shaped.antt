-- The numbers of an accepted setting shape its curves.
use native.Mathlib.Omega.{arith}
use Rattle.rules.specs.Setting.{Setting, W, ℓ}
use Rattle.setting.specs.Accepted.{Accepted}
use Rattle.weights.specs.Shape.{Shaped}

pub shaped : {S : Setting} → Accepted S → Shaped S.p S.k (W S) (ℓ S)
shaped a = record {
  field = a.passed.prime;
  two = a.passed.ranged.code.k_least;
  short = omega arith;
  some = omega arith;
  narrow = omega arith;
  rises = omega arith;
  few = omega arith;
  fits = a.last_row;
}
