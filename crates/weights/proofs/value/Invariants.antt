-- value: sum is the total of the first t rows.
use mathlib.Core.Path.{◌≡◌}
use Rattle.rules.specs.Field.{ops}
use Rattle.rules.specs.Curve.{total}
use Rattle.weights.specs.Value.{share}
use Rattle.weights.proofs.value.Given as goal

abbrev pub invariant-loop-t : goal.invariant-loop-t
invariant-loop-t l = l.sum ≡ total (ops l.shape.field.q) l.t (share l.shape.field.q l.shape.k l.shape.w l.x l.y l.curve.numbers.now)
