-- weigh: the first i weights of the row are there, and last is the next one.
use mathlib.Core.Path.{◌≡◌}
use Prim.Native.Nat.{◌*◌}
use Rattle.rules.specs.Field.{ops}
use Rattle.algebra.specs.Conditions.{weight}
use Rattle.buffers.specs.Change.{Changed}
use Rattle.weights.proofs.weigh.Given as goal

abbrev pub invariant-loop-i : goal.invariant-loop-i
invariant-loop-i l =
    Changed (weight (ops l.field.q) l.alpha l.a) (l.a * 256) l.i l.initial.weights l.weights × (l.last ≡ weight (ops l.field.q) l.alpha l.a l.i)
