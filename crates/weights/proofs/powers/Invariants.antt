-- powers: the first powers are there, and last is the next one.
use mathlib.Core.Path.{◌≡◌}
use Rattle.rules.specs.Field.{ops}
use Rattle.algebra.specs.Conditions.{weight}
use Rattle.buffers.specs.Change.{Changed}
use Rattle.weights.proofs.powers.Given as goal

abbrev pub invariant-loop-weight : goal.invariant-loop-weight
invariant-loop-weight l =
    Changed (weight (ops l.field.q) l.alpha 0) 0 l.weight-index l.initial.weight-items l.weight-items × (l.last ≡ weight (ops l.field.q) l.alpha 0 l.weight-index)
