-- dot: the sum of the products so far is small and leaves the total so far.
use Rattle.std.proofs.Common.{◌≡◌, ◌*◌, ◌^◌, ◌%◌, ◌≤◌, length}
use Rattle.rules.specs.Curve.{total}
use Rattle.rules.specs.Field.{ops}
use Rattle.runs.specs.Runs.{products}
use Rattle.runs.proofs.dot.Given as goal

abbrev pub invariant-loop-x : goal.invariant-loop-x
invariant-loop-x l =
    (l.sum ≤ length l.yielded * 2 ^ 32) × (l.sum % l.field.q ≡ total (ops l.field.q) (length l.yielded) (products l.field.q l.a l.b))
