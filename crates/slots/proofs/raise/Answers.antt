-- raise: the goals that the search leaves, by the lemmas of Slot.
use mathlib.Core.Path.{◌≡◌}
use Prim.Native.Nat.{◌+◌}
use Rattle.slots.proofs.Slot.{raise_more}
use native.Mathlib.Omega.{arith}
use Rattle.slots.proofs.raise.Goals as goal

pub loop-t-preserved : goal.loop-t-preserved
loop-t-preserved c =
    let a = c.args in
    let o = c.loop-t in
    raise_more a.shape.field.q _ a.shape.k a.shape.w a.at o.t o.invariant (rw c.row.ensures at c.shift_add.ensures)

pub returns : goal.returns
returns c = let o = c.loop-t in let z : o.t ≡ c.args.shape.l + 1 = omega arith in rw (z, c.sub-c.ensures) at o.invariant
