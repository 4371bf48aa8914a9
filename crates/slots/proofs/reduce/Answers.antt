-- reduce: the goals that the search leaves, by the lemmas of Slot.
use mathlib.Core.Path.{◌≡◌}
use Prim.Native.Nat.{◌+◌}
use Rattle.slots.proofs.Slot.{reduce_more}
use native.Mathlib.Omega.{arith}
use Rattle.slots.proofs.reduce.Goals as goal

pub loop-t-preserved : goal.loop-t-preserved
loop-t-preserved c =
    let a = c.args in
    let o = c.loop-t in
    reduce_more a.shape.field.q a.c a.shape.k a.shape.w a.shape.l a.from a.to o.t c.requires.0 (omega arith) o.invariant (rw c.row.ensures at c.add_within.ensures)

pub returns : goal.returns
returns c = let o = c.loop-t in let z : o.t ≡ c.args.shape.l + 1 = omega arith in rw z at o.invariant
