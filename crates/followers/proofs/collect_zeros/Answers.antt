-- collect_zeros: of the first i symbols those with a zero are in the list.
use native.Mathlib.Omega.{arith}
use borrow.Author.Rules.{rules}
use Rattle.followers.proofs.Blocks.{zeros_none, room, collect_hit, collect_miss}
use Rattle.followers.proofs.collect_zeros.Goals as goal

pub loop-i-init : goal.loop-i-init
loop-i-init c = search (rules, zeros_none)

pub bounds-out-r : goal.bounds-out-r
bounds-out-r c = search (rules, room)

pub offset_bounds-out-r : goal.offset_bounds-out-r
offset_bounds-out-r c = grind (arith, room _ c.args.values.now _ c.loop-i.invariant)

pub overflow_add-r : goal.overflow_add-r
overflow_add-r c = grind (arith, room _ c.args.values.now _ c.loop-i.invariant)

pub loop-i-preserved : goal.loop-i-preserved
loop-i-preserved c =
    let x = c.args in
    let l = c.loop-i in
    grind (arith, collect_hit x.first x.values.now l.i l.invariant, collect_miss x.first x.values.now l.i l.invariant)
