-- followers: of the symbols before the block those that may follow are in the list.
use native.Mathlib.Omega.{arith}
use Rattle.prime.proofs.Below.{modulus_small}
use Rattle.followers.specs.Slot.{curve}
use Rattle.followers.proofs.Blocks.{following_none, block, block_length, block_room}
use Rattle.followers.proofs.followers.Goals as goal

pub loop-first-init : goal.loop-first-init
loop-first-init c = let x = c.args in (omega arith, following_none x.rows.field.q (curve x.rows.w x.rows.l x.b x.work.now) x.out.now)

pub block_values-values-requires : goal.block_values-values-requires
block_values-values-requires c =
    (omega (arith, modulus_small c.args.rows.field.q c.args.rows.field.is_modulus), c.requires.0)

pub collect_zeros-count-requires : goal.collect_zeros-count-requires
collect_zeros-count-requires c =
    let m = c.args.rows.field.is_modulus in
    let v = c.block_values-values.ensures in
    let n = c.min-n.result in
    (omega (arith, block_length m v n (omega arith), modulus_small c.args.rows.field.q m), block_room m v n (omega arith) c.loop-first.invariant.1 (omega arith) c.requires.1)

pub loop-first-preserved : goal.loop-first-preserved
loop-first-preserved c =
    let v = c.block_values-values.ensures in
    (omega arith, block c.args.rows.field.is_modulus v c.min-n.result (omega arith) c.loop-first.invariant.1 c.collect_zeros-count.ensures (omega arith))

pub returns-2 : goal.returns-2
returns-2 c =
    let v = c.block_values-values.ensures in
    block c.args.rows.field.is_modulus v c.min-n.result (omega arith) c.loop-first.invariant.1 c.collect_zeros-count.ensures (omega arith)
