-- dot: the sum so far leaves the total so far, and each product adds less than 2 ^ 32.
use Rattle.std.proofs.Common.{◌≡◌, ◌%◌, length, arith, rules}
use Rattle.std.proofs.lemmas.Slice.Zip.{zip_turn}
use Rattle.std.proofs.lemmas.List.{length_push}
use Rattle.runs.specs.Runs.{products}
use Rattle.prime.proofs.Below.{modulus_two}
use Rattle.symbols.proofs.Reduce.{times_is, total_none, total_more}
use Rattle.runs.proofs.dot.Goals as goal

pub loop-x-init : goal.loop-x-init
loop-x-init c = (search rules, total_none _ _)

pub loop-x-preserved : goal.loop-x-preserved
loop-x-preserved c =
    let q = c.args.field.q in
    let a = c.args.a.now in
    let b = c.args.b.now in
    let l = c.loop-x in
    let n = length l.yielded in
    let z = zip_turn a b l.yielded c.into_iter-x-iterator.result l.x-iterator c.next.new.self _ (search rules) (search rules) l.yielded_by _ c.in-Some.is c.next.ensures.steps in
    let e : c.from-sum.result % q ≡ products q a b n = cc (times_is q c.in-Some.field-0-0.now c.in-Some.field-0-1.now, z.2 0, z.3 0) in
    rw length_push (omega arith, total_more q l.sum c.from-sum.result n _ l.invariant.1 e)

pub nonzero_rem-result : goal.nonzero_rem-result
nonzero_rem-result c = omega (arith, modulus_two c.args.field.q c.args.field.is_modulus)

pub overflow_cast-result : goal.overflow_cast-result
overflow_cast-result c = omega (arith, modulus_two c.args.field.q c.args.field.is_modulus)
