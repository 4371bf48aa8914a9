-- score: the turn at place j adds the share of that triple, and behind the last there is nothing.
use lib.ListN.{length}
use Rattle.std.proofs.lemmas.List.{length_push}
use Rattle.runs.proofs.Places.{under_at}
use Rattle.weights.proofs.Turns.{turn, turns}
use Rattle.sift.proofs.Scoring.{behind_more, behind_none}
use native.Mathlib.Omega.{arith}
use Rattle.sift.proofs.score.Goals as goal

pub share-sum-requires : goal.share-sum-requires
share-sum-requires c =
    let z = c.args.triples in
    let p = turn z c.into_iter-point-iterator.result _ c.next.new.self _ _ c.loop-point.yielded_by c.next.ensures.steps (cc) (cc) (cc) _ c.in-Some.is in
    rw p.2 (under_at _ z.word.now c.requires.1 (length c.loop-point.yielded) (omega (arith, z.symbols, p.0)))

pub loop-point-preserved : goal.loop-point-preserved
loop-point-preserved c =
    let z = c.args.triples in
    let o = c.loop-point in
    let p = turn z c.into_iter-point-iterator.result _ c.next.new.self _ _ o.yielded_by c.next.ensures.steps (cc) (cc) (cc) _ c.in-Some.is in
    rw (length_push o.yielded _) (record {
      inside = omega (arith, p.0);
      small = omega (arith, c.share-sum.ensures.1, z.few (length o.yielded) (omega (arith, z.multiplicities, p.0)), p.3, o.invariant.small);
      whole = omega (arith, c.share-sum.ensures.0, behind_more c.args.field.q z c.args.message.now _ _ _ _ p.0 p.1 p.2 p.3, o.invariant.whole);
    })

pub returns : goal.returns
returns c =
    let z = c.args.triples in
    let o = c.loop-point in
    let n = turns z c.into_iter-point-iterator.result _ c.next.new.self _ _ o.yielded_by c.next.ensures.steps (cc) (cc) (cc) c.in-None.is in
    omega (arith, o.invariant.whole, behind_none c.args.field.q z c.args.message.now (length o.yielded) (omega (arith, n)))
