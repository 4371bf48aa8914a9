-- meet_all: the goals that the search leaves, by the lemmas of Turns and Triples.
use mathlib.Core.Path.{refl, ◌∙◌}
use lib.ListN.{length}
use Rattle.std.proofs.lemmas.List.{length_push}
use Rattle.weights.proofs.Turns.{turn, turns}
use Rattle.finder.proofs.Triples.{triples_none, triples_more, triples_all}
use native.Mathlib.Omega.{arith}
use Rattle.finder.proofs.meet_all.Goals as goal

pub loop-point-init : goal.loop-point-init
loop-point-init c = let h = c.args.basis.now.shape in (refl, refl, refl, triples_none h.field.q h.k h.w h.l c.args.triples _ _)

pub meet-requires : goal.meet-requires
meet-requires c =
    let z = c.args.triples in
    let o = c.loop-point in
    let p = turn z c.into_iter-point-iterator.result _ c.next.new.self _ _ o.yielded_by c.next.ensures.steps (cc) (cc) (cc) _ c.in-Some.is in
    omega (arith, c.from.ensures, p.3, z.few (length o.yielded) (omega (arith, z.multiplicities, p.0)))

pub loop-point-preserved : goal.loop-point-preserved
loop-point-preserved c =
    let z = c.args.triples in
    let o = c.loop-point in
    let d = c.meet in
    let p = turn z c.into_iter-point-iterator.result _ c.next.new.self _ _ o.yielded_by c.next.ensures.steps (cc) (cc) (cc) _ c.in-Some.is in
    rw (length_push o.yielded _) (d.ensures.same ∙ o.invariant.0, d.ensures.lent ∙ o.invariant.1, d.ensures.long ∙ o.invariant.2, triples_more _ _ _ _ z _ _ _ _ p.0 p.1 p.2 (c.from.ensures ∙ p.3) o.invariant.3 (rw o.invariant.0 at d.ensures.grown))

pub returns : goal.returns
returns c =
    let o = c.loop-point in
    let n = turns c.args.triples c.into_iter-point-iterator.result _ c.next.new.self _ _ o.yielded_by c.next.ensures.steps (cc) (cc) (cc) c.in-None.is in
    record { same = o.invariant.0; lent = o.invariant.1; long = o.invariant.2; grown = triples_all _ _ _ _ c.args.triples (length o.yielded) (omega (arith, n)) o.invariant.3 }
