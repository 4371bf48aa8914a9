-- through_all: the test of each triple, by the lemmas of Zipped.
use mathlib.Core.Path.{◌∙◌}
use Rattle.std.proofs.Common.{rules, tests}
use Rattle.std.proofs.lemmas.Iterator.Adapters.{serves_from_places}
use Rattle.std.proofs.lemmas.Iterator.Search.{all_from_yields_List}
use Rattle.multiplicity.specs.Met.{met}
use Rattle.weights.proofs.Turns.{zipped_yields}
use Rattle.curve.proofs.Zipped.{triple_of, zipped_all, zipped_few}
use Rattle.curve.proofs.through_all.Goals as goal

pub all-requires-clause-callable : goal.all-requires-clause-callable
all-requires-clause-callable c =
    let z = c.args.triples in
    serves_from_places (zipped_yields z.points.now z.word.now z.times.now (cc) (cc) (cc)) (λ x q k. search rules)
    (λ x k l e. let m = zipped_few z.points.now z.word.now z.times.now z.few _ k l e in search rules)

pub returns : goal.returns
returns c =
    let z = c.args.triples in
    let curve = c.args.curve in
    let shape = curve.shape in
    let test = met shape.field.q shape.k shape.w shape.l curve.numbers.now in
    all_from_yields_List (λ p. test (triple_of p)) c.all.new.self _ _ c.all.ensures.ran
    (zipped_yields z.points.now z.word.now z.times.now (cc) (cc) (cc)) (λ x b q k. search (rules, tests))
    ∙ zipped_all test z.points.now z.word.now z.times.now
