-- all_distinct: the library's test of each point and those behind it is the definition's.
use Rattle.std.proofs.Common.{refl, ◌∙◌, ◌+◌, not, eqb, length, rules, tests}
use Rattle.std.specs.List.{list_any, between}
use Rattle.std.proofs.lemmas.Iterator.{YieldsList-from_slice}
use Rattle.std.proofs.lemmas.Iterator.Consumers.{YieldsList-from_enumerate, YieldsList-at}
use Rattle.std.proofs.lemmas.Iterator.Search.{all_from_yields_List}
use Rattle.runs.proofs.Scan.{each_new}
use Rattle.runs.proofs.all_distinct.Goals as goal

pub returns : goal.returns
returns c =
    let xs = c.args.points.now in
    all_from_yields_List (λ p. not (list_any (λ y. eqb y p.1) (between (p.0 + 1) (length xs) xs))) _ _ _ c.all.ensures.ran
    (YieldsList-from_enumerate (YieldsList-at c.enumerate.ensures.source (YieldsList-from_slice xs cc)) c.enumerate.ensures.count)
    (λ x b q k. search (rules, tests))
    ∙ each_new xs 0 xs refl
