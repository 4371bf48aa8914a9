-- all_zero: the library's test is the definition's.
use Rattle.std.proofs.Common.{◌∙◌, eqb, rules, tests}
use Rattle.std.proofs.lemmas.Iterator.{YieldsList-from_slice}
use Rattle.std.proofs.lemmas.Iterator.Search.{all_from_yields_List}
use Rattle.runs.specs.Runs.{blank}
use Rattle.runs.proofs.Scan.{all_is}
use Rattle.runs.proofs.all_zero.Goals as goal

pub returns : goal.returns
unfolding blank
returns c =
    all_from_yields_List (λ x. eqb x 0) _ _ _ c.all.ensures.ran (YieldsList-from_slice c.args.run.now cc) (λ x b q k. search (rules, tests))
    ∙ all_is _ _
