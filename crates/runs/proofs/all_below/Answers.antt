-- all_below: the library's test is the definition's.
use Rattle.std.proofs.Common.{◌∙◌, ltb, rules, tests}
use Rattle.std.proofs.lemmas.Iterator.{YieldsList-from_slice}
use Rattle.std.proofs.lemmas.Iterator.Search.{all_from_yields_List}
use Rattle.rules.specs.Refusal.{under}
use Rattle.runs.proofs.Scan.{all_is}
use Rattle.runs.proofs.all_below.Goals as goal

pub returns : goal.returns
unfolding under
returns c =
    all_from_yields_List (λ x. ltb x c.args.p) _ _ _ c.all.ensures.ran (YieldsList-from_slice c.args.symbols.now cc) (λ x b q k. search (rules, tests))
    ∙ all_is _ _
