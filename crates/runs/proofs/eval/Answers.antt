-- eval: the fold from the last coefficient on is the value.
use Rattle.std.proofs.Common.{◌≡◌, ◌∙◌, reverse, rules}
use Rattle.std.specs.List.{fold}
use Rattle.runs.proofs.Value.{horner, fold_back}
use Rattle.runs.proofs.eval.Goals as goal

pub returns : goal.returns
returns c =
    let x = c.args in
    let e : c.rfold.result ≡ fold (horner x.field.q x.x) 0 (reverse x.f.now) = search rules in
    e ∙ fold_back x.field.q x.x x.f.now
