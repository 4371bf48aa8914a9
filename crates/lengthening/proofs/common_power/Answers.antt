-- common_power: each column is asked, up to the first that is not zero.
use Rattle.std.proofs.Common.{tests, arith}
use Rattle.std.proofs.lemmas.Iterator.{first_from_Range}
use Rattle.lengthening.specs.Lengthened.{ColumnClear}
use Rattle.lengthening.proofs.Columns.{common}
use Rattle.lengthening.proofs.common_power.Goals as goal

pub returns : goal.returns
returns c =
    let x = c.args in
    rw c.unwrap_or.ensures (common x.w x.l x.work.now _
    (first_from_Range _ _ _ _ (λ v. ¬ ColumnClear x.w x.l v x.work.now) (λ v. ColumnClear x.w x.l v x.work.now) c.find.ensures.ran
    (λ v q k. grind (arith, tests)) (λ v q k. grind (arith, tests))))
