-- `in_ranges` is the definition's test, as `code_in_ranges` is.
use Rattle.std.proofs.Common.{rules, sym, ◌∙◌}
use Rattle.setting.specs.Call.{asked}
use Rattle.setting.proofs.Tests.{ranged_all, s_not_ranged, code_not_ranged}
use Rattle.setting.proofs.Setting.in_ranges.Goals as goal
use Rattle.setting.proofs.Setting.in_ranges.Goals.{then-code_in_ranges, else-code_in_ranges}

pub returns-then-contains : goal.returns-then-contains
returns-then-contains c = elim c.if-code_in_ranges.branch [
  | then-code_in_ranges w ↦ ranged_all (asked c.args.self) (sym w.if-code_in_ranges.ensures) (w.value-is ∙ search rules) c.if-contains.true
  | else-code_in_ranges w ↦ absurd (search rules)
]

pub returns-else-contains : goal.returns-else-contains
returns-else-contains c = elim c.if-code_in_ranges.branch [
  | then-code_in_ranges w ↦ s_not_ranged (asked c.args.self) (sym w.if-code_in_ranges.ensures) (w.value-is ∙ search rules) c.if-contains.false
  | else-code_in_ranges w ↦ c.if-contains.false ∙ code_not_ranged (asked c.args.self) (sym w.if-code_in_ranges.ensures)
]
