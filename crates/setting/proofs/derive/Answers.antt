-- `derive` is the setting call: what its callees ensure are the setting's derived numbers, and each test that fails is the cause of its number.
use mathlib.Core.Path.{sym, ◌∙◌}
use native.Mathlib.Omega.{arith}
use Rattle.setting.specs.Call.{asked}
use Rattle.setting.specs.Accepted.{Ranged}
use Rattle.setting.proofs.Tests.{ranged_if}
use Rattle.setting.proofs.Call.{Numbers, numbers_are, case_1, case_2, case_3, case_4, case_0}
use Rattle.setting.proofs.derive.Goals as goal
use Rattle.setting.proofs.derive.Goals.{Else-not-in_ranges, After-coefficients-u}

ranged : (c : Else-not-in_ranges) → Ranged c.args.setting.n c.args.setting.k c.args.setting.s c.args.setting.tau
ranged c = ranged_if (asked c.args.setting) c.in_ranges.ensures c.if-not-in_ranges.false

numbers : (c : After-coefficients-u)
    → Numbers (asked c.args.setting) c.degree_bound-w.result c.last_power-l.result c.conditions-c.result c.coefficients-u.result
numbers c = numbers_are (asked c.args.setting) c.degree_bound-w.ensures c.last_power-l.ensures c.conditions-c.ensures c.coefficients-u.ensures

pub returns-then-not-is_modulus : goal.returns-then-not-is_modulus
returns-then-not-is_modulus c = case_1 (asked c.args.setting) (sym c.is_modulus.ensures ∙ c.if-not-is_modulus.true)

pub returns-then-not-in_ranges : goal.returns-then-not-in_ranges
returns-then-not-in_ranges c =
    case_2 (asked c.args.setting) (sym c.is_modulus.ensures ∙ c.if-not-is_modulus.false) (sym c.in_ranges.ensures ∙ c.if-not-in_ranges.true)

pub degree_bound-w-requires : goal.degree_bound-w-requires
degree_bound-w-requires c = ranged (goal.at.degree_bound-w-requires c).Else-not-in_ranges

pub last_power-l-requires : goal.last_power-l-requires
last_power-l-requires c = let r = ranged (goal.at.last_power-l-requires c).Else-not-in_ranges in (omega arith, omega arith)

pub conditions-c-requires : goal.conditions-c-requires
conditions-c-requires c = let r = ranged (goal.at.conditions-c-requires c).Else-not-in_ranges in (omega arith, omega arith)

pub coefficients-u-requires : goal.coefficients-u-requires
coefficients-u-requires c =
    let r = ranged (goal.at.coefficients-u-requires c).Else-not-in_ranges in
    (omega arith, omega arith, omega arith, omega arith, omega arith)

pub returns-then-u-c : goal.returns-then-u-c
returns-then-u-c c =
    case_3 (asked c.args.setting) (sym c.is_modulus.ensures ∙ c.if-not-is_modulus.false)
    (ranged (goal.at.returns-then-u-c c).Else-not-in_ranges) (numbers (goal.at.returns-then-u-c c).After-coefficients-u) (omega arith)

pub returns-then-l-gt24 : goal.returns-then-l-gt24
returns-then-l-gt24 c =
    case_4 (asked c.args.setting) (sym c.is_modulus.ensures ∙ c.if-not-is_modulus.false)
    (ranged (goal.at.returns-then-l-gt24 c).Else-not-in_ranges) (numbers (goal.at.returns-then-l-gt24 c).After-coefficients-u)
    (omega arith) (omega arith)

pub work_room-requires : goal.work_room-requires
work_room-requires c = let r = ranged (goal.at.work_room-requires c).Else-not-in_ranges in (omega arith, omega arith, omega arith)

pub returns : goal.returns
returns c =
    case_0 (asked c.args.setting) (sym c.is_modulus.ensures ∙ c.if-not-is_modulus.false)
    (ranged (goal.at.returns c).Else-not-in_ranges) (numbers (goal.at.returns c).After-coefficients-u)
    (omega arith) (omega arith) c.work_room.ensures
