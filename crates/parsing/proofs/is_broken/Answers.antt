-- is_broken: the causes of refusal 10, in their order.
use Rattle.std.proofs.Common.{◌∙◌, arith}
use borrow.Author.Tests.{lt-ltb, ne_eqb}
use Rattle.parsing.proofs.Shape.{fits_bounds, broken_unfit, broken_cut, broken_setting, not_broken}
use Rattle.parsing.proofs.is_broken.Goals as goal

pub returns-in_default : goal.returns-in_default
returns-in_default c = broken_unfit _ c.in_default.ensures

pub pair-requires : goal.pair-requires
pair-requires c = omega (arith, fits_bounds c.in-Some.n c.in-Some.ensures.1)

pub returns-then-bytes-from : goal.returns-then-bytes-from
returns-then-bytes-from c = let h = c.in-Some.ensures in lt-ltb _ _ c.if-bytes-from.true ∙ broken_cut _ h.0 h.1 (omega arith)

pub returns-then-pair-eq-SETTING : goal.returns-then-pair-eq-SETTING
returns-then-pair-eq-SETTING c =
    let h = c.in-Some.ensures in broken_setting _ h.0 h.1 (omega arith) c.pair.ensures c.if-pair-eq-SETTING.true

pub returns-else-pair-eq-SETTING : goal.returns-else-pair-eq-SETTING
returns-else-pair-eq-SETTING c =
    let h = c.in-Some.ensures in ne_eqb _ _ c.if-pair-eq-SETTING.false ∙ not_broken _ h.0 h.1 (omega arith) c.pair.ensures c.if-pair-eq-SETTING.false
