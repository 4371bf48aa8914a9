-- inverse: the tests decide the answer.
use mathlib.Core.Path.{◌∙◌}
use Rattle.rules.specs.Outcome.{inverse_call}
use Rattle.causes.proofs.Number.{passed_on}
use Rattle.field.proofs.Refuses.{accepted, computed_refused, computed_accepted, once}
use Rattle.field.proofs.inverse.Goals as goal

pub returns-in_err-field_of : goal.returns-in_err-field_of
unfolding inverse_call
returns-in_err-field_of c = computed_refused _ _ _ (passed_on _ c.from_residual.ensures.1) (c.in_err-field_of.ensures.number ∙ once _ _)

pub inverse-requires : goal.inverse-requires
inverse-requires c = rw c.in_ok-field_of.ensures.named (accepted _ _ _ c.in_ok-field_of.ensures.number).first

pub returns : goal.returns
unfolding inverse_call
returns c = computed_accepted _ _ _ (c.in_ok-field_of.ensures.number ∙ once _ _) (rw (← c.in_ok-field_of.ensures.named) c.inverse.ensures)
