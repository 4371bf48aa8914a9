-- product: the tests decide the answer.
use Rattle.rules.specs.Outcome.{product_call}
use Rattle.causes.proofs.Number.{passed_on}
use Rattle.field.proofs.Refuses.{computed_refused, computed_accepted}
use Rattle.field.proofs.product.Goals as goal

pub returns-in_err-field_of : goal.returns-in_err-field_of
unfolding product_call
returns-in_err-field_of c = computed_refused _ _ _ (passed_on _ c.from_residual.ensures.1) c.in_err-field_of.ensures.number

pub returns : goal.returns
unfolding product_call
returns c = computed_accepted _ _ _ c.in_ok-field_of.ensures.number (rw (← c.in_ok-field_of.ensures.named) c.mul.ensures)
