-- powers: the goals that the search leaves, by the lemmas of Change and Weights.
use mathlib.Core.Path.{◌∙◌}
use native.Mathlib.Omega.{arith}
use Rattle.buffers.proofs.Change.{changed_none, changed_more}
use Rattle.weights.proofs.Weights.{power_start, power_more}
use Rattle.weights.proofs.powers.Goals as goal

pub loop-weight-init : goal.loop-weight-init
loop-weight-init c = (changed_none _ _ _, power_start c.args.field.q c.args.alpha)

pub loop-weight-preserved : goal.loop-weight-preserved
loop-weight-preserved c =
    let l = c.loop-weight in
    let x = c.args in (
      changed_more l.weight-index l.last l.invariant.0 (omega arith) (omega arith) l.invariant.1,
      c.mul-last.ensures ∙ power_more x.field.q x.alpha x.field.is_modulus l.weight-index l.invariant.1,
    )
