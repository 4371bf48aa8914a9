-- weigh: the goals that the search leaves, by the lemmas of Change and Weights.
use mathlib.Core.Path.{◌∙◌}
use Prim.Native.Nat.{◌+◌, ◌*◌}
use native.Mathlib.Omega.{arith}
use Rattle.buffers.proofs.Change.{changed_none, changed_more}
use Rattle.weights.proofs.Weights.{weight_start, weight_more}
use Rattle.weights.proofs.weigh.Goals as goal

pub loop-i-init : goal.loop-i-init
loop-i-init c = (changed_none _ _ _, weight_start c.args.field.q c.args.alpha c.args.a c.requires.0)

pub loop-i-preserved : goal.loop-i-preserved
loop-i-preserved c =
    let l = c.loop-i in
    let x = c.args in
    let h = changed_more (x.a * 256 + l.i) l.last l.invariant.0 (omega arith) (omega arith) l.invariant.1 in (
      h,
      c.mul_add-last.ensures
          ∙ weight_more x.field.q x.alpha x.field.is_modulus l.i x.a c.requires.0 c.requires.3 h (omega arith) (omega arith) l.invariant.1,
    )
