-- shift_add: the first i numbers of the run are changed, and last is the old one before the next.
use Rattle.std.proofs.Common.{ℕ, ◌∙◌, ◌+◌, arith, rules}
use mathlib.Core.Path.{ap₂}
use Rattle.rules.specs.Field.{plus, times}
use Rattle.buffers.proofs.Change.{changed_more}
use Rattle.within.proofs.Read.{read_ahead, moved_none, moved_more}
use Rattle.within.proofs.shift_add.Goals as goal

pub loop-i-init : goal.loop-i-init
loop-i-init c = (moved_none _ _, search rules)

pub loop-i-preserved : goal.loop-i-preserved
loop-i-preserved c =
    let l = c.loop-i in
    let x = c.args in (
      l.invariant.1.high (x.b + l.i) (omega arith) ∙ moved_more _ x.b l.i,
      changed_more (x.b + l.i) _ l.invariant.1 (omega arith) (search rules)
          (c.mul_add.ensures ∙ ap₂ (λ (u v : ℕ). plus x.field.q u (times x.field.q x.c v)) l.invariant.0
          (read_ahead x.a x.b x.n l.i l.invariant.1 c.requires.0 (omega arith))),
    )
