-- evaluate: the goals that the search leaves, by the lemmas of Change, Rows and Values.
use mathlib.Core.Path.{◌∙◌}
use Prim.Native.Nat.{ℕ}
use lib.ListN.{get_or-replicate}
use Rattle.buffers.proofs.Change.{changed_more}
use Rattle.condition.proofs.Values.{changed_skip, valued_dead, valued_alive}
use native.Mathlib.Omega.{arith}
use Rattle.condition.proofs.Basis.evaluate.Goals as goal
use Rattle.condition.proofs.Basis.evaluate.Goals.{then-self-j, else-self-j}

pub loop-j-preserved : goal.loop-j-preserved
loop-j-preserved c =
    let a = c.args in
    let o = c.loop-j in
    elim c.if-self-j.branch [
      | then-self-j w ↦ rw w.values-is (changed_more _ _ o.invariant (omega arith) (omega (arith, a.self.now.shape.shaped.few))
          (rw (w.curve.ensures.same, w.curve.ensures.numbers) at w.value.ensures
          ∙ valued_alive _ _ _ _ _ _ a.self.now.leads a.self.now.work.now o.j w.if-self-j.true))
      | else-self-j w ↦ rw w.values-is (changed_skip o.invariant
          (get_or-replicate {A = ℕ} 25 o.j 0 0 (omega (arith, a.self.now.shape.shaped.few)) ∙ valued_dead _ _ _ _ _ _ _ _ o.j w.if-self-j.false))
    ]
