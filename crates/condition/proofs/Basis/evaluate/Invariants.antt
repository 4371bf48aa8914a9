-- evaluate: the first j values are written.
use Rattle.buffers.specs.Change.{Changed}
use Rattle.condition.specs.Valued.{valued}
use Rattle.condition.proofs.Basis.evaluate.Given as goal

abbrev pub invariant-loop-j : goal.invariant-loop-j
invariant-loop-j l = Changed (valued l.self.shape.field.q l.self.shape.k l.self.shape.w l.self.shape.l l.x l.y l.self.leads l.self.work.now) 0 l.j l.initial.values l.values
