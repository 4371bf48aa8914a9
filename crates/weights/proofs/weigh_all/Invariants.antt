-- weigh_all: the rows of the orders below a are there.
use Rattle.weights.specs.Weights.{Weights}
use Rattle.weights.proofs.weigh_all.Given as goal

abbrev pub invariant-loop-a : goal.invariant-loop-a
invariant-loop-a l = Weights l.field.q l.alpha l.a l.n l.weights
