-- collect_zeros: the symbols so far at which the value is zero stand in the list, which ends before r.
use Rattle.followers.specs.Followers.{zeros_from, Appended}
use Rattle.followers.proofs.collect_zeros.Given as goal

abbrev pub invariant-loop-i : goal.invariant-loop-i
invariant-loop-i l = Appended (zeros_from l.first l.i l.values) l.a l.initial.out l.out l.r
