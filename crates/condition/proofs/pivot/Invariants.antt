-- pivot: the scan over the first j curves.
use Rattle.condition.proofs.Scan.{Scanned}
use Rattle.condition.proofs.pivot.Given as goal

abbrev pub invariant-loop-j : goal.invariant-loop-j
invariant-loop-j l = Scanned l.shape.k l.shape.w l.shape.l l.leads l.values l.j l.best l.least
