-- visit and walk: the symbols left fall from a visit to its walk and to the next visit; of a walk, i symbols that may follow are visited.
use Prim.Native.Nat.{◌+◌}
use Rattle.beginnings.proofs.Visits.{Seen}
use Rattle.beginnings.proofs.+visit_walk.Given as goal

abbrev pub decreases-visit : goal.decreases-visit
decreases-visit l = l.left + l.left + 1

abbrev pub decreases-walk : goal.decreases-walk
decreases-walk l = l.left + l.left

abbrev pub invariant-walk-loop-g : goal.invariant-walk-loop-g
invariant-walk-loop-g l = Seen l.sizes l.left l.a l.initial.work l.initial.begun l.initial.roots l.initial.all l.g-index l.work l.begun l.roots l.all
