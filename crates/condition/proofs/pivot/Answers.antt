-- pivot: the goals that the search leaves, by the lemmas of Scan.
use mathlib.Core.Path.{◌≡◌}
use Prim.Native.Nat.{◌+◌}
use Rattle.condition.proofs.Scan.{scan_skip, scan_take, scan_picked}
use native.Mathlib.Omega.{arith}
use borrow.Author.Rules.{rules}
use Rattle.condition.proofs.pivot.Goals as goal

pub loop-j-preserved : goal.loop-j-preserved
loop-j-preserved c = search (rules, scan_take, scan_skip)

pub returns : goal.returns
returns c = let o = c.loop-j in let z : o.j ≡ c.args.shape.l + 1 = omega arith in scan_picked _ _ _ _ _ o.least o.best (rw z at o.invariant)
