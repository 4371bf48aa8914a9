-- followers: the symbols before first that may follow stand in the list, and count is how many they are.
use Prim.Native.Nat.{◌-◌, ◌≤◌}
use Rattle.followers.specs.Slot.{curve}
use Rattle.followers.specs.Followers.{following, Appended}
use Rattle.followers.proofs.followers.Given as goal

abbrev pub invariant-loop-first : goal.invariant-loop-first
invariant-loop-first l = (l.first ≤ l.rows.field.q) × Appended (following l.rows.field.q (curve l.rows.w l.rows.l l.b l.work) l.first) 0 l.initial.out l.out l.count

abbrev pub decreases-loop-first : goal.decreases-loop-first
decreases-loop-first l = l.rows.field.q - l.first
