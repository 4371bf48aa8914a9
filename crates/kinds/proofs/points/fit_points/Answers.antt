-- fit_points: accepted points are the whole body, which stands at the front of the array.
use Rattle.std.proofs.Common.{ap}
use Rattle.causes.specs.Number.{refused}
use Rattle.kinds.proofs.Holding.{set_clean}
use Rattle.kinds.proofs.Turns.{told_did, some_number, ready_clean, points_taken, points_refused}
use Rattle.kinds.proofs.points.fit_points.Goals as goal
use Rattle.kinds.proofs.points.fit_points.Goals.{in-Ok, in-Err}

pub told-requires : goal.told-requires
told-requires c =
    elim c.match-refusal.branch [
      | in-Ok w ↦ (rw w.stock-is (ready_clean 0 _ c.read_body-m.ensures c.points_refusal-refusal.ensures (ap refused w.in-Ok.is)), c.requires)
      | in-Err w ↦ (rw w.stock-is (set_clean _), c.requires)
    ]

pub returns : goal.returns
returns c =
    let read = c.read_body-m.ensures in
    let is = c.points_refusal-refusal.ensures in
    elim c.match-refusal.branch [
      | in-Ok w ↦ told_did _ 2 _ w.stock-is (points_taken _ _ read is (ap refused w.in-Ok.is)) c.told.ensures
      | in-Err w ↦ told_did _ 2 _ w.stock-is (points_refused _ _ read is (some_number w.in-Err.is)) c.told.ensures
    ]
