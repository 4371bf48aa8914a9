-- take_points: 12 where nothing is held, before the body is read.
use Rattle.kinds.proofs.Turns.{did_as, points_missing, points_fit}
use Rattle.kinds.proofs.points.take_points.Goals as goal

pub returns-in-Nothing : goal.returns-in-Nothing
returns-in-Nothing c = did_as c.told.ensures (points_missing _ _ c.in-Nothing.is)

pub returns-in-Set : goal.returns-in-Set
returns-in-Set c = did_as c.fit_points.ensures (points_fit _ _ c.in-Set.is)
