-- of_reel: a total that n does not divide decides; what the points are refused for comes behind, and then the room.
use mathlib.Core.Path.{ap}
use mathlib.Core.Bool.{not}
use borrow.Author.Tests.{eq-eqb, ne_eqb}
use Rattle.rules.proofs.Lowest.{here, later}
use Rattle.rules.proofs.Given.{point_named}
use Rattle.causes.proofs.Number.{passed_on}
use Rattle.refusals.proofs.Rooms.{refused_before, eight_behind}
use Rattle.refusals.proofs.of_reel.Goals as goal

pub returns-then-total-n-ne0 : goal.returns-then-total-n-ne0
returns-then-total-n-ne0 c = here 5 _ _ (ap not (ne_eqb _ 0 c.if-total-n-ne0.true))

pub returns-in_err-of_points : goal.returns-in_err-of_points
returns-in_err-of_points c =
    later 5 _ _ (ap not (eq-eqb _ 0 c.if-total-n-ne0.false)) (refused_before _ _ (passed_on _ c.from_residual.ensures.1) c.in_err-of_points.ensures)

pub returns : goal.returns
returns c =
    later 5 _ _ (ap not (eq-eqb _ 0 c.if-total-n-ne0.false)) (eight_behind _ (point_named _ _ _ _) _ c.in_ok-of_points.ensures c.of_rooms.ensures)
