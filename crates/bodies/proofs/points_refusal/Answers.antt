-- points_refusal: the answer of crate refusals (of_points) for the numbers of the setting.
use Rattle.rules.specs.Patch.{points_refusal}
use Rattle.bodies.proofs.points_refusal.Goals as goal

pub returns : goal.returns
unfolding points_refusal
returns c = c.of_points.ensures
