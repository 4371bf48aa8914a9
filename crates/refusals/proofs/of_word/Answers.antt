-- of_word: what the points and the word are refused for comes first, and then the room.
use Rattle.rules.proofs.Given.{point_named}
use Rattle.causes.proofs.Number.{passed_on}
use Rattle.refusals.proofs.Rooms.{refused_before, eight_behind}
use Rattle.refusals.proofs.of_word.Goals as goal

pub returns-in_err-of_pair : goal.returns-in_err-of_pair
returns-in_err-of_pair c = refused_before _ _ (passed_on _ c.from_residual.ensures.1) c.in_err-of_pair.ensures

pub returns : goal.returns
returns c = eight_behind _ (point_named _ _ _ _) _ c.in_ok-of_pair.ensures c.of_rooms.ensures
