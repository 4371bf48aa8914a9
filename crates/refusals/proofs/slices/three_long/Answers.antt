-- three_long: where one is not as long as it has to be, nothing else is asked.
use Rattle.std.proofs.Common.{arith}
use Rattle.std.proofs.lemmas.Grind.{common_steps}
use Rattle.rules.specs.Refusal.{long}
use Rattle.refusals.proofs.slices.three_long.Goals as goal

pub returns-then-symbols-m : goal.returns-then-symbols-m
unfolding long
returns-then-symbols-m c = grind (arith, common_steps)

pub returns-else-symbols-m : goal.returns-else-symbols-m
unfolding long
returns-else-symbols-m c = grind (arith, common_steps)
