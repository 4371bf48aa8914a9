-- read_all: every turn but the last goes on, and each adds one to the turns taken.
use Rattle.std.proofs.Common.{◌-◌, ◌^◌, ◌<◌}
use Rattle.rules.specs.Patch.{nothing}
use Rattle.kinds.specs.Holding.{Sound}
use Rattle.records.specs.Stepped.{holding}
use Rattle.patch.specs.declared.Left.{Left}
use Rattle.patch.specs.Completed.{Completed}
use Rattle.patch.proofs.read_all.Given as goal

abbrev pub invariant-loop-held : goal.invariant-loop-held
invariant-loop-held l = record {
  sound : Sound l.held.stock;
  counted : l.held.turns < 2 ^ 64;
  completes : (last : Left) → Completed l.held last → Completed (holding 0 nothing) last;
}

abbrev pub decreases-loop-held : goal.decreases-loop-held
decreases-loop-held l = 2 ^ 64 - l.held.turns
