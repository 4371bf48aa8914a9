-- numbers: the fields before the next one are written.
use Rattle.std.proofs.Common.{◌+◌, ◌*◌, ◌≤◌, take}
use Rattle.rules.specs.Patch.{spaced}
use Rattle.text.specs.Lines.{Writes}
use Rattle.text.proofs.Lines.numbers.Given as goal

abbrev pub invariant-loop-x : goal.invariant-loop-x
invariant-loop-x l = record {
  short : l.self.len ≤ l.initial.self.len + l.x-index * 6;
  wrote : Writes (spaced (take l.x-index l.fields)) l.initial.self l.self;
}
