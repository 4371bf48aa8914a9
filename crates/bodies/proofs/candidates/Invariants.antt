-- candidates: after j lines those of the first j messages are written.
use Rattle.std.proofs.Common.{◌+◌, ◌*◌, ◌≤◌}
use Rattle.rules.specs.Search.{rows}
use Rattle.text.specs.Lines.{Writes}
use Rattle.bodies.proofs.Lines.{plus_lines}
use Rattle.bodies.proofs.candidates.Given as goal

abbrev pub invariant-loop-j : goal.invariant-loop-j
invariant-loop-j l = record {
  short : l.lines.len ≤ l.initial.lines.len + l.j * (l.k * 6 + 2);
  wrote : Writes (plus_lines (rows l.k l.j l.list)) l.initial.lines l.lines;
}
