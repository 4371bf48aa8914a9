-- read_body: after i numbers the first i of the body stand in front.
use mathlib.Core.Path.{◌≡◌}
use lib.ListN.{take}
use lib.Seq.{sets}
use Rattle.rules.specs.Patch.{body}
use Rattle.parsing.proofs.Record.read_body.Given as goal

abbrev pub invariant-loop-i : goal.invariant-loop-i
invariant-loop-i l = l.out ≡ sets l.initial.out 0 (take l.i (body l.self.bytes.now))
