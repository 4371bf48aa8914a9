-- plus_line: the sign, the fields, and the line's end.
use Rattle.std.proofs.Common.{arith}
use Rattle.rules.specs.Patch.{line}
use Rattle.text.proofs.Written.{writes_then, writes_room}
use Rattle.text.proofs.Lines.plus_line.Goals as goal

pub put-requires-2 : goal.put-requires-2
put-requires-2 c = omega (arith, c.put.ensures.wrote.next, writes_room c.put.ensures, c.numbers.ensures.0, writes_room c.numbers.ensures.1)

pub returns : goal.returns
unfolding line
returns c = (
  omega (arith, c.put.ensures.wrote.next, c.numbers.ensures.0, c.put-2.ensures.wrote.next),
  writes_then c.put.ensures (writes_then c.numbers.ensures.1 c.put-2.ensures),
)
