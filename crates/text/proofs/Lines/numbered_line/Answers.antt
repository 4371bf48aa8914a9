-- numbered_line: the number, the fields, and the line's end.
use Rattle.std.proofs.Common.{arith}
use Rattle.rules.specs.Patch.{line}
use Rattle.text.proofs.Digits.{most_digits}
use Rattle.text.proofs.Written.{writes_then, writes_room}
use Rattle.text.proofs.Lines.numbered_line.Goals as goal

pub number-requires : goal.number-requires
number-requires c = omega (arith, most_digits c.args.first (omega arith))

pub numbers-requires : goal.numbers-requires
numbers-requires c =
    omega (arith, most_digits c.args.first (omega arith), c.number.ensures.wrote.next, writes_room c.number.ensures)

pub put-requires : goal.put-requires
put-requires c =
    omega (arith, most_digits c.args.first (omega arith), c.number.ensures.wrote.next, writes_room c.number.ensures, c.numbers.ensures.0, writes_room c.numbers.ensures.1)

pub returns : goal.returns
unfolding line
returns c = (
  omega (arith, most_digits c.args.first (omega arith), c.number.ensures.wrote.next, c.numbers.ensures.0, c.put.ensures.wrote.next),
  writes_then c.number.ensures (writes_then c.numbers.ensures.1 c.put.ensures),
)
