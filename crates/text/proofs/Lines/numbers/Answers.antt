-- numbers: each turn writes the space and the next field.
use Rattle.std.proofs.Common.{ap, arith}
use lib.Seq.{take_all}
use Rattle.rules.specs.Patch.{spaced}
use Rattle.text.proofs.Digits.{field_digits}
use Rattle.text.proofs.Written.{writes_none, writes_then, writes_as, writes_room, spaced_none, spaced_more}
use Rattle.text.proofs.Lines.numbers.Goals as goal

pub loop-x-init : goal.loop-x-init
loop-x-init c = record { short = omega arith; wrote = writes_as (writes_none _) spaced_none }

pub put-requires : goal.put-requires
put-requires c = omega (arith, writes_room c.loop-x.invariant.wrote)

pub number-requires : goal.number-requires
number-requires c =
    omega (arith, field_digits c.from.result (omega arith), c.put.ensures.wrote.next, writes_room c.put.ensures, writes_room c.loop-x.invariant.wrote)

pub loop-x-preserved : goal.loop-x-preserved
loop-x-preserved c =
    let l = c.loop-x in record {
      short = omega (arith, field_digits c.from.result (omega arith), c.put.ensures.wrote.next, c.number.ensures.wrote.next);
      wrote = writes_as (writes_then l.invariant.wrote (writes_then c.put.ensures c.number.ensures)) (spaced_more c.args.fields.now l.x-index c.from.result c.loop-x-test.true c.from.ensures);
    }

pub returns : goal.returns
returns c =
    let l = c.loop-x in (
      omega (arith, l.invariant.short),
      writes_as l.invariant.wrote (ap spaced (take_all l.x-index c.args.fields.now (omega arith))),
    )
