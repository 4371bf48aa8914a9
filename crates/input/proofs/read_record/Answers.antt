-- read_record: what is read is no more than the record, by its first two bytes; so it is where a read failed.
use Rattle.std.proofs.Common.{◌+◌, ◌-◌, ◌++◌, arith, rules, length-append, length-take}
use borrow.Rule.Slice.PartMut.{post_of}
use Rattle.rules.proofs.Film.{two_size}
use Rattle.input.proofs.Cut.{record_cut}
use Rattle.input.proofs.read_record.Goals as goal

pub returns-in_err-begun : goal.returns-in_err-begun
returns-in_err-begun c = search (rules, two_size)

pub returns-in-Ok : goal.returns-in-Ok
returns-in-Ok c =
    let all = c.fill.new.all ++ post_of 0 2 c.args.all.now in
    let want = c.want-want.result in (
      search rules,
      record_cut all c.fill-2.new.all (2 + want - 2) c.in_ok-begun.begun want c.in-Ok.rest (simp length-append (omega (arith, length-take 2 c.args.all.now)))
          (search rules) c.want-want.ensures.0 (search rules),
    )

pub returns-in-Err : goal.returns-in-Err
returns-in-Err c =
    let all = c.fill.new.all ++ post_of 0 2 c.args.all.now in
    let want = c.want-want.result in (
      search rules,
      record_cut all c.fill-2.new.all (2 + want - 2) c.in_ok-begun.begun want c.in-Err.failed.count (simp length-append (omega (arith, length-take 2 c.args.all.now)))
          (search rules) c.want-want.ensures.0 (search rules),
    )
