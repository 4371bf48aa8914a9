-- number: the text of the number is copied behind what was written.
use Rattle.std.proofs.Common.{length, refl, sym, ap, ◌∙◌, arith}
use Rattle.text.proofs.Digits.{as_written}
use Rattle.text.proofs.Written.{wrote_copy, writes_as}
use Rattle.text.proofs.Lines.number.Goals as goal

pub slice_bounds-copy_from_slice-end : goal.slice_bounds-copy_from_slice-end
slice_bounds-copy_from_slice-end c =
    omega (arith, c.requires, ap length (as_written c.args.n (omega arith)), ap length c.format.ensures.text, ap length c.as_bytes-text.ensures.value)

pub returns : goal.returns
returns c =
    let e = c.as_bytes-text.ensures.value ∙ c.format.ensures.text ∙ sym (as_written c.args.n (omega arith)) in
    writes_as
    (record { same = refl; wrote = wrote_copy c.as_bytes-text.result.now _ _ c.args.self.now.len _ c.copy_from_slice.ensures.after (omega arith) (omega (arith, c.requires, ap length e)) })
    e
