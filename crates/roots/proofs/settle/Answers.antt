-- settle: with the row at y^0 zero the beginning is the one message found, else there is none.
use mathlib.Core.Bool.{not}
use mathlib.Core.List.{[]}
use mathlib.Core.Path.{sym, ap, ◌∙◌}
use lib.ListN.{length, take}
use lib.Seq.{length-take-le}
use Rattle.roots.specs.declared.Tally.{Tally}
use Rattle.roots.specs.Ready.{listed}
use Rattle.followers.proofs.Written.{written_none, written_to}
use Rattle.roots.proofs.Roots.{listed_none, listed_one, found_one, found_none, room_one, written_part}
use native.Mathlib.Omega.{arith}
use Rattle.roots.proofs.settle.Goals as goal

pub returns-then-not-all_zero : goal.returns-then-not-all_zero
returns-then-not-all_zero c =
    let x = c.args in
    let f = found_none c.requires c.all_zero.ensures (ap not c.if-not-all_zero.true) in (
      ap (λ (tally : Tally). tally.found) c.tried_one-counted.ensures ∙ omega (arith, ap length f),
      ap (λ (tally : Tally). tally.tried) c.tried_one-counted.ensures,
      written_to [] _ (written_none _ _) (sym (ap (listed (take x.sizes.k x.begun.now)) f ∙ listed_none (take x.sizes.k x.begun.now))),
    )

pub slice_bounds-copy-end-2 : goal.slice_bounds-copy-end-2
slice_bounds-copy-end-2 c =
    let x = c.args in
    let p = c.requires in
    omega (arith, room_one x.tally.found x.sizes.k _ _ (found_one p c.all_zero.ensures (ap not c.if-not-all_zero.false)) p.room)

pub returns : goal.returns
returns c =
    let x = c.args in
    let p = c.requires in
    let f = found_one p c.all_zero.ensures (ap not c.if-not-all_zero.false) in (
      omega (arith, ap length f),
      ap (λ (tally : Tally). tally.tried) c.tried_one-counted.ensures,
      written_to (take x.sizes.k x.begun.now) _
          (written_part _ _ _ (room_one x.tally.found x.sizes.k _ _ f p.room) (length-take-le x.sizes.k x.begun.now p.beginning) c.copy.ensures (omega arith))
          (sym (ap (listed (take x.sizes.k x.begun.now)) f ∙ listed_one (take x.sizes.k x.begun.now))),
    )
