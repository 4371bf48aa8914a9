-- visit and walk: what each visit of a walk is handed and leaves is in Visits.antt, and that there is room for the symbols that may follow in Few.antt.
use mathlib.Core.Path.{◌≡◌, sym, ◌∙◌}
use Prim.Native.Nat.{◌-◌}
use native.Mathlib.Nat.{pos_of_ne-zero}
use lib.ListN.{length, length-take}
use lib.Seq.{length-take-le}
use Rattle.followers.specs.Slot.{curve}
use Rattle.followers.specs.Followers.{followers_at}
use Rattle.beginnings.proofs.Walked.{walked_all, passed_all, found_walked, tried_passed}
use Rattle.beginnings.proofs.Few.{ready_few}
use Rattle.beginnings.proofs.Visits.{seen_none, room_after, same_low, symbol, symbol_at, enter, leave, searched_to, tried_some, ready_end, ready_walk, searched_end, searched_visit}
use native.Mathlib.Omega.{arith}
use Rattle.beginnings.proofs.+visit_walk.Goals as goal

pub visit-settle-requires : goal.visit-settle-requires
visit-settle-requires t c = ready_end c.if-left-eq0.true c.requires

pub visit-returns-then-left-eq0 : goal.visit-returns-then-left-eq0
visit-returns-then-left-eq0 t c = searched_end c.if-left-eq0.true c.settle.ensures

pub visit-tried_one-requires : goal.visit-tried_one-requires
visit-tried_one-requires t c =
    let x = c.args in
    omega (arith, c.requires.count, tried_some x.sizes x.left x.a x.work.now c.if-left-eq0.false)

pub visit-walk-requires : goal.visit-walk-requires
visit-walk-requires t c =
    let x = c.args in (
      omega arith,
      (
        pos_of_ne-zero c.if-left-eq0.false,
        ready_walk _ _ (tried_some x.sizes x.left x.a x.work.now c.if-left-eq0.false) c.tried_one.ensures c.requires,
      ),
    )

pub visit-returns : goal.visit-returns
visit-returns t c =
    let x = c.args in
    searched_visit _ _ (tried_some x.sizes x.left x.a x.work.now c.if-left-eq0.false) c.tried_one.ensures c.walk.ensures

pub walk-followers-count-requires : goal.walk-followers-count-requires
walk-followers-count-requires t c =
    let x = c.args in
    let p = c.requires in
    (omega (arith, p.1.slots), omega (arith, x.sizes.rows.tall, ready_few p.0 p.1))

pub walk-slice_bounds-symbols-end : goal.walk-slice_bounds-symbols-end
walk-slice_bounds-symbols-end t c =
    let p = c.requires in
    omega (arith, c.followers-count.ensures.count, c.followers-count.ensures.list.len, c.args.sizes.rows.tall, ready_few p.0 p.1)

pub walk-slice_bounds-g-items-end : goal.walk-slice_bounds-g-items-end
walk-slice_bounds-g-items-end t c =
    let p = c.requires in
    sym (length-take-le _ _ (omega (arith, c.followers-count.ensures.count, c.followers-count.ensures.list.len, c.args.sizes.rows.tall, ready_few p.0 p.1)))

pub walk-loop-g-init : goal.walk-loop-g-init
walk-loop-g-init t c = seen_none _ _ _ _ _ _ _

pub walk-lengthen-requires : goal.walk-lengthen-requires
walk-lengthen-requires t c =
    let p = c.requires in
    let l = c.loop-g in
    let s = symbol_at c.followers-count.ensures c.loop-g-test.true (omega arith) in (
      symbol _ _ _ _ _ _ _ p.0 p.1 s.0 l.invariant s.1,
      p.1.spare,
      room_after _ _ _ _ _ _ _ p.0 p.1 s.0 l.invariant,
      same_low _ _ _ _ _ _ _ p.0 p.1 s.0 l.invariant,
    )

pub walk-visit-all-requires : goal.walk-visit-all-requires
walk-visit-all-requires t c =
    let p = c.requires in
    let s = symbol_at c.followers-count.ensures c.loop-g-test.true (omega arith) in
    (omega (arith, p.0), rw c.size.ensures (enter _ _ _ _ _ _ _ p.0 p.1 s.0 c.loop-g.invariant s.1 c.lengthen.ensures))

pub walk-loop-g-preserved : goal.walk-loop-g-preserved
walk-loop-g-preserved t c =
    let p = c.requires in
    let s = symbol_at c.followers-count.ensures c.loop-g-test.true (omega arith) in
    leave _ _ _ _ _ _ _ p.0 p.1 s.0 c.loop-g.invariant s.1 c.lengthen.ensures (rw c.size.ensures at c.visit-all.ensures)

pub walk-returns : goal.walk-returns
walk-returns t c =
    let x = c.args in
    let p = c.requires in
    let l = c.loop-g in
    let fo = c.followers-count in
    let q = x.sizes.rows.field.q in
    let Q = curve x.sizes.rows.w x.sizes.rows.l x.a x.work.now in
    let e : l.g-index ≡ length (followers_at q x.sizes.rows.w x.sizes.rows.l x.a x.work.now) =
    omega (arith, fo.ensures.count, fo.ensures.list.len, length-take fo.result fo.new.out, c.loop-g-test.false, l.auto.g-index-end, x.sizes.rows.tall, ready_few p.0 p.1) in
    searched_to l.invariant (walked_all q (x.left - 1) Q l.g-index e ∙ sym (found_walked q x.left Q p.0))
    (passed_all q (x.left - 1) Q l.g-index e ∙ omega (arith, tried_passed q x.left Q p.0))
