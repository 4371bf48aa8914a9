-- read_word: the line, and then a line for each reading.
use Rattle.std.proofs.Common.{refl, ap, arith, rules, length, length-take}
use Rattle.causes.proofs.Number.{never_zero}
use Rattle.text.proofs.Written.{writes_room}
use Rattle.kinds.proofs.Turns.{did_as, did_in, body_front}
use Rattle.bodies.proofs.Lines.{lines_room}
use Rattle.words.proofs.Answered.{heard_as, word_refused, word_heard, held_accepted, points_held, message_few}
use Rattle.words.proofs.read_word.Goals as goal

pub slice_bounds-points-end : goal.slice_bounds-points-end
slice_bounds-points-end c =
    let x = c.args in omega (arith, points_held x.setting x.points c.requires.0, length-take x.setting.n x.points)

pub slice_bounds-read_held-end : goal.slice_bounds-read_held-end
slice_bounds-read_held-end c = points_held c.args.setting c.args.points c.requires.0

pub read_held-requires : goal.read_held-requires
read_held-requires c = held_accepted c.args.setting c.args.points c.requires.0

pub overflow_cast-fields : goal.overflow_cast-fields
overflow_cast-fields c = let h = c.in-Ok.ensures.heard in let few = (h.accepted refl).few in search rules

pub candidates-requires : goal.candidates-requires
candidates-requires c =
    let h = c.in-Ok.ensures.heard in
    let l = h.accepted refl in
    let n = c.numbered_line.ensures in
    let o = c.new-lines.ensures in
    let k = message_few c.args.setting c.args.points c.requires.0 in (
      omega (arith, h.list_long, l.room, k),
      omega (arith, h.list_long, l.room, l.few, k, lines_room c.in-Ok.found c.args.setting.k, n.0, o.none, writes_room n.1, ap length o.out, c.requires.1),
    )

pub returns-in-Ok-clause-did : goal.returns-in-Ok-clause-did
returns-in-Ok-clause-did c =
    let h = heard_as c.in-Ok.ensures.heard (body_front refl c.read_body-m.ensures) in
    let l = h.accepted refl in
    let n = c.numbered_line.ensures in
    let o = c.new-lines.ensures in
    let p = c.candidates.ensures in
    let k = message_few c.args.setting c.args.points c.requires.0 in
    did_in
    (word_heard _ _ _ h refl o.out o.none n.1 p.1 c.requires.0
    (omega (arith, h.list_long, l.room, l.few, k, lines_room c.in-Ok.found c.args.setting.k, n.0, o.none, p.0, c.requires.1)))
    (search rules)

pub returns-in-Err-clause-did : goal.returns-in-Err-clause-did
returns-in-Err-clause-did c =
    let h = heard_as c.in-Err.ensures.heard (body_front refl c.read_body-m.ensures) in
    did_as c.told.ensures (word_refused _ _ _ h (never_zero c.in-Err.cause))
