-- find: the start is a basis, every condition keeps it, and the pivot of all alive curves is the chosen one.
use mathlib.Core.List.{List, [], map}
use Prim.Native.Nat.{ℕ, ◌<◌}
use Rattle.algebra.specs.Hom.{move}
use Rattle.algebra.specs.Conditions.{conditions}
use Rattle.prime.specs.Field.{elt}
use Rattle.weights.specs.Triples.{tripled}
use Rattle.weights.specs.declared.Shape.{Shape}
use Rattle.weights.specs.declared.Triples.{Triples}
use Rattle.slots.specs.Slot.{Started}
use Rattle.triple.specs.Grown.{Grown}
use Rattle.condition.specs.Kept.{Kept}
use Rattle.condition.proofs.Start.{nils}
use Rattle.finder.proofs.Begin.{kept_start}
use Rattle.finder.proofs.Finish.{picked, found}
use Rattle.finder.proofs.find.Goals as goal

-- the start is kept, and so is what the conditions of every triple make of it
state : (f : Shape) (z : Triples) {started leads held : List ℕ} → Started f.w f.l started →
    Grown f.field.q f.k f.w f.l (λ h. conditions (map (move (elt f.field.q h)) (tripled z.points.now z.word.now z.times.now))) nils leads started held →
    (h : 1 < f.field.q) → Kept f.field.q h f.k f.w f.l (conditions (map (move (elt f.field.q h)) (tripled z.points.now z.word.now z.times.now))) leads held
state f z {started} S G h = G.keeps h [] (kept_start f.shaped h started S)

pub unwrap-j-requires : goal.unwrap-j-requires
unwrap-j-requires c =
    let m = c.meet_all.ensures in
    let b = c.new-basis.ensures in
    picked c.args.shape.shaped _ c.requires.2 (state c.args.shape c.args.triples b.started (rw (b.same, b.leads) at m.grown)) c.pivot.result
    (rw (m.same, b.same) at c.pivot.ensures)

pub returns : goal.returns
returns c =
    let m = c.meet_all.ensures in
    let b = c.new-basis.ensures in
    rw (c.copy.ensures, rw (m.same, b.same) at c.curve.ensures.numbers)
    (found c.args.shape.shaped _ c.requires.2 (state c.args.shape c.args.triples b.started (rw (b.same, b.leads) at m.grown))
    (rw (m.same, b.same, c.unwrap-j.ensures) at c.pivot.ensures) (rw (m.same, b.same) at c.meet_all.new.basis.room))
