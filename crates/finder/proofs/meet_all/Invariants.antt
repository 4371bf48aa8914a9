-- meet_all: the conditions of as many triples are met as there were turns.
use mathlib.Core.Path.{◌≡◌}
use lib.ListN.{length}
use Rattle.triple.specs.Grown.{Grown}
use Rattle.finder.proofs.Triples.{met}
use Rattle.finder.proofs.meet_all.Given as goal

abbrev pub invariant-loop-point : goal.invariant-loop-point
invariant-loop-point l =
    let h = l.initial.basis.shape in
    (l.basis.shape ≡ h) × (l.basis.work.ghost_name ≡ l.initial.basis.work.ghost_name) × (length l.basis.work.now ≡ length l.initial.basis.work.now)
    × Grown h.field.q h.k h.w h.l (met h.field.q l.triples (length l.yielded)) l.initial.basis.leads l.basis.leads l.initial.basis.work.now l.basis.work.now
