-- sift: what is kept of the first i messages stands at the front of the output, and in the end of all.
use Prim.Native.Nat.{◌≤◌}
use Rattle.sift.specs.Sift.{Sifted}
use Rattle.sift.proofs.sift.Given as goal

abbrev pub invariant-loop-i : goal.invariant-loop-i
invariant-loop-i l =
    let z = l.triples in
    (l.kept ≤ l.i) × Sifted l.field.q l.k l.least z.points.now z.word.now z.times.now l.i l.found l.initial.output l.output l.kept
