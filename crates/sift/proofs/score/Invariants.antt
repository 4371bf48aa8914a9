-- score: what is added up, and the score from place j on, are the whole score.
use mathlib.Core.Path.{◌≡◌}
use Prim.Native.Nat.{◌+◌, ◌*◌, ◌≤◌}
use lib.ListN.{length}
use Rattle.rules.specs.Field.{ops}
use Rattle.rules.specs.Code.{score}
use Rattle.weights.specs.Triples.{tripled}
use Rattle.sift.proofs.Scoring.{behind}
use Rattle.sift.proofs.score.Given as goal

abbrev pub invariant-loop-point : goal.invariant-loop-point
invariant-loop-point l = record {
  inside : length l.yielded ≤ length l.triples.points.now;
  small : l.sum ≤ 4 * length l.yielded;
  whole : l.sum + behind l.field.q l.triples l.message (length l.yielded) ≡ score (ops l.field.q) (tripled l.triples.points.now l.triples.word.now l.triples.times.now) l.message;
}
