-- find: the array of multiplicities makes the word's triples, the finder's curve passes for them, and the room is cleared behind it.
use mathlib.Core.Path.{ap, subst, ◌∙◌}
use lib.Dec.{T}
use Prim.Native.Nat.{ℕ}
use lib.ListN.{replicate}
use Rattle.rules.specs.Field.{ops}
use Rattle.rules.specs.Curve.{passes}
use Rattle.engine.proofs.Times.{times_few, word_triples, conditions_are}
use Rattle.engine.proofs.find.Goals as goal

pub of_word-requires : goal.of_word-requires
of_word-requires c = (c.requires.worded.few, c.requires.worded.same, times_few c.requires.worded)

pub find-requires : goal.find-requires
find-requires c = (c.requires.whole, c.requires.slots, rw (conditions_are c.requires.worded c.of_word.ensures) c.requires.enough)

pub returns : goal.returns
returns c =
    let shape = c.args.shape in
    record {
      whole = c.find.auto.curve ∙ c.requires.whole;
      small = c.find.ensures.small;
      passing = subst (λ zs. T (passes (ops shape.field.q) shape.k shape.w shape.l zs c.find.new.curve))
          (word_triples c.requires.worded c.of_word.ensures) c.find.ensures.passing;
      cleared = c.fill.ensures.after (λ y e. e) ∙ ap (λ (n : ℕ). replicate n 0) c.find.auto.work;
    }
