-- fits: the array of 64 multiplicities s, cut to the word's length, makes the word's triples.
use mathlib.Core.Path.{ap, ◌∙◌}
use Rattle.rules.specs.Field.{ops}
use Rattle.rules.specs.Curve.{passes}
use Rattle.engine.proofs.Times.{times_few, word_triples}
use Rattle.engine.proofs.fits.Goals as goal

pub of_word-requires : goal.of_word-requires
of_word-requires c = (c.requires.0.few, c.requires.0.same, times_few c.requires.0)

pub returns : goal.returns
returns c =
    let shape = c.args.shape in
    c.passes.ensures ∙ ap (λ zs. passes (ops shape.field.q) shape.k shape.w shape.l zs c.args.curve.now) (word_triples c.requires.0 c.of_word.ensures)
