-- list: the roots of the curve come one after the other, those that score enough are kept, and the room is cleared behind them.
use mathlib.Core.Path.{refl, ap, ◌∙◌}
use mathlib.Core.List.{flatten}
use Prim.Native.Nat.{ℕ}
use lib.ListN.{length, replicate}
use Rattle.rules.specs.Outcome.{over}
use Rattle.engine.proofs.Times.{times_few}
use Rattle.engine.proofs.Searching.{searchable, enough_is}
use Rattle.engine.proofs.list.Goals as goal

pub search-tally-requires : goal.search-tally-requires
search-tally-requires c = searchable c.requires _ refl

pub of_word-requires : goal.of_word-requires
of_word-requires c = (c.requires.worded.few, c.requires.worded.same, times_few c.requires.worded)

pub returns : goal.returns
returns c =
    let same = enough_is c.requires c.search-tally.ensures c.of_word.ensures in
    record {
      found = c.sift-found.ensures.number ∙ ap length same;
      tried = c.search-tally.ensures.tried;
      written = c.sift-found.ensures.written ∙ ap (λ fs. over (flatten fs) c.args.output.now) same;
      cleared = c.fill.ensures.after (λ y e. e) ∙ ap (λ (n : ℕ). replicate n 0) c.search-tally.ensures.slots;
    }
