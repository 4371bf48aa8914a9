-- search: the curve is copied to the spare, and the search starts with nothing counted.
use Rattle.search.proofs.Start.{copied_spare, roots_front}
use Rattle.search.proofs.search.Goals as goal

pub returns : goal.returns
returns c =
    let copied = copied_spare _ c.requires c.copy.ensures in
    roots_front c.requires copied.0 (rw copied.1 at c.count.ensures)
