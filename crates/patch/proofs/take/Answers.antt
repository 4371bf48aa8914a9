-- take: the call of step that took the bytes.
use mathlib.Core.Path.{refl}
use Rattle.patch.proofs.take.Goals as goal

pub returns : goal.returns
returns c =
    record {
      call = record { before = _; after = _; done = c.step-done.result };
      cut = c.requires.3;
      stepped = c.step-done.ensures.stepped;
      is_held = refl;
      is_more = refl;
    }
