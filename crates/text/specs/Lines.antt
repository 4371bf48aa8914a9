-- What is said of a call that writes lines: this text went behind what was written before, in the same buffer.
use Rattle.std.specs.Prelude.{◌≡◌, List, ℕ}
use Rattle.text.specs.declared.Lines.{Lines}
use Rattle.text.specs.Wrote.{Wrote}

pub record Writes (t : List ℕ) (old new : Lines) : Type 0 where
  pub same : new.out.ghost_name ≡ old.out.ghost_name
  pub wrote : Wrote t old.len old.out.now new.out.now new.len
