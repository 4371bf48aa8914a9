-- What is said of a call that takes a record: it did the turn that crate rules has for the record.
use Rattle.std.specs.Prelude.{◌≡◌, Bool, List, ℕ, ◌≤◌, length}
use Rattle.rules.specs.Patch.{Held, Turn, report}
use Rattle.text.specs.Wrote.{Wrote}
use Rattle.kinds.specs.declared.Turned.{Turned}
use Rattle.kinds.specs.Holding.{stock}

-- a turn that prints one line of three fields
abbrev pub told_turn : Held → ℕ → ℕ → ℕ → Bool → Turn
told_turn held i kind refusal more = record { held = held; text = report i kind refusal; more = more }

-- what the turn leaves is held, and its text stands at the front of the buffer, whose other bytes are as they were
pub record Did (t : Turn) (d e : List ℕ) (r : Turned) : Type 0 where
  pub held : r.stock ≡ stock t.held
  pub text : Wrote t.text 0 d e r.wrote
  pub more : r.more ≡ t.more
  pub within : r.wrote ≤ length d
