-- What is said of a step: it did the turn that crate rules has for the record, with the next number.
use Rattle.std.specs.Prelude.{◌≡◌, List, ℕ, ◌+◌}
use Rattle.rules.specs.Patch.{Held as Holding, turn}
use Rattle.kinds.specs.Holding.{held_of, stock, Sound}
use Rattle.kinds.specs.Did.{Did}
use Rattle.records.specs.declared.Held.{Held}
use Rattle.records.specs.declared.Done.{Done}

-- this is held after so many turns
abbrev pub holding : ℕ → Holding → Held
holding turns held = record { turns = turns; stock = stock held }

-- what step does for a record with these bytes: the next turn, after which the one that follows can be taken
pub record Stepped (held : Held) (bytes d e : List ℕ) (r : Done) : Type 0 where
  pub sound : Sound r.held.stock
  pub counted : r.held.turns ≡ held.turns + 1
  pub did : Did (turn (held.turns + 1) (held_of held.stock) bytes) d e (record { stock = r.held.stock; wrote = r.wrote; more = r.more })
