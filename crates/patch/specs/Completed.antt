-- What is said of the program's turns. Which bytes come and go no contract can say: there are bytes that were read, and step took them.
use Rattle.std.specs.Prelude.{◌≡◌, false, List, ℕ, ◌+◌, ◌≤◌, length}
use Rattle.rules.specs.Patch.{size}
use Rattle.records.specs.declared.Held.{Held}
use Rattle.records.specs.Stepped.{Stepped}
use Rattle.records.specs.Takes.{Call, Takes}
use Rattle.patch.specs.declared.Left.{Left}

-- step took these bytes, which are no more than their record's: the call, and what it left
pub record Took (held : Held) (bytes : List ℕ) (l : Left) : Type 0 where
  pub call : Call
  pub cut : length bytes ≤ size bytes
  pub stepped : Stepped held bytes call.before call.after call.done
  pub is_held : l.held ≡ call.done.held
  pub is_more : l.more ≡ call.done.more

-- a turn: there are bytes that step took
pub record Went (held : Held) (l : Left) : Type 0 where
  pub bytes : List ℕ
  pub took : Took held bytes l

-- all turns from what is held on, of which l is the last: it stops, and there are bytes that step took record by record, in so many calls
pub record Completed (held : Held) (l : Left) : Type 0 where
  pub input : List ℕ
  pub calls : List Call
  pub taken : Takes held input calls
  pub stops : l.more ≡ false
  pub counted : l.held.turns ≡ held.turns + length calls
