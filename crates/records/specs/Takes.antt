-- A file taken by step, record after record, and the bytes that are then written in all.
use Rattle.std.specs.Prelude.{◌≡◌, Bool, true, false, ℕ, take, drop}
use mathlib.Core.List.{List, [], ◌∷◌, flat_map}
use Rattle.rules.specs.Patch.{size}
use Rattle.records.specs.declared.Held.{Held}
use Rattle.records.specs.declared.Done.{Done}
use Rattle.records.specs.Stepped.{Stepped}

-- a call of step: what the buffer lent for its lines held before and after it, and what it answered
pub record Call : Type 0 where
  pub before : List ℕ
  pub after : List ℕ
  pub done : Done

-- by whether the program goes on
abbrev pub Either : Bool → Type 0 → Type 0 → Type 0
Either true goes_on stops = goes_on
Either false goes_on stops = stops

-- these calls take the input: each is given the next record and what the call before it left held, and the first that stops is the last
abbrev pub Takes : Held → List ℕ → List Call → Type 0
Takes held input [] = ⊥
Takes held input (c ∷ calls) = Stepped held (take (size input) input) c.before c.after c.done
    × Either c.done.more (Takes c.done.held (drop (size input) input) calls) (calls ≡ [])

-- the bytes that they write
unfoldable pub written : List Call → List ℕ
written calls = flat_map (λ c. take c.done.wrote c.after) calls
