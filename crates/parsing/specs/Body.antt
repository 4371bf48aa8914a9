-- What is said of an array of 64 numbers into which a body was read: its numbers stand at the front, the rest is as it was.
use Rattle.std.specs.Prelude.{◌≡◌, List, ℕ, ◌≤◌, length}
use Rattle.std.proofs.lemmas.List.Edits.{sets}

pub record Bodied (numbers d e : List ℕ) (m : ℕ) : Type 0 where
  pub count : m ≡ length numbers
  pub most : m ≤ 64
  pub out : e ≡ sets d 0 numbers
