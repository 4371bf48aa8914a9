-- What a writer says: the text t stands at place at of the buffer, which is otherwise as it was; r is the place after it.
use Rattle.std.specs.Prelude.{◌≡◌, List, ℕ, ◌+◌, length}
use Rattle.std.proofs.lemmas.List.Edits.{sets}

pub record Wrote (t : List ℕ) (at : ℕ) (d e : List ℕ) (r : ℕ) : Type 0 where
  pub next : r ≡ at + length t
  pub out : e ≡ sets d at t
