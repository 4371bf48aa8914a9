-- What scoring and sifting need, and what keeping one message and sifting all leave.
use Rattle.std.specs.Prelude.{◌≡◌, Bool, cond, ℕ, ◌+◌, ◌*◌, ◌<◌, ◌≤◌, T, leb, length, get_or}
use mathlib.Core.List.{List, flatten}
use borrow.Rule.Slice.PartMut.{put_mid}
use Rattle.rules.specs.Field.{ops, modulus}
use Rattle.rules.specs.Code.{score, sifted}
use Rattle.rules.specs.Search.{rows}
use Rattle.rules.specs.Refusal.{under}
use Rattle.rules.specs.Outcome.{over}
use Rattle.weights.specs.Triples.{tripled}

-- as many points, symbols of the field and multiplicities: at most 64, and none of the last above 4
pub record Scorable (q : ℕ) (points word times : List ℕ) : Type 0 where
  pub field : T (modulus q)
  pub symbols : length word ≡ length points
  pub multiplicities : length times ≡ length points
  pub places : length points ≤ 64
  pub few : (j : ℕ) → j < length times → get_or times j 0 ≤ 4
  pub small : T (under q word)

-- whether the message f scores at least m
abbrev pub scores : ℕ → ℕ → List ℕ → List ℕ → List ℕ → List ℕ → Bool
scores q m points word times f = leb m (score (ops q) (tripled points word times) f)

-- where it does, it is counted and stands behind the kept ones; else nothing changes
pub record Counted (q m : ℕ) (points word times : List ℕ) (kept : ℕ) (f output output' : List ℕ) (kept' : ℕ) : Type 0 where
  pub number : kept' ≡ cond (scores q m points word times f) (kept + 1) kept
  pub written : output' ≡ cond (scores q m points word times f) (put_mid (kept * length f) (length f) output f) output

-- the messages, `count` runs of k numbers from the front of a buffer on, whose score is at least m
abbrev pub enough : ℕ → ℕ → ℕ → List ℕ → List ℕ → List ℕ → ℕ → List ℕ → List (List ℕ)
enough q k m points word times count found = sifted (ops q) m (tripled points word times) (rows k count found)

-- they stand one after the other at the front of the output, and are kept in number
pub record Sifted (q k m : ℕ) (points word times : List ℕ) (count : ℕ) (found output output' : List ℕ) (kept : ℕ) : Type 0 where
  pub number : kept ≡ length (enough q k m points word times count found)
  pub written : output' ≡ over (flatten (enough q k m points word times count found)) output
