-- A slot of a buffer holds the curve of a beginning: l + 1 rows of w numbers.
use Rattle.std.specs.Prelude.{List, ℕ, ◌+◌, ◌*◌, ◌<◌, get_or, take, drop}
use Rattle.rules.specs.Search.{rows}

-- the n numbers from a on
abbrev pub run : ℕ → ℕ → List ℕ → List ℕ
run a n d = take n (drop a d)

-- the n numbers from a on are below q
abbrev pub SlotBelow : ℕ → ℕ → ℕ → List ℕ → Type 0
SlotBelow q a n d = (j : ℕ) → j < n → get_or d (a + j) 0 < q

-- the curve in the slot from a on
abbrev pub curve : ℕ → ℕ → ℕ → List ℕ → List (List ℕ)
curve w l a d = rows w (l + 1) (run a ((l + 1) * w) d)
