-- A film: a patch file that is cut into parts, each read by itself, whose lines are joined again.
use Rattle.std.specs.Prelude.{◌≡◌, cond, false, ℕ, zero, suc, eqb, length, take, drop}
use mathlib.Core.List.{List, [], ◌∷◌, ◌++◌, foldl}
use Rattle.rules.specs.Patch.{digits, size, kind, broken, Held, nothing, turn}

-- Records

-- those of the input, at most f
unfoldable pub records_in : ℕ → List ℕ → List (List ℕ)
records_in zero input = []
records_in (suc f) [] = []
records_in (suc f) (first ∷ bytes) =
    let input = first ∷ bytes in
    take (size input) input ∷ records_in f (drop (size input) input)

-- those of a file: each takes two bytes or more
unfoldable pub records_of : List ℕ → List (List ℕ)
records_of input = records_in (suc (length input)) input

-- a whole record, and no byte behind it
abbrev pub Whole : List ℕ → Type 0
Whole b = (broken b ≡ false) × (size b ≡ length b)

abbrev pub EachWhole : List (List ℕ) → Type 0
EachWhole [] = Unit {0}
EachWhole (b ∷ records) = Whole b × EachWhole records

-- What is held and told, whatever the numbers are

-- what is held after these records
unfoldable pub held_after : Held → List (List ℕ) → Held
held_after held records = foldl (λ held b. (turn 1 held b).held) held records

-- what is printed for a record behind its number; the number 1 is one digit
unfoldable pub unnumbered : Held → List ℕ → List ℕ
unnumbered held b = drop 1 (turn 1 held b).text

-- that of each of these records, as far as the program goes
unfoldable pub told : Held → List (List ℕ) → List (List ℕ)
told held [] = []
told held (b ∷ records) = unnumbered held b ∷ cond (turn 1 held b).more (told (turn 1 held b).held records) []

-- that of each record of a file
unfoldable pub told_of : List ℕ → List (List ℕ)
told_of input = told nothing (records_of input)

-- the texts with their numbers in front, from number i on
unfoldable pub numbered : ℕ → List (List ℕ) → List ℕ
numbered i [] = []
numbered i (text ∷ texts) = digits i ++ (text ++ numbered (suc i) texts)

-- What the next part begins with: "the last kind 1 record before the cut and the last kind 2 record since, also refused ones"

-- points are kept behind a kept setting only
unfoldable pub behind : List (List ℕ) → List ℕ → List (List ℕ)
behind [] points = []
behind (setting ∷ others) points = setting ∷ points ∷ []

-- of the records kept, and the one that comes
unfoldable pub keeping : List (List ℕ) → List ℕ → List (List ℕ)
keeping kept b = cond (eqb (kind b) 1) (b ∷ []) (cond (eqb (kind b) 2) (behind kept b) kept)

-- of the records before the cut
unfoldable pub repeated : List (List ℕ) → List (List ℕ)
repeated records = foldl keeping [] records
