-- What the run from b on becomes, place by place; d is what the buffer held.
use Rattle.std.specs.Prelude.{cond, List, ◌⊎◌, ℕ, zero, suc, ◌+◌, ◌≤◌, ltb, get_or}
use Rattle.rules.specs.Field.{plus, times}

-- the runs of n numbers from a on and from b on have no place in common
abbrev pub RunsApart : ℕ → ℕ → ℕ → Type 0
RunsApart a b n = (a + n ≤ b) ⊎ (b + n ≤ a)

-- itself plus c times the run from a on
abbrev pub added : ℕ → ℕ → List ℕ → ℕ → ℕ → ℕ → ℕ
added q c d a b i = plus q (get_or d (b + i) 0) (times q c (get_or d (a + i) 0))

-- number i of x times the run from b on
unfoldable pub moved : List ℕ → ℕ → ℕ → ℕ
moved d b zero = 0
moved d b (suc i) = get_or d (b + i) 0

-- x times itself plus c times the run from a on
abbrev pub shifted : ℕ → ℕ → List ℕ → ℕ → ℕ → ℕ → ℕ
shifted q c d a b i = plus q (moved d b i) (times q c (get_or d (a + i) 0))

-- the run of n from a on, from its place v on, with zeros behind
unfoldable pub cut : List ℕ → ℕ → ℕ → ℕ → ℕ → ℕ
cut d a v n i = cond (ltb (i + v) n) (get_or d (a + (i + v)) 0) 0
