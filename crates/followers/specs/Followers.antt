-- The symbols that may follow a beginning, the blocks in which they are looked for, and the list that they are written to.
use Rattle.std.specs.Prelude.{List, ◌≡◌, ℕ, ◌+◌, ◌-◌, ◌<◌, eqb, length, get_or}
use Rattle.rules.specs.Code.{eval}
use Rattle.rules.specs.Field.{ops, plus, times}
use Rattle.rules.specs.Lists.{from, below, keep}
use Rattle.rules.specs.Search.{firsts, follows}
use Rattle.buffers.specs.Change.{Changed}
use Rattle.followers.specs.Slot.{curve}

-- the value at the i-th symbol from g on, after one more coefficient c
abbrev pub horner_at : ℕ → ℕ → ℕ → List ℕ → ℕ → ℕ
horner_at q g c d i = plus q c (times q (g + i) (get_or d i 0))

-- Q(0, y) at the i-th symbol from g on, for the curve Q in the slot from b on
abbrev pub head_value_at : ℕ → ℕ → ℕ → ℕ → ℕ → List ℕ → ℕ → ℕ
head_value_at q g w l b d i = eval (ops q) (firsts (ops q) (curve w l b d)) (g + i)

-- a block holds Q(0, y) at the 32 symbols from g on
pub record BlockValues (q g w l b : ℕ) (d values : List ℕ) : Type 0 where
  pub long : length values ≡ 32
  pub each : (i : ℕ) → i < 32 → get_or values i 0 ≡ head_value_at q g w l b d i

-- those of the n numbers from g on at which d is zero
abbrev pub zeros_from : ℕ → ℕ → List ℕ → List ℕ
zeros_from g n d = keep (λ x. eqb (get_or d (x - g) 0) 0) (from g n)

-- those of the first n symbols that may follow the beginning with the curve Q
abbrev pub following : ℕ → List (List ℕ) → ℕ → List ℕ
following q Q n = keep (follows (ops q) Q) (below n)

-- the symbols that may follow the beginning whose curve stands in the slot from b on
abbrev pub followers_at : ℕ → ℕ → ℕ → ℕ → List ℕ → List ℕ
followers_at q w l b d = following q (curve w l b d) q

-- e is d with xs from place a on
abbrev pub Written : List ℕ → ℕ → List ℕ → List ℕ → Type 0
Written xs a d e = Changed (λ j. get_or xs j 0) a (length xs) d e

-- xs stands in e from place a on, and r is the place behind it
pub record Appended (xs : List ℕ) (a : ℕ) (d e : List ℕ) (r : ℕ) : Type 0 where
  pub count : r ≡ a + length xs
  pub list : Written xs a d e
