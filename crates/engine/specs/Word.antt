-- What finding and listing for a word need, and what they leave.
use Rattle.std.specs.Prelude.{◌≡◌, ℕ, ◌+◌, ◌-◌, ◌*◌, ◌/◌, ◌<◌, ◌≤◌, T, length, replicate}
use mathlib.Core.List.{List, flatten}
use Rattle.rules.specs.Lists.{below, sum}
use Rattle.rules.specs.Field.{ops}
use Rattle.rules.specs.Code.{triples}
use Rattle.rules.specs.Curve.{passes}
use Rattle.rules.specs.Search.{rows, beginnings, listed}
use Rattle.rules.specs.Refusal.{under}
use Rattle.rules.specs.Outcome.{over}
use Rattle.weights.specs.Shape.{Shaped}
use Rattle.roots.specs.declared.Tally.{Tally}

-- the numbers of an accepted setting, and a word with as many points
pub record Worded (q k w l s : ℕ) (points word : List ℕ) : Type 0 where
  pub shape : Shaped q k w l
  pub small : s ≤ 4
  pub few : length points ≤ 64
  pub same : length word ≡ length points

-- .. with room for the curve, and for a curve of each degree in y; and fewer conditions than coefficients
pub record Findable (q k w l s : ℕ) (points word curve work : List ℕ) : Type 0 where
  pub worded : Worded q k w l s points word
  pub whole : length curve ≡ (l + 1) * w
  pub slots : (l + 1) * ((l + 1) * w) ≤ length work
  pub enough : length points * s * (s + 1) / 2 < sum (λ t. w - t * (k - 1)) (below (l + 1))

-- a curve of symbols that passes, and the room as clear as it was long
pub record CurveLeft (q k w l s : ℕ) (points word curve work work' : List ℕ) : Type 0 where
  pub whole : length curve ≡ (l + 1) * w
  pub small : T (under q curve)
  pub passing : T (passes (ops q) k w l (triples s points word) curve)
  pub cleared : work' ≡ replicate (length work) 0

-- a word of symbols, a curve of symbols that passes for it, and room for the search and for the list
pub record Listable (q k w l s : ℕ) (points word curve output work : List ℕ) : Type 0 where
  pub worded : Worded q k w l s points word
  pub symbols : T (under q word)
  pub whole : length curve ≡ (l + 1) * w
  pub small : T (under q curve)
  pub passing : T (passes (ops q) k w l (triples s points word) curve)
  pub slots : (k + 2) * ((l + 1) * w) ≤ length work
  pub list : l * k ≤ 1536
  pub room : l * k ≤ length output

-- the roots of the curve whose score is at least w
abbrev pub scoring_roots : ℕ → ℕ → ℕ → ℕ → ℕ → List ℕ → List ℕ → List ℕ → List (List ℕ)
scoring_roots q k w l s points word curve = listed (ops q) k w (triples s points word) (rows w (l + 1) curve)

-- they are counted and stand at the front of the output; the beginnings are counted, and the room is as clear as it was long
pub record Listed (q k w l s : ℕ) (points word curve output work output' work' : List ℕ) (r : Tally) : Type 0 where
  pub found : r.found ≡ length (scoring_roots q k w l s points word curve)
  pub tried : r.tried ≡ beginnings (ops q) k (rows w (l + 1) curve)
  pub written : output' ≡ over (flatten (scoring_roots q k w l s points word curve)) output
  pub cleared : work' ≡ replicate (length work) 0

-- a word of symbols, and room for finding and for listing
pub record Readable (q k w l s : ℕ) (points word output curve work : List ℕ) : Type 0 where
  pub findable : Findable q k w l s points word curve work
  pub symbols : T (under q word)
  pub slots : (k + 2) * ((l + 1) * w) ≤ length work
  pub list : l * k ≤ 1536
  pub room : l * k ≤ length output
