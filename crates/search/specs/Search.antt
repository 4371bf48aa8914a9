-- What the search of a curve needs and leaves: the roots, the tally, and the slots.
use Rattle.std.specs.Prelude.{not, ◌≡◌, ℕ, ◌+◌, ◌*◌, ◌^◌, ◌<◌, ◌≤◌, T, length, get_or}
use mathlib.Core.List.{List, flatten}
use Rattle.rules.specs.Code.{zeros}
use Rattle.rules.specs.Curve.{weighted}
use Rattle.rules.specs.Field.{ops, modulus}
use Rattle.rules.specs.Outcome.{over}
use Rattle.rules.specs.Search.{rows, beginnings, roots as all_roots}
use Rattle.followers.specs.Slot.{run}
use Rattle.followers.specs.Followers.{Written}
use Rattle.roots.specs.declared.Tally.{Tally}

-- What a search of a curve needs: a field, a curve of its symbols that is not zero and fits its weighted degree,
-- and room for its slots, its roots and its counts.
pub record Asked (q k w l : ℕ) (curve work roots : List ℕ) (tally : Tally) : Type 0 where
  pub field : T (modulus q)
  pub symbols : 1 ≤ k
  pub few : k ≤ 64
  pub wide : 0 < w
  pub tall : l ≤ 24
  pub long : length curve ≡ (l + 1) * w
  pub low : (j : ℕ) → j < length curve → get_or curve j 0 < q
  pub live : T (not (zeros (ops q) curve))
  pub fits : T (weighted (ops q) k w l curve)
  pub slots : (k + 2) * ((l + 1) * w) ≤ length work
  pub room : (tally.found + l) * k ≤ length roots
  pub count : tally.tried + (1 + l * k) < 2 ^ 64

-- the roots of the curve
abbrev pub roots_of : ℕ → ℕ → ℕ → ℕ → List ℕ → List (List ℕ)
roots_of q k w l curve = all_roots (ops q) k (rows w (l + 1) curve)

-- the beginnings that are tried for it
abbrev pub tried_of : ℕ → ℕ → ℕ → ℕ → List ℕ → ℕ
tried_of q k w l curve = beginnings (ops q) k (rows w (l + 1) curve)

-- The tally counts the roots and the beginnings, at most ℓ and 1 + ℓ·k of them; the roots stand one after the other behind those found before.
pub record CurveSearched (q k w l : ℕ) (curve work roots : List ℕ) (tally : Tally) (work' roots' : List ℕ) (r : Tally) : Type 0 where
  pub found : r.found ≡ tally.found + length (roots_of q k w l curve)
  pub tried : r.tried ≡ tally.tried + tried_of q k w l curve
  pub list : Written (flatten (roots_of q k w l curve)) (tally.found * k) roots roots'
  pub long : length (flatten (roots_of q k w l curve)) ≡ length (roots_of q k w l curve) * k
  pub few : length (roots_of q k w l curve) ≤ l
  pub bound : tried_of q k w l curve ≤ 1 + l * k
  pub slots : length work' ≡ length work

-- the curve in the spare slot
abbrev pub spare : ℕ → ℕ → List ℕ → List ℕ
spare w l d = run 0 ((l + 1) * w) d

-- nothing is counted yet
abbrev pub none : Tally
none = record { found = 0; tried = 0 }

-- What the search of one curve leaves: the roots from the front of their buffer on, its further places untouched, and both counts.
pub record RootsLeft (q k w l : ℕ) (curve work roots work' roots' : List ℕ) (r : Tally) : Type 0 where
  pub found : r.found ≡ length (roots_of q k w l curve)
  pub tried : r.tried ≡ tried_of q k w l curve
  pub list : roots' ≡ over (flatten (roots_of q k w l curve)) roots
  pub few : length (roots_of q k w l curve) ≤ l
  pub bound : tried_of q k w l curve ≤ 1 + l * k
  pub slots : length work' ≡ length work
