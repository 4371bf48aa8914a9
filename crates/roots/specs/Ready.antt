-- What the search needs at a beginning: its curve in a slot, and room for what is found from it.
use mathlib.Core.List.{List, ◌++◌, map, flatten}
use Rattle.std.specs.Prelude.{ℕ, ◌+◌, ◌-◌, ◌*◌, ◌^◌, ◌<◌, ◌≤◌, length}
use Rattle.rules.specs.Field.{ops}
use Rattle.algebra.specs.Search.{Within, found, tried}
use Rattle.followers.specs.Slot.{SlotBelow, curve}
use Rattle.lengthening.specs.Lengthened.{Live}
use Rattle.roots.specs.declared.sizes.Sizes.{Sizes}
use Rattle.roots.specs.declared.Tally.{Tally}

-- the numbers of a slot
abbrev pub size : Sizes → ℕ
size sizes = (sizes.rows.l + 1) * sizes.rows.w

-- what goes on from the curve in the slot at a to a root, with `left` symbols to place
abbrev pub found_at : Sizes → ℕ → ℕ → List ℕ → List (List ℕ)
found_at sizes left a work = found (ops sizes.rows.field.q) left (curve sizes.rows.w sizes.rows.l a work)

-- how many beginnings are tried from there on, the one there counted
abbrev pub tried_at : Sizes → ℕ → ℕ → List ℕ → ℕ
tried_at sizes left a work = tried (ops sizes.rows.field.q) left (curve sizes.rows.w sizes.rows.l a work)

-- the messages that begin with p and go on with one of fs, one after the other
unfoldable pub listed : List ℕ → List (List ℕ) → List ℕ
listed p fs = flatten (map (◌++◌ p) fs)

-- With `left` symbols to place, the slot at a holds a curve from which the messages fs are found and n beginnings are tried:
-- there is room for its slots and the roots, and the counts fit.
pub record SearchReady (sizes : Sizes) (left a : ℕ) (work begun roots : List ℕ) (tally : Tally) (fs : List (List ℕ)) (n : ℕ) : Type 0 where
  pub placed : left ≤ sizes.k
  pub spare : size sizes ≤ a
  pub slots : a + (left * size sizes + size sizes) ≤ length work
  pub low : SlotBelow sizes.rows.field.q a (size sizes) work
  pub within : Within (ops sizes.rows.field.q) (left - 1) sizes.rows.w (curve sizes.rows.w sizes.rows.l a work)
  pub live : 0 < left → Live sizes.rows.field.q (curve sizes.rows.w sizes.rows.l a work)
  pub beginning : sizes.k ≤ length begun
  pub room : (tally.found + length fs) * sizes.k ≤ length roots
  pub count : tally.tried + n < 2 ^ 64
