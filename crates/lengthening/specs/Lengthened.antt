-- What the functions on slots leave: a slot is l + 1 rows of w numbers, and d and e are the buffer before and after.
use Rattle.std.specs.Prelude.{Bool, true, false, List, ◌≡◌, ℕ, ◌+◌, ◌-◌, ◌*◌, ◌<◌, ◌≤◌, length, get_or}
use Rattle.rules.specs.Field.{ops}
use Rattle.rules.specs.Search.{rows, step}
use Rattle.algebra.specs.Search.{cell, next, found, tried, Within}
use Rattle.within.specs.Runs.{added, shifted, moved}
use Rattle.followers.specs.Slot.{SlotBelow, curve}

-- each row from u on becomes x times itself plus g times the row after it, and the last row x times itself
pub record Carried (q g w l u : ℕ) (d e : List ℕ) : Type 0 where
  pub len : length e ≡ length d
  pub inner : (t i : ℕ) → u ≤ t → t < l → i < w → get_or e (t * w + i) 0 ≡ shifted q g d (t * w + w) (t * w) i
  pub last : (i : ℕ) → i < w → get_or e (l * w + i) 0 ≡ moved d (l * w) i
  pub low : (k : ℕ) → k < u * w → get_or e k 0 ≡ get_or d k 0
  pub high : (k : ℕ) → l * w + w ≤ k → get_or e k 0 ≡ get_or d k 0

-- row u takes g times the row after it, and the rows behind it are carried
pub record RowTaken (q g w l u : ℕ) (d e : List ℕ) : Type 0 where
  pub len : length e ≡ length d
  pub first : (i : ℕ) → i < w → get_or e (u * w + i) 0 ≡ added q g d (u * w + w) (u * w) i
  pub inner : (t i : ℕ) → u < t → t < l → i < w → get_or e (t * w + i) 0 ≡ shifted q g d (t * w + w) (t * w) i
  pub last : (i : ℕ) → i < w → get_or e (l * w + i) 0 ≡ moved d (l * w) i
  pub low : (k : ℕ) → k < u * w → get_or e k 0 ≡ get_or d k 0
  pub high : (k : ℕ) → l * w + w ≤ k → get_or e k 0 ≡ get_or d k 0

-- the first slot holds Q(x, x·y + g) for the curve Q that it held, cut to w columns
pub record Substituted (q g w l : ℕ) (d e : List ℕ) : Type 0 where
  pub len : length e ≡ length d
  pub cells : (t i : ℕ) → t < l + 1 → i < w → get_or e (t * w + i) 0 ≡ cell (ops q) (step (ops q) g (rows w (l + 1) d)) t i
  pub high : (k : ℕ) → (l + 1) * w ≤ k → get_or e k 0 ≡ get_or d k 0

-- column i of the first slot is zero
abbrev pub ColumnClear : ℕ → ℕ → ℕ → List ℕ → Type 0
ColumnClear w l i d = (t : ℕ) → t < l + 1 → get_or d (t * w + i) 0 ≡ 0

-- the answer says whether the column is zero
pub record Tells (w l i : ℕ) (d : List ℕ) (r : Bool) : Type 0 where
  pub clear : r ≡ true → ColumnClear w l i d
  pub stop : r ≡ false → ¬ ColumnClear w l i d

-- x^v is the largest power of x that divides the curve in the first slot, of those up to w
pub record CommonPower (w l : ℕ) (d : List ℕ) (v : ℕ) : Type 0 where
  pub small : v ≤ w
  pub clear : (i : ℕ) → i < v → ColumnClear w l i d
  pub stop : v < w → ¬ ColumnClear w l v d

-- n rows from b on hold those of the first slot over x^v
pub record Moved (w n v b : ℕ) (d e : List ℕ) : Type 0 where
  pub len : length e ≡ length d
  pub moved : (t i : ℕ) → t < n → i + v < w → get_or e (b + (t * w + i)) 0 ≡ get_or d (t * w + (i + v)) 0
  pub behind : (t i : ℕ) → t < n → i < w → w ≤ i + v → get_or e (b + (t * w + i)) 0 ≡ 0
  pub low : (k : ℕ) → k < b → get_or e k 0 ≡ get_or d k 0

-- .. and x^v is its largest common power of x
pub record SlotStripped (w l b : ℕ) (d e : List ℕ) : Type 0 where
  pub v : ℕ
  pub power : CommonPower w l d v
  pub moved : Moved w (l + 1) v b d e

-- Q(0, y) is not zero
abbrev pub Live : ℕ → List (List ℕ) → Type 0
Live q Q = ¬ ((t : ℕ) → cell (ops q) Q t 0 ≡ 0)

-- The slot after the one at a holds the curve of the beginning longer by g: with k symbols still to place, it is searched as the definition's curve is.
-- The slots up to the one at a stay, but for the spare.
pub record Lengthened (q g w l a : ℕ) (d e : List ℕ) : Type 0 where
  pub len : length e ≡ length d
  pub kept : (j : ℕ) → (l + 1) * w ≤ j → j < a + (l + 1) * w → get_or e j 0 ≡ get_or d j 0
  pub low : SlotBelow q (a + (l + 1) * w) ((l + 1) * w) e
  pub found : (k : ℕ) → Within (ops q) k w (curve w l a d) → found (ops q) k (curve w l (a + (l + 1) * w) e) ≡ found (ops q) k (next (ops q) g (curve w l a d))
  pub tried : (k : ℕ) → Within (ops q) k w (curve w l a d) → tried (ops q) k (curve w l (a + (l + 1) * w) e) ≡ tried (ops q) k (next (ops q) g (curve w l a d))
  pub within : (k : ℕ) → Within (ops q) k w (curve w l a d) → Within (ops q) (k - 1) w (curve w l (a + (l + 1) * w) e)
  pub live : (k : ℕ) → 0 < k → Within (ops q) k w (curve w l a d) → Live q (curve w l a d) → Live q (curve w l (a + (l + 1) * w) e)
