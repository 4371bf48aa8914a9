-- What the search from a beginning leaves: the tally, the roots, and the slots and symbols of the beginnings that stay.
use Rattle.std.specs.Prelude.{List, ◌≡◌, ℕ, ◌+◌, ◌-◌, ◌*◌, ◌<◌, ◌≤◌, length, get_or, take}
use Rattle.followers.specs.Followers.{Written}
use Rattle.roots.specs.declared.sizes.Sizes.{Sizes}
use Rattle.roots.specs.declared.Tally.{Tally}
use Rattle.roots.specs.Ready.{size, listed}

-- The tally counts fs and n more; the roots stand behind those found before.
-- The slots up to the one at a stay, but for the spare, and so do the symbols placed.
pub record Searched (sizes : Sizes) (left a : ℕ) (work begun roots : List ℕ) (tally : Tally) (fs : List (List ℕ)) (n : ℕ)
    (work' begun' roots' : List ℕ) (r : Tally) : Type 0 where
  pub found : r.found ≡ tally.found + length fs
  pub tried : r.tried ≡ tally.tried + n
  pub list : Written (listed (take (sizes.k - left) begun) fs) (tally.found * sizes.k) roots roots'
  pub slots : length work' ≡ length work
  pub kept : (j : ℕ) → size sizes ≤ j → j < a + size sizes → get_or work' j 0 ≡ get_or work j 0
  pub beginning : length begun' ≡ length begun
  pub placed : (j : ℕ) → j < sizes.k - left → get_or begun' j 0 ≡ get_or begun j 0
