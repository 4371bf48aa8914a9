-- What holds of the finder's numbers between its steps: the curves of the slots, as curves over the field, are a basis whose leading terms are least.
use Rattle.std.specs.Prelude.{◌≡◌, ◌⊎◌, List, ◌∷◌, [], ◌++◌, get_or}
use Prim.Native.Nat.{ℕ, ◌+◌, ◌-◌, ◌*◌, ◌<◌, ◌≤◌, Fin}
use Rattle.rules.specs.Field.{ops}
use Rattle.algebra.specs.Conditions.{Condition, Ready, carry, weight}
use Rattle.algebra.specs.Space.{space, In, rank, Curve, Basis, Least}
use Rattle.prime.specs.Field.{elt, field}
use Rattle.slots.specs.Slot.{slot, place}

-- no leading term is further than one out of the space
abbrev pub Fit : ℕ → ℕ → ℕ → List ℕ → Type 0
Fit k w l leads = (j : ℕ) → j ≤ l → get_or leads j 0 + j * (k - 1) ≤ w

-- curve p is alive and its value not zero, and of all such curves it has the least leading term
pub record First (k w l : ℕ) (leads values : List ℕ) (p : ℕ) : Type 0 where
  pub alive : In (space k w l) (get_or leads p 0) p
  pub some : ¬ (get_or values p 0 ≡ 0)
  pub least : (j : ℕ) → In (space k w l) (get_or leads j 0) j → ¬ (get_or values j 0 ≡ 0) →
      rank (space k w l) (get_or leads p 0) p ≤ rank (space k w l) (get_or leads j 0) j

-- no curve that is alive has a value that is not zero
abbrev pub Quiet : ℕ → ℕ → ℕ → List ℕ → List ℕ → Type 0
Quiet k w l leads values = (j : ℕ) → In (space k w l) (get_or leads j 0) j → get_or values j 0 ≡ 0

-- p is that curve, or ℓ + 1 where there is none
abbrev pub Picked : ℕ → ℕ → ℕ → List ℕ → List ℕ → ℕ → Type 0
Picked k w l leads values p = ((p ≡ l + 1) × ((j : ℕ) → In (space k w l) (get_or leads j 0) j → get_or values j 0 ≡ 0)) ⊎ First k w l leads values p

-- the weights of order a at α, for n places
abbrev pub Row : ℕ → ℕ → ℕ → ℕ → List ℕ → Type 0
Row q α a n xs = (i : ℕ) → i < n → get_or xs i 0 ≡ weight (ops q) α a i

module _ (q : ℕ) (h : 1 < q) (k w l : ℕ) where
  -- the curve in slot j
  abbrev pub view : List ℕ → ℕ → Curve (field q h)
  view work j i t = elt q h (get_or work (j * slot w l + place w t i) 0)

  -- after the conditions cs: a basis whose leading terms are least, of symbols, with zeros outside the space
  pub record Kept (cs : List (Condition (Fin q))) (leads work : List ℕ) : Type 0 where
    pub basis : Basis (field q h) (space k w l) cs (λ j. get_or leads j 0) (view work)
    pub least : Least (field q h) (space k w l) cs (λ j. get_or leads j 0)
    pub small : (j t i : ℕ) → j ≤ l → t ≤ l → i < w → get_or work (j * slot w l + place w t i) 0 < q
    pub clear : (j t i : ℕ) → j ≤ l → t ≤ l → i < w → w ≤ i + t * (k - 1) → get_or work (j * slot w l + place w t i) 0 ≡ 0

-- what one condition does, where x and y hold its weights
pub record Met (q k w l α : ℕ) (x y leads leads' work work' : List ℕ) : Type 0 where
  pub fit : Fit k w l leads'
  pub keeps : (r a b : ℕ) → Row q α a w x → Row q r b (l + 1) y → (h : 1 < q) (cs : List (Condition (Fin q))) →
      let c = carry (elt q h) (record { point = α; symbol = r; a = a; b = b }) in
      Ready cs c → Kept q h k w l cs leads work → Kept q h k w l (cs ++ (c ∷ [])) leads' work'
