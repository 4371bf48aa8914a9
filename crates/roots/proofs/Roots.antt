-- The roots written one after the other, and the test at the end of a beginning.
use mathlib.Core.Bool.{Bool, true, false, cond, not}
use mathlib.Core.Path.{◌≡◌, refl, sym, ap, ap₂, ◌∙◌}
use mathlib.Core.List.{List, [], ◌∷◌, ◌++◌, map, flatten, append-nil, append_assoc}
use Prim.Native.Nat.{ℕ, ◌+◌, ◌-◌, ◌*◌, ◌≤◌}
use native.Mathlib.Omega.{arith}
use native.Mathlib.Numerals.{add-one}
use lib.Dec.{T}
use lib.ListN.{length, get_or, take, drop}
use lib.Seq.{get_or-take, length-take-le, take-take}
use Rattle.std.proofs.lemmas.List.{places}
use borrow.Rule.Slice.PartMut.{put_mid}
use Rattle.rules.specs.Code.{zeros}
use Rattle.rules.specs.Field.{ops}
use Rattle.rules.specs.Refusal.{under}
use Rattle.rules.specs.Search.{rows}
use Rattle.algebra.specs.Search.{found}
use Rattle.buffers.proofs.Part.{len_mid}
use Rattle.buffers.proofs.Rows.{row_end}
use Rattle.runs.specs.Runs.{blank}
use Rattle.runs.proofs.Places.{under_of, zeros_blank}
use borrow.Author.Tests.{not-true, not-false}
use Rattle.roots.specs.declared.sizes.Sizes.{Sizes}
use Rattle.roots.specs.declared.Tally.{Tally}
use Rattle.followers.specs.Slot.{run, SlotBelow, curve}
use Rattle.followers.specs.Followers.{Written}
use Rattle.roots.specs.Ready.{listed, SearchReady}
use Rattle.followers.proofs.Heads.{run_at}

-- the room for one root more, and that the count of it fits
pub room_one : (x k n : ℕ) (fs : List (List ℕ)) → fs ≡ [] ∷ [] → (x + length fs) * k ≤ n → x * k + k ≤ n
room_one x k n fs e h = rw (← row_end x k) (rw e at h)

-- the symbols copied in one piece
pub written_part : {a k n : ℕ} (d ys xs : List ℕ) → a + n ≤ length d → length xs ≡ n → ys ≡ xs → k ≡ n → Written xs a d (put_mid a k d ys)
written_part {a} {k} {n} d ys xs fits long same whole = record {
  len = grind (arith, places);
  new = grind (arith, places);
  low = grind (arith, places);
  high = grind (arith, places);
}

module _ (p : List ℕ) where
  pub listed_none : listed p [] ≡ []
  unfolding listed flatten
  listed_none = refl

  pub listed_one : listed p ([] ∷ []) ≡ p
  unfolding listed flatten
  listed_one = append-nil (p ++ []) ∙ append-nil p

  pub listed_append : (fs gs : List (List ℕ)) → listed p (fs ++ gs) ≡ listed p fs ++ listed p gs
  unfolding listed flatten
  listed_append [] gs = refl
  listed_append (f ∷ fs) gs = ap (◌++◌ (p ++ f)) (listed_append fs gs) ∙ sym (append_assoc (p ++ f) (listed p fs) (listed p gs))

  -- one symbol more stands in the beginning
  pub listed_more : (g : ℕ) (fs : List (List ℕ)) → listed (p ++ (g ∷ [])) fs ≡ listed p (map (◌∷◌ g) fs)
  unfolding listed flatten
  listed_more g [] = refl
  listed_more g (f ∷ fs) = ap₂ ◌++◌ (append_assoc p (g ∷ []) f) (listed_more g fs)

-- the row at y^0 of the curve in a slot
module _ (q w l a : ℕ) (d : List ℕ) (low : SlotBelow q a ((l + 1) * w) d) (fits : a + (l + 1) * w ≤ length d) where
  abbrev row : List ℕ
  row = take w (run a ((l + 1) * w) d)

  wide : w ≤ (l + 1) * w
  wide = omega (arith, row_end l w)

  row_length : length row ≡ w
  row_length = length-take-le w (run a ((l + 1) * w) d) (omega (arith, wide, len_mid a ((l + 1) * w) d fits))

  row_low : T (under q row)
  row_low = under_of q row (λ j k. rw (
    get_or-take w (run a ((l + 1) * w) d) j 0 (omega (arith, row_length)),
    run_at a ((l + 1) * w) d j (omega (arith, row_length, wide)),
  ) (low j (omega (arith, row_length, wide))))

  -- the places from a to before a + w
  row_part : run a (a + w - a) d ≡ row
  row_part = let n : a + w - a ≡ w = omega arith in ap (λ (m : ℕ). run a m d) n ∙ sym (take-take w ((l + 1) * w) (drop a d) wide)

  first_row : get_or (rows w (l + 1) (run a ((l + 1) * w) d)) 0 [] ≡ row
  unfolding rows
  first_row = rw (add-one l) refl

  found_end : found (ops q) 0 (curve w l a d) ≡ cond (blank (run a (a + w - a) d)) ([] ∷ []) []
  unfolding found
  found_end = ap (λ (b : Bool). cond b ([] ∷ []) []) (ap (zeros (ops q)) first_row ∙ zeros_blank q row row_low ∙ ap blank (sym row_part))

-- the messages found where no symbol is left: by what the test of the row at y^0 says, one or none
module _ {sizes : Sizes} {a n : ℕ} {d b z : List ℕ} {t : Tally} {fs : List (List ℕ)} {r : Bool} (ready : SearchReady sizes 0 a d b z t fs n)
    (told : r ≡ blank (run a (a + sizes.rows.w - a) d)) where
  ends : (x : Bool) → r ≡ x → found (ops sizes.rows.field.q) 0 (curve sizes.rows.w sizes.rows.l a d) ≡ cond x ([] ∷ []) []
  ends x e = found_end sizes.rows.field.q sizes.rows.w sizes.rows.l a d ready.low (omega (arith, ready.slots)) ∙ ap (λ (y : Bool). cond y ([] ∷ []) []) (sym told ∙ e)

  pub found_one : not r ≡ false → found (ops sizes.rows.field.q) 0 (curve sizes.rows.w sizes.rows.l a d) ≡ [] ∷ []
  found_one e = ends true (not-false r e)

  pub found_none : not r ≡ true → found (ops sizes.rows.field.q) 0 (curve sizes.rows.w sizes.rows.l a d) ≡ []
  found_none e = ends false (not-true r e)
