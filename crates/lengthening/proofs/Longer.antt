-- The curve of a longer beginning in its slot: number by number what the definitions say, carried through the field.
use mathlib.Core.Path.{◌≡◌, sym, ap, ap₂, ◌∙◌}
use mathlib.Core.List.{List, map}
use Prim.Native.Nat.{ℕ, suc, ◌+◌, ◌-◌, ◌*◌, ◌<◌, ◌≤◌, Fin}
use native.Mathlib.Nat.{mod-eq_of_lt, zero-mod}
use native.Mathlib.Omega.{arith}
use lib.Dec.{T}
use lib.ListN.{get_or, get_or-map}
use Rattle.rules.specs.Field.{Ops, ops, modulus}
use Rattle.rules.specs.Search.{rows, firsts, stripped, step}
use Rattle.algebra.specs.Poly.{Zero}
use Rattle.algebra.specs.Search.{cell, next, found, tried, Within, Headed}
use Rattle.algebra.proofs.Lists.{map_rows}
use Rattle.algebra.proofs.Bridge.{step_hom, stripped_hom}
use Rattle.algebra.proofs.Search.{found_same, tried_same, found_hom, tried_hom}
use Rattle.algebra.proofs.Strip.{stripped_within}
use Rattle.algebra.proofs.Slot.{slot_stripped, next_cells, next_found, next_tried, next_within}
use Rattle.algebra.proofs.Rows.{cell_firsts}
use Rattle.algebra.proofs.Alive.{next_headed}
use Rattle.prime.specs.Field.{value, elt, field}
use Rattle.prime.proofs.Below.{modulus_two}
use Rattle.prime.proofs.Laws.{laws, elt_value}
use Rattle.demands.proofs.Link.{elt_hom, value_hom}
use Rattle.buffers.proofs.Rows.{row_fits}
use Rattle.lengthening.specs.Lengthened.{Live}
use Rattle.lengthening.proofs.Numbers.{cell_hom, rows_values, step_value}

-- r is p stripped, number by number
pub record Shifted (w n : ℕ) (p r : List ℕ) : Type 0 where
  pub v : ℕ
  pub small : v ≤ w
  pub moved : (t i : ℕ) → t < n → i + v < w → get_or r (t * w + i) 0 ≡ get_or p (t * w + (i + v)) 0
  pub behind : (t i : ℕ) → t < n → i < w → w ≤ i + v → get_or r (t * w + i) 0 ≡ 0
  pub clear : (t i : ℕ) → t < n → i < v → get_or p (t * w + i) 0 ≡ 0
  pub stop : v < w → ¬ ((t : ℕ) → t < n → get_or p (t * w + v) 0 ≡ 0)

module _ (q : ℕ) (m : T (modulus q)) where
  abbrev h : 1 < q
  h = modulus_two q m

  abbrev F : Ops
  F = field q h

  abbrev e : ℕ → Fin q
  e = elt q h

  elt_at : (s : List ℕ) (j : ℕ) → get_or (map e s) j F.nil ≡ e (get_or s j 0)
  elt_at s j = get_or-map e s j 0

  module _ (w n : ℕ) where
    -- numbers below q
    abbrev Low : List ℕ → Type 0
    Low s = (j : ℕ) → j < n * w → get_or s j 0 < q

    back : (s : List ℕ) → Low s → map (map value) (rows w n (map e s)) ≡ rows w n s
    back s b = ap (map (map value)) (sym (map_rows e w n s)) ∙ rows_values q m w n s b

    within_elts : (k : ℕ) (s : List ℕ) → Within (ops q) k w (rows w n s) → Within F k w (rows w n (map e s))
    within_elts k s z t i l =
        ap (λ (P : List (List (Fin q))). cell F P t i) (sym (map_rows e w n s)) ∙ sym (cell_hom (ops q) F e (elt_hom q m h) (rows w n s) t i) ∙ ap e (z t i l)

    pub within_values : (k : ℕ) (s : List ℕ) → Low s → Within F k w (rows w n (map e s)) → Within (ops q) k w (rows w n s)
    within_values k s b z t i l =
        ap (λ (P : List (List ℕ)). cell (ops q) P t i) (sym (back s b)) ∙ sym (cell_hom F (ops q) value (value_hom q m h) (rows w n (map e s)) t i)
        ∙ ap value (z t i l) ∙ (value_hom q m h).nil

    -- Q(0, y) is not zero, of the numbers and of the symbols
    pub live_elts : (s : List ℕ) → Low s → Live q (rows w n s) → ¬ Zero F (firsts F (rows w n (map e s)))
    live_elts s b u z = u λ t.
        ap (λ (P : List (List ℕ)). cell (ops q) P t 0) (sym (back s b)) ∙ sym (cell_hom F (ops q) value (value_hom q m h) (rows w n (map e s)) t 0)
        ∙ ap value (sym (cell_firsts F (laws q m h) (rows w n (map e s)) t) ∙ z t) ∙ (value_hom q m h).nil

    live_values : (s : List ℕ) → ¬ Zero F (firsts F (rows w n (map e s))) → Live q (rows w n s)
    live_values s u z = u λ t.
        cell_firsts F (laws q m h) (rows w n (map e s)) t ∙ ap (λ (P : List (List (Fin q))). cell F P t 0) (sym (map_rows e w n s))
        ∙ sym (cell_hom (ops q) F e (elt_hom q m h) (rows w n s) t 0) ∙ ap e (z t)

    -- a curve with the same coefficients
    live_same : (s : List ℕ) (P : List (List (Fin q))) → cell F (rows w n (map e s)) ≡ cell F P → ¬ Zero F (firsts F P) → Live q (rows w n s)
    live_same s P same u = live_values s λ z. u λ t.
        cell_firsts F (laws q m h) P t ∙ ap (λ c. c t 0) (sym same) ∙ sym (cell_firsts F (laws q m h) (rows w n (map e s)) t) ∙ z t

    module _ (p r : List ℕ) (bp : Low p) (br : Low r) (c : Shifted w n p r) where
      strips : cell F (rows w n (map e r)) ≡ cell F (stripped F (rows w n (map e p)))
      strips = slot_stripped F (laws q m h) w n c.v (map e p) (map e r) c.small
          (λ t i l k. elt_at r _ ∙ ap e (c.moved t i l k) ∙ sym (elt_at p _))
          (λ t i l k j. elt_at r _ ∙ ap e (c.behind t i l k j))
          (λ t i l k. elt_at p _ ∙ ap e (c.clear t i l k))
          (λ l z. c.stop l (λ t k. sym (mod-eq_of_lt (bp (t * w + c.v) (omega (arith, row_fits w k)))) ∙ ap value (sym (elt_at p _) ∙ z t k) ∙ zero-mod q))

      -- a curve and what it leaves, stripped
      pub strip_found : (k : ℕ) → found (ops q) k (rows w n r) ≡ found (ops q) k (stripped (ops q) (rows w n p))
      strip_found k =
          ap (found (ops q) k) (sym (back r br)) ∙ sym (found_hom F (ops q) value (value_hom q m h) k (rows w n (map e r)))
          ∙ ap (map (map value)) (found_same F (laws q m h) k _ _ strips) ∙ found_hom F (ops q) value (value_hom q m h) k _
          ∙ ap (found (ops q) k) (stripped_hom F (ops q) value (value_hom q m h) _ ∙ ap (stripped (ops q)) (back p bp))

      pub strip_tried : (k : ℕ) → tried (ops q) k (rows w n r) ≡ tried (ops q) k (stripped (ops q) (rows w n p))
      strip_tried k =
          ap (tried (ops q) k) (sym (back r br)) ∙ sym (tried_hom F (ops q) value (value_hom q m h) k (rows w n (map e r)))
          ∙ tried_same F (laws q m h) k _ _ strips ∙ tried_hom F (ops q) value (value_hom q m h) k _
          ∙ ap (tried (ops q) k) (stripped_hom F (ops q) value (value_hom q m h) _ ∙ ap (stripped (ops q)) (back p bp))

      pub strip_within : (k : ℕ) → Within (ops q) k w (rows w n p) → Within (ops q) k w (rows w n r)
      strip_within k z = within_values k r br (λ t i l. ap (λ c. c t i) strips ∙ stripped_within F (laws q m h) k w _ (within_elts k p z) t i l)

      pub strip_live : (d : ℕ) → Headed F d (stripped F (rows w n (map e p))) → Live q (rows w n r)
      strip_live d t = live_same r _ strips t.live

      module _ (g : ℕ) (gq : g < q) (s : List ℕ) (bs : Low s)
          (steps : (t i : ℕ) → t < n → i < w → get_or p (t * w + i) 0 ≡ cell (ops q) (step (ops q) g (rows w n s)) t i) where
        cells : (t i : ℕ) → t < n → i < w → get_or (map e p) (t * w + i) F.nil ≡ cell F (step F (e g) (rows w n (map e s))) t i
        cells t i l k =
            elt_at p _ ∙ ap e (steps t i l k ∙ sym (step_value q m g gq (rows w n s) (rows_values q m w n s bs) 0 t i)) ∙ elt_value q h _
            ∙ ap (λ (P : List (List (Fin q))). cell F (step F (e g) P) t i) (map_rows e w n s)

        back_next : map (map value) (next F (e g) (rows w n (map e s))) ≡ next (ops q) g (rows w n s)
        back_next =
            stripped_hom F (ops q) value (value_hom q m h) _
            ∙ ap (stripped (ops q)) (step_hom F (ops q) value (value_hom q m h) (e g) (rows w n (map e s)) ∙ ap₂ (step (ops q)) (mod-eq_of_lt gq) (back s bs))

        pub step_found : (k : ℕ) → Within (ops q) k w (rows w n s) → found (ops q) k (rows w n r) ≡ found (ops q) k (next (ops q) g (rows w n s))
        step_found k z =
            ap (found (ops q) k) (sym (back r br)) ∙ sym (found_hom F (ops q) value (value_hom q m h) k (rows w n (map e r)))
            ∙ ap (map (map value)) (next_found F (laws q m h) w n (e g) (map e s) (map e p) (map e r) cells strips k (within_elts k s z))
            ∙ found_hom F (ops q) value (value_hom q m h) k (next F (e g) (rows w n (map e s))) ∙ ap (found (ops q) k) back_next

        pub step_tried : (k : ℕ) → Within (ops q) k w (rows w n s) → tried (ops q) k (rows w n r) ≡ tried (ops q) k (next (ops q) g (rows w n s))
        step_tried k z =
            ap (tried (ops q) k) (sym (back r br)) ∙ sym (tried_hom F (ops q) value (value_hom q m h) k (rows w n (map e r)))
            ∙ next_tried F (laws q m h) w n (e g) (map e s) (map e p) (map e r) cells strips k (within_elts k s z)
            ∙ tried_hom F (ops q) value (value_hom q m h) k (next F (e g) (rows w n (map e s))) ∙ ap (tried (ops q) k) back_next

        pub step_within : (k : ℕ) → Within (ops q) k w (rows w n s) → Within (ops q) (k - 1) w (rows w n r)
        step_within k z = within_values (k - 1) r br (next_within F (laws q m h) w n (e g) (map e s) (map e p) (map e r) cells strips k (within_elts k s z))

        pub step_live : (k : ℕ) → 0 < k → Within (ops q) k w (rows w n s) → Live q (rows w n s) → Live q (rows w n r)
        step_live k o z u =
            let f : k ≡ suc (k - 1) = omega arith in
            live_same r _ (next_cells F (laws q m h) w n (e g) (map e s) (map e p) (map e r) cells strips (k - 1)
            (rw f at (within_elts k s z)))
            (next_headed F (laws q m h) (e g) (rows w n (map e s)) (live_elts s bs u)).live
