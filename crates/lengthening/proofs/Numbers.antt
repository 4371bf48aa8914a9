-- The theorems of the search for numbers below q: each is carried from the field by value.
use mathlib.Core.Path.{◌≡◌, refl, sym, ap, ap₂, subst, ◌∙◌}
use mathlib.Core.List.{List, [], ◌∷◌, map}
use Prim.Native.Nat.{ℕ, zero, suc, ◌+◌, ◌-◌, ◌*◌, ◌<◌, ◌≤◌, ◌/◌, ◌%◌, Fin}
use native.Mathlib.Nat.{mod-eq_of_lt, mod-lt, div-add-mod', div-lt_iff_lt-mul}
use native.Mathlib.Omega.{arith}
use lib.Dec.{T}
use lib.ListN.{length, get_or, take, drop, get_or-map, length-take, length-drop, length-map}
use lib.Seq.{get_or-take, get_or-drop, ext_get_or, length-take-le}
use Rattle.rules.specs.Field.{Ops, ops, plus, times, modulus}
use Rattle.rules.specs.Search.{rows, step}
use Rattle.algebra.specs.Hom.{Hom}
use Rattle.algebra.specs.Poly.{coef, shift}
use Rattle.algebra.specs.Search.{cell}
use Rattle.algebra.proofs.Lists.{map_drop, map_rows}
use Rattle.algebra.proofs.Bridge.{step_hom}
use Rattle.algebra.proofs.Rows.{cell_length, cell_rows}
use Rattle.algebra.proofs.Step.{step_tall}
use Rattle.algebra.proofs.Slot.{step_from_zero, step_from_suc}
use Rattle.prime.specs.Field.{value, elt, field}
use Rattle.prime.proofs.Below.{modulus_two}
use Rattle.prime.proofs.Laws.{laws}
use Rattle.demands.proofs.Link.{value_hom}
use Rattle.buffers.proofs.Rows.{row_fits}

-- a coefficient crosses
pub cell_hom : (O O' : Ops) (φ : O.Symbol → O'.Symbol) (H : Hom O O' φ) (Q : List (List O.Symbol)) (t i : ℕ) →
    φ (cell O Q t i) ≡ cell O' (map (map φ) Q) t i
unfolding cell coef
cell_hom O O' φ H Q t i =
    sym (get_or-map φ (get_or Q t []) i O.nil)
    ∙ ap₂ (λ (q : List O'.Symbol) (d : O'.Symbol). get_or q i d) (sym (get_or-map (map φ) Q t [])) H.nil

module _ (q : ℕ) (m : T (modulus q)) where
  abbrev h : 1 < q
  h = modulus_two q m

  abbrev F : Ops
  F = field q h

  abbrev e : ℕ → Fin q
  e = elt q h

  values : (s : List ℕ) → ((j : ℕ) → j < length s → get_or s j 0 < q) → map value (map e s) ≡ s
  values [] b = refl
  values (a ∷ s) b = ap₂ ◌∷◌ (mod-eq_of_lt (b 0 (omega arith))) (values s (λ j l. b (suc j) (omega arith)))

  -- the rows of numbers below q are the values of rows of elements
  pub rows_values : (w n : ℕ) (s : List ℕ) → ((j : ℕ) → j < n * w → get_or s j 0 < q) → map (map value) (map (map e) (rows w n s)) ≡ rows w n s
  unfolding rows
  rows_values w zero s b = refl
  rows_values w (suc n) s b = ap₂ ◌∷◌
      (values (take w s) (λ j l. let k : j < w = omega (arith, length-take w s) in rw (get_or-take w s j 0 k) (b j (omega arith))))
      (rows_values w n (drop w s) (λ j l. rw (get_or-drop w s j 0) (b (w + j) (omega arith))))

  -- P stands for Q, and Q is a curve of numbers below q
  module _ (g : ℕ) (b : g < q) (Q : List (List ℕ)) (c : map (map value) (map (map e) Q) ≡ Q) where
    abbrev Q' : List (List (Fin q))
    Q' = map (map e) Q

    pub step_value : (u t i : ℕ) → value (cell F (step F (e g) (drop u Q')) t i) ≡ cell (ops q) (step (ops q) g (drop u Q)) t i
    step_value u t i =
        cell_hom F (ops q) value (value_hom q m h) (step F (e g) (drop u Q')) t i
        ∙ ap (λ (P : List (List ℕ)). cell (ops q) P t i) (step_hom F (ops q) value (value_hom q m h) (e g) (drop u Q')
        ∙ ap₂ (step (ops q)) (mod-eq_of_lt b) (map_drop (map value) u Q' ∙ ap (drop u) c))

    cell_value : (t i : ℕ) → value (cell F Q' t i) ≡ cell (ops q) Q t i
    cell_value t i = cell_hom F (ops q) value (value_hom q m h) Q' t i ∙ ap (λ (P : List (List ℕ)). cell (ops q) P t i) c

    -- Horner's rule from the last row on
    pub number_zero : (u i : ℕ) → u < length Q →
        cell (ops q) (step (ops q) g (drop u Q)) 0 i ≡ plus q (cell (ops q) Q u i) (times q g (cell (ops q) (step (ops q) g (drop (suc u) Q)) 0 i))
    number_zero u i l =
        sym (step_value u 0 i)
        ∙ ap value (step_from_zero F (laws q m h) (e g) Q' u (omega (arith, length-map Q (map e))) i)
        ∙ (value_hom q m h).add (cell F Q' u i) (F.mul (e g) (cell F (step F (e g) (drop (suc u) Q')) 0 i))
        ∙ ap₂ (plus q) (cell_value u i)
        ((value_hom q m h).mul (e g) (cell F (step F (e g) (drop (suc u) Q')) 0 i) ∙ ap₂ (times q) (mod-eq_of_lt b) (step_value (suc u) 0 i))

    shift_value : (u t i : ℕ) → value (shift F (cell F (step F (e g) (drop u Q')) t) i) ≡ shift (ops q) (cell (ops q) (step (ops q) g (drop u Q)) t) i
    unfolding shift
    shift_value u t zero = (value_hom q m h).nil
    shift_value u t (suc i) = step_value u t i

    pub number_suc : (u t i : ℕ) → u < length Q → cell (ops q) (step (ops q) g (drop u Q)) (suc t) i
        ≡ plus q (shift (ops q) (cell (ops q) (step (ops q) g (drop (suc u) Q)) t) i) (times q g (cell (ops q) (step (ops q) g (drop (suc u) Q)) (suc t) i))
    number_suc u t i l =
        sym (step_value u (suc t) i)
        ∙ ap value (step_from_suc F (laws q m h) (e g) Q' u (omega (arith, length-map Q (map e))) t i)
        ∙ (value_hom q m h).add (shift F (cell F (step F (e g) (drop (suc u) Q')) t) i) (F.mul (e g) (cell F (step F (e g) (drop (suc u) Q')) (suc t) i))
        ∙ ap₂ (plus q) (shift_value (suc u) t i)
        ((value_hom q m h).mul (e g) (cell F (step F (e g) (drop (suc u) Q')) (suc t) i) ∙ ap₂ (times q) (mod-eq_of_lt b) (step_value (suc u) (suc t) i))

    -- the step adds no row
    pub number_tall : (u t i : ℕ) → length Q ≤ u + t → cell (ops q) (step (ops q) g (drop u Q)) t i ≡ 0
    number_tall u t i l =
        sym (step_value u t i)
        ∙ ap value (step_tall F (laws q m h) (e g) (length Q - u) (drop u Q')
        (λ s j k. cell_length F (laws q m h) (drop u Q') s j (omega (arith, length-drop u Q', length-map Q (map e)))) t i (omega arith))
        ∙ (value_hom q m h).nil

    pub number_below : (u t i : ℕ) → cell (ops q) (step (ops q) g (drop u Q)) t i < q
    number_below u t i = rw (← step_value u t i) (cell F (step F (e g) (drop u Q')) t i).1

  -- "The coefficient of x^i·y^t .. stands at place t·W + i"
  pub number_cell : (w n t i : ℕ) (s : List ℕ) → ((j : ℕ) → j < n * w → get_or s j 0 < q) → t < n → i < w → cell (ops q) (rows w n s) t i ≡ get_or s (t * w + i) 0
  number_cell w n t i s b l k =
      sym (cell_hom F (ops q) value (value_hom q m h) (map (map e) (rows w n s)) t i ∙ ap (λ (P : List (List ℕ)). cell (ops q) P t i) (rows_values w n s b))
      ∙ ap (λ (P : List (List (Fin q))). value (cell F P t i)) (map_rows e w n s)
      ∙ ap value (cell_rows F (laws q m h) w n t i (map e s) l k)
      ∙ ap value (get_or-map e s (t * w + i) 0)
      ∙ mod-eq_of_lt (b (t * w + i) (omega (arith, row_fits w l)))

-- the index of a slot as a row and a column
pub by_cell : (w n : ℕ) (P : ℕ → Type 0) → 0 < w → ((t i : ℕ) → t < n → i < w → P (t * w + i)) → (j : ℕ) → j < n * w → P j
by_cell w n P o f j l = subst P (div-add-mod' j w) (f (j / w) (j % w) ((div-lt_iff_lt-mul o).1 l) (mod-lt j o))

pub rows_same : (w n : ℕ) (a b : List ℕ) → n * w ≤ length a → n * w ≤ length b → ((j : ℕ) → j < n * w → get_or a j 0 ≡ get_or b j 0) → rows w n a ≡ rows w n b
unfolding rows
rows_same w zero a b u v h = refl
rows_same w (suc n) a b u v h = ap₂ ◌∷◌
    (ext_get_or 0 (take w a) (take w b) (length-take-le w a (omega arith) ∙ sym (length-take-le w b (omega arith)))
    (λ j l. let k : j < w = omega (arith, length-take w a) in get_or-take w a j 0 k ∙ h j (omega arith) ∙ sym (get_or-take w b j 0 k)))
    (rows_same w n (drop w a) (drop w b) (omega (arith, length-drop w a)) (omega (arith, length-drop w b))
    (λ j l. get_or-drop w a j 0 ∙ h (w + j) (omega arith) ∙ sym (get_or-drop w b j 0)))
