-- The rows from u on hold the step of the rows from u on of the curve: how take_row brings the next row in.
use mathlib.Core.Path.{◌≡◌, refl, sym, ap, ap₂, ◌∙◌}
use mathlib.Core.Logic.{⊎_elim}
use mathlib.Core.List.{List, map}
use Prim.Native.Nat.{ℕ, zero, suc, ◌+◌, ◌-◌, ◌*◌, ◌<◌, ◌≤◌}
use native.Mathlib.Omega.{arith}
use lib.Dec.{T}
use lib.ListN.{length, get_or, drop}
use Rattle.rules.specs.Field.{ops, plus, times, modulus}
use Rattle.rules.specs.Search.{rows, step}
use Rattle.algebra.specs.Poly.{shift}
use Rattle.algebra.specs.Search.{cell}
use Rattle.algebra.proofs.Rows.{rows_length}
use Rattle.prime.specs.Field.{value, elt}
use Rattle.prime.proofs.Below.{modulus_two, plus_none}
use Rattle.buffers.proofs.Change.{lt_or_ge}
use Rattle.buffers.proofs.Rows.{row_end}
use Rattle.within.specs.Runs.{moved}
use Rattle.followers.specs.Slot.{SlotBelow}
use Rattle.lengthening.specs.Lengthened.{RowTaken}
use Rattle.lengthening.proofs.Numbers.{rows_values, number_zero, number_suc, number_tall, number_below, number_cell}

pub record Stepping (q g w l u : ℕ) (d e : List ℕ) : Type 0 where
  pub len : length e ≡ length d
  pub cells : (t i : ℕ) → u ≤ t → t < l + 1 → i < w → get_or e (t * w + i) 0 ≡ cell (ops q) (step (ops q) g (drop u (rows w (l + 1) d))) (t - u) i
  pub low : (k : ℕ) → k < u * w → get_or e k 0 ≡ get_or d k 0
  pub high : (k : ℕ) → (l + 1) * w ≤ k → get_or e k 0 ≡ get_or d k 0

pub stepping_to : {q g w l u v : ℕ} {d e : List ℕ} → Stepping q g w l u d e → u ≡ v → Stepping q g w l v d e
stepping_to h q = rw q at h

module _ (q : ℕ) (m : T (modulus q)) (g : ℕ) (gq : g < q) (w l : ℕ) (d : List ℕ) (b : SlotBelow q 0 ((l + 1) * w) d) where
  abbrev Q : List (List ℕ)
  Q = rows w (l + 1) d

  low : (j : ℕ) → j < (l + 1) * w → get_or d j 0 < q
  low j k = let z : 0 + j ≡ j = omega arith in rw (← z) (b j k)

  abbrev c : ℕ → ℕ → ℕ → ℕ
  c u t i = cell (ops q) (step (ops q) g (drop u Q)) t i

  values : map (map value) (map (map (elt q (modulus_two q m))) Q) ≡ Q
  values = rows_values q m w (l + 1) d low

  none : (u t i : ℕ) → l + 1 ≤ u + t → c u t i ≡ 0
  none u t i k = number_tall q m g gq Q values u t i (omega (arith, rows_length w (l + 1) d))

  first : (u i : ℕ) → u < l + 1 → i < w → c u 0 i ≡ plus q (get_or d (u * w + i) 0) (times q g (c (suc u) 0 i))
  first u i k j =
      number_zero q m g gq Q values u i (omega (arith, rows_length w (l + 1) d))
      ∙ ap (λ (a : ℕ). plus q a (times q g (c (suc u) 0 i))) (number_cell q m w (l + 1) u i d low k j)

  pub stepping_none : Stepping q g w l l d d
  stepping_none = record {
    len = refl;
    cells = λ t i lt tl i<w.
        let e : t ≡ l = omega arith in
        let z : 0 ≡ t - l = omega arith in
        ap (λ (t : ℕ). get_or d (t * w + i) 0) e
        ∙ sym (plus_none q g _ (low (l * w + i) (omega (arith, row_end l w))))
        ∙ ap (λ (a : ℕ). plus q (get_or d (l * w + i) 0) (times q g a)) (sym (none (suc l) 0 i (omega arith)))
        ∙ sym (first l i (omega arith) i<w)
        ∙ ap (λ (t : ℕ). c l t i) z;
    low = λ k j. refl;
    high = λ k j. refl;
  }

  module _ (u : ℕ) (ul : u < l) {e e' : List ℕ} (h : Stepping q g w l (suc u) d e) (t : RowTaken q g w l u e e') where
    -- x times a row
    carried : (t i : ℕ) → u < t → t < l + 1 → i < w → moved e (t * w) i ≡ shift (ops q) (c (suc u) (t - suc u)) i
    unfolding moved shift
    carried t zero ut tl k = refl
    carried t (suc i) ut tl k = h.cells t i (omega arith) tl (omega arith)

    shift_below : (i n : ℕ) → shift (ops q) (c (suc u) n) i < q
    unfolding shift
    shift_below zero n = omega arith
    shift_below (suc i) n = number_below q m g gq Q values (suc u) n i

    above : (r i : ℕ) → u < r → r < l + 1 → i < w → get_or e' (r * w + i) 0 ≡ c u (suc (r - suc u)) i
    above r i ur rl k = ⊎_elim
        (λ j. t.inner r i ur j k
        ∙ ap₂ (λ (a b : ℕ). plus q a (times q g b)) (carried r i ur rl k)
        (ap (λ (n : ℕ). get_or e n 0) (after r i) ∙ h.cells (suc r) i (omega arith) (omega arith) k ∙ ap (λ (n : ℕ). c (suc u) n i) (next r ur))
        ∙ sym (number_suc q m g gq Q values u (r - suc u) i (omega (arith, rows_length w (l + 1) d))))
        (λ j. let f : r ≡ l = omega arith in
        ap (λ (n : ℕ). get_or e' (n * w + i) 0) f ∙ t.last i k ∙ ap (λ (n : ℕ). moved e (n * w) i) (sym f) ∙ carried r i ur rl k
        ∙ sym (plus_none q g _ (shift_below i (r - suc u)))
        ∙ ap (λ (a : ℕ). plus q (shift (ops q) (c (suc u) (r - suc u)) i) (times q g a)) (sym (none (suc u) (suc (r - suc u)) i (omega arith)))
        ∙ sym (number_suc q m g gq Q values u (r - suc u) i (omega (arith, rows_length w (l + 1) d))))
        (lt_or_ge r l)
      where
        after : (r i : ℕ) → r * w + w + i ≡ suc r * w + i
        after r i = omega arith

        next : (r : ℕ) → u < r → suc r - suc u ≡ suc (r - suc u)
        next r k = omega arith

    pub stepping_more : Stepping q g w l u d e'
    stepping_more = record {
      len = t.len ∙ h.len;
      cells = λ r i ur rl k. ⊎_elim
          (λ j. let f : suc (r - suc u) ≡ r - u = omega arith in above r i j rl k ∙ ap (λ (n : ℕ). c u n i) f)
          (λ j. let f : u ≡ r = omega arith in
          let z : 0 ≡ r - u = omega arith in
          let o : suc u - suc u ≡ 0 = omega arith in
          let p : u * w + w + i ≡ suc u * w + i = omega arith in
          ap (λ (n : ℕ). get_or e' (n * w + i) 0) (sym f) ∙ t.first i k
          ∙ ap₂ (λ (a b : ℕ). plus q a (times q g b)) (h.low (u * w + i) (omega arith))
          (ap (λ (n : ℕ). get_or e n 0) p ∙ h.cells (suc u) i (omega arith) (omega arith) k ∙ ap (λ (n : ℕ). c (suc u) n i) o)
          ∙ sym (first u i (omega arith) k) ∙ ap (λ (n : ℕ). c u n i) z)
          (lt_or_ge u r);
      low = λ k j. t.low k j ∙ h.low k (omega arith);
      high = λ k j. t.high k (omega (arith, row_end l w)) ∙ h.high k j;
    }
