-- Row after row: the rows that carry has passed, what take_row makes of one row more, and the rows that divide has moved.
use mathlib.Core.Path.{◌≡◌, refl, sym, ap, ap₂, ◌∙◌}
use mathlib.Core.List.{List}
use Prim.Native.Nat.{ℕ, zero, suc, ◌+◌, ◌*◌, ◌<◌, ◌≤◌}
use native.Mathlib.Nat.{mul-le-mul_right}
use native.Mathlib.Omega.{arith}
use lib.ListN.{length, get_or}
use borrow.Author.Count.{below_more}
use Rattle.rules.specs.Field.{plus, times}
use Rattle.buffers.specs.Change.{Changed}
use Rattle.buffers.proofs.Rows.{row_end, row_fits}
use Rattle.within.specs.Runs.{added, shifted, moved, cut}
use Rattle.within.proofs.Read.{cut_low, cut_high}
use Rattle.lengthening.specs.Lengthened.{Carried, RowTaken, Moved}

-- the rows from u on and before m are carried
pub record Carrying (q g w u m : ℕ) (d e : List ℕ) : Type 0 where
  pub len : length e ≡ length d
  pub inner : (t i : ℕ) → u ≤ t → t < m → i < w → get_or e (t * w + i) 0 ≡ shifted q g d (t * w + w) (t * w) i
  pub low : (k : ℕ) → k < u * w → get_or e k 0 ≡ get_or d k 0
  pub high : (k : ℕ) → m * w ≤ k → get_or e k 0 ≡ get_or d k 0

moved_same : (d e : List ℕ) (b i : ℕ) → ((j : ℕ) → b ≤ j → get_or e j 0 ≡ get_or d j 0) → moved e b i ≡ moved d b i
unfolding moved
moved_same d e b zero h = refl
moved_same d e b (suc i) h = h (b + i) (omega arith)

module _ {q g w u : ℕ} {d e : List ℕ} where
  pub carrying_more : {e' : List ℕ} (m : ℕ) → u ≤ m → Carrying q g w u m d e → Changed (shifted q g e (m * w + w) (m * w)) (m * w) w e e' →
      Carrying q g w u (m + 1) d e'
  carrying_more {e'} m um h c = record {
    len = c.len ∙ h.len;
    inner = λ t i ut tm l. below_more (λ t. u ≤ t → get_or e' (t * w + i) 0 ≡ shifted q g d (t * w + w) (t * w) i) m
        (λ t tm ut. c.low (t * w + i) (omega (arith, row_fits w tm)) ∙ h.inner t i ut tm l)
        (λ ut. c.new i l ∙ ap₂ (λ (a b : ℕ). plus q a (times q g b)) (moved_same d e (m * w) i h.high) (h.high (m * w + w + i) (omega arith)))
        t tm ut;
    low = λ k l. c.low k (omega (arith, mul-le-mul_right w um)) ∙ h.low k l;
    high = λ k l. c.high k (omega (arith, row_end m w)) ∙ h.high k (omega (arith, row_end m w));
  }

  pub carried_last : {e' : List ℕ} (l : ℕ) → u ≤ l → Carrying q g w u l d e → Changed (moved e (l * w)) (l * w) w e e' → Carried q g w l u d e'
  carried_last {e'} l ul h c = record {
    len = c.len ∙ h.len;
    inner = λ t i ut tl m. c.low (t * w + i) (omega (arith, row_fits w tl)) ∙ h.inner t i ut tl m;
    last = λ i m. c.new i m ∙ moved_same d e (l * w) i h.high;
    low = λ k m. c.low k (omega (arith, mul-le-mul_right w ul)) ∙ h.low k m;
    high = λ k m. c.high k (omega arith) ∙ h.high k (omega arith);
  }

  pub carrying_to : {m n : ℕ} → Carrying q g w u m d e → m ≡ n → Carrying q g w u n d e
  carrying_to h q = rw q at h

  pub row_taken : {e' : List ℕ} (l : ℕ) → u < l → Changed (added q g d (u * w + w) (u * w)) (u * w) w d e → Carried q g w l (u + 1) e e' → RowTaken q g w l u d e'
  row_taken {e'} l ul c h = record {
    len = h.len ∙ c.len;
    first = λ i m. h.low (u * w + i) (omega (arith, row_end u w)) ∙ c.new i m;
    inner = λ t i ut tl m.
        let f = row_fits w ut in
        h.inner t i (omega arith) tl m
        ∙ ap₂ (λ (a b : ℕ). plus q a (times q g b)) (moved_same d e (t * w) i (λ j k. c.high j (omega arith))) (c.high (t * w + w + i) (omega arith));
    last = λ i m. let f = row_fits w ul in h.last i m ∙ moved_same d e (l * w) i (λ j k. c.high j (omega arith));
    low = λ k m. h.low k (omega (arith, row_end u w)) ∙ c.low k m;
    high = λ k m. let f = row_fits w ul in h.high k m ∙ c.high k (omega arith);
  }

-- one more row is moved
pub moved_more : {w v b : ℕ} {d e e' : List ℕ} (n : ℕ) → n * w + w ≤ b → v ≤ w → Moved w n v b d e → Changed (cut e (n * w) v w) (b + n * w) w e e' →
    Moved w (n + 1) v b d e'
moved_more {w} {v} {b} {d} {e} {e'} n nb vw h c = record {
  len = c.len ∙ h.len;
  moved = λ t i tl l. below_more (λ t. get_or e' (b + (t * w + i)) 0 ≡ get_or d (t * w + (i + v)) 0) n
      (λ t tl. c.low (b + (t * w + i)) (omega (arith, row_fits w tl)) ∙ h.moved t i tl l)
      (ap (λ (k : ℕ). get_or e' k 0) (sum3 i) ∙ c.new i (omega arith) ∙ sym (cut_low e (n * w) v w i l) ∙ h.low (n * w + (i + v)) (omega arith))
      t tl;
  behind = λ t i tl l m. below_more (λ t. get_or e' (b + (t * w + i)) 0 ≡ 0) n
      (λ t tl. c.low (b + (t * w + i)) (omega (arith, row_fits w tl)) ∙ h.behind t i tl l m)
      (ap (λ (k : ℕ). get_or e' k 0) (sum3 i) ∙ c.new i l ∙ sym (cut_high e (n * w) v w i m))
      t tl;
  low = λ k l. c.low k (omega arith) ∙ h.low k l;
}
  where
    sum3 : (i : ℕ) → b + (n * w + i) ≡ b + n * w + i
    sum3 i = omega arith
