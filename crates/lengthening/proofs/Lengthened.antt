-- lengthen: what its three calls leave is the curve of the longer beginning. The strip of the first slot is here for the search as well.
use mathlib.Core.Path.{◌≡◌, sym, ap, ◌∙◌}
use mathlib.Core.Logic.{⊎_elim}
use mathlib.Core.List.{List}
use Prim.Native.Nat.{ℕ, ◌+◌, ◌*◌, ◌<◌, ◌≤◌}
use native.Mathlib.Omega.{arith}
use lib.Dec.{T}
use lib.ListN.{length, get_or}
use Rattle.rules.specs.Field.{ops, modulus}
use Rattle.rules.specs.Search.{rows, step}
use Rattle.algebra.specs.Search.{cell}
use Rattle.prime.proofs.Below.{modulus_two}
use Rattle.buffers.specs.Change.{Changed}
use Rattle.buffers.proofs.Change.{lt_or_ge, changed_front}
use Rattle.buffers.proofs.Part.{len_mid}
use Rattle.buffers.proofs.Rows.{row_fits}
use Rattle.followers.specs.Slot.{run, SlotBelow}
use Rattle.lengthening.specs.Lengthened.{Substituted, SlotStripped, Lengthened}
use Rattle.followers.proofs.Heads.{run_at, run_front}
use Rattle.lengthening.proofs.Numbers.{rows_values, rows_same, by_cell, number_below}
use Rattle.lengthening.proofs.Longer.{Shifted, step_found, step_tried, step_within, step_live}

-- the first slot stripped into the slot from b on
module _ (w l b : ℕ) (d e : List ℕ) (c : SlotStripped w l b d e) where
  abbrev S : ℕ
  S = (l + 1) * w

  pub shifted : Shifted w (l + 1) (run 0 S d) (run b S e)
  shifted = record {
    v = c.v;
    small = c.power.small;
    moved = λ t i k j. run_at b S e _ (omega (arith, row_fits w k)) ∙ c.moved.moved t i k j ∙ sym (run_front S d _ (omega (arith, row_fits w k)));
    behind = λ t i k j m. run_at b S e _ (omega (arith, row_fits w k)) ∙ c.moved.behind t i k j m;
    clear = λ t i k j. run_front S d _ (omega (arith, row_fits w k, c.power.small)) ∙ c.power.clear i j t k;
    stop = λ k z. c.power.stop k (λ t j. sym (run_front S d _ (omega (arith, row_fits w j))) ∙ z t j);
  }

  -- what is stripped stays below q
  pub strip_low : (q : ℕ) → 0 < q → 0 < w → ((j : ℕ) → j < S → get_or (run 0 S d) j 0 < q) → (j : ℕ) → j < S → get_or (run b S e) j 0 < q
  unfolding shifted
  strip_low q o p f = by_cell w (l + 1) (λ j. get_or (run b S e) j 0 < q) p λ t i k j.
      ⊎_elim (λ u. rw (shifted.moved t i k u) (f _ (omega (arith, row_fits w k))))
      (λ u. rw (shifted.behind t i k j u) o)
      (lt_or_ge (i + c.v) w)

module _ (q : ℕ) (m : T (modulus q)) (g : ℕ) (gq : g < q) (w l a : ℕ) (o : 0 < w) (d d₁ d₂ e : List ℕ) (fits : (l + 1) * w ≤ a)
    (room : a + (l + 1) * w + (l + 1) * w ≤ length d)
    (low : SlotBelow q a ((l + 1) * w) d) (copied : Changed (λ i. get_or d (a + i) 0) 0 ((l + 1) * w) d d₁) (stepped : Substituted q g w l d₁ d₂)
    (c : SlotStripped w l (a + (l + 1) * w) d₂ e) where
  abbrev n : ℕ
  n = (l + 1) * w

  abbrev s : List ℕ
  s = run a n d

  abbrev p : List ℕ
  p = run 0 n d₂

  abbrev r : List ℕ
  r = run (a + n) n e

  low_s : (j : ℕ) → j < n → get_or s j 0 < q
  low_s j k = rw (run_at a n d j k) (low j k)

  same : rows w (l + 1) d₁ ≡ rows w (l + 1) s
  same = rows_same w (l + 1) d₁ s (omega (arith, copied.len)) (omega (arith, len_mid a n d (omega arith)))
      (λ j k. changed_front copied j k ∙ sym (run_at a n d j k))

  steps : (t i : ℕ) → t < l + 1 → i < w → get_or p (t * w + i) 0 ≡ cell (ops q) (step (ops q) g (rows w (l + 1) s)) t i
  steps t i k j = run_front n d₂ _ (omega (arith, row_fits w k)) ∙ stepped.cells t i k j ∙ ap (λ (P : List (List ℕ)). cell (ops q) (step (ops q) g P) t i) same

  low_p : (j : ℕ) → j < n → get_or p j 0 < q
  low_p = by_cell w (l + 1) (λ j. get_or p j 0 < q) o λ t i k j. rw (steps t i k j)
      (number_below q m g gq (rows w (l + 1) s) (rows_values q m w (l + 1) s low_s) 0 t i)

  low_r : (j : ℕ) → j < n → get_or r j 0 < q
  low_r = strip_low w l (a + n) d₂ e c q (omega (arith, modulus_two q m)) o low_p

  pub lengthened : Lengthened q g w l a d e
  lengthened = record {
    len = c.moved.len ∙ stepped.len ∙ copied.len;
    kept = λ j u v. c.moved.low j v ∙ stepped.high j u ∙ copied.high j (omega arith);
    low = λ j k. rw (← run_at (a + n) n e j k) (low_r j k);
    found = step_found q m w (l + 1) p r low_p low_r (shifted w l (a + n) d₂ e c) g gq s low_s steps;
    tried = step_tried q m w (l + 1) p r low_p low_r (shifted w l (a + n) d₂ e c) g gq s low_s steps;
    within = step_within q m w (l + 1) p r low_p low_r (shifted w l (a + n) d₂ e c) g gq s low_s steps;
    live = step_live q m w (l + 1) p r low_p low_r (shifted w l (a + n) d₂ e c) g gq s low_s steps;
  }
