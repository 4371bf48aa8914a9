-- The columns of the first slot: whether one is zero, and how many the slot begins with that are.
use mathlib.Core.Bool.{Bool, true, false}
use mathlib.Core.Path.{◌≡◌, subst, ◌∙◌}
use mathlib.Core.List.{List}
use Prim.Native.Nat.{ℕ, ◌+◌, ◌*◌, ◌<◌, ◌≤◌}
use native.Mathlib.Nat.{zero-add}
use native.Mathlib.Omega.{arith}
use lib.ListN.{length, get_or}
use Rattle.std.proofs.Common.{Option, None, Some}
use Rattle.std.specs.Bool.{MatchBool}
use Rattle.std.specs.List.{range_with_len, AllWithin, HoldsAt}
use Rattle.std.specs.Option.{MatchOption, unwrap_or}
use Rattle.std.proofs.lemmas.List.FromFn.{length-range_with_len, get_or-range_with_len}
use Rattle.lengthening.specs.Lengthened.{ColumnClear, Tells, CommonPower}

abbrev rows : ℕ → List ℕ
rows l = range_with_len 0 (l + 1)

row : (l t : ℕ) → t < length (rows l) → get_or (rows l) t 0 ≡ t
row l t k = get_or-range_with_len 0 (l + 1) t 0 (omega (arith, length-range_with_len 0 (l + 1))) ∙ zero-add t

module _ (w l i : ℕ) (d : List ℕ) where
  abbrev pub Zero : ℕ → Type 0
  Zero t = get_or d (t * w + i) 0 ≡ 0

  pub tells : (r : Bool) → MatchBool r (AllWithin Zero (rows l) 0 (length (rows l))) ((t : ℕ) × (t < length (rows l)) × HoldsAt (λ t. ¬ Zero t) (rows l) t) →
      Tells w l i d r
  tells true h = record {
    clear = λ e t k. let m : t < length (rows l) = omega (arith, length-range_with_len 0 (l + 1)) in subst Zero (row l t m) (h t 0 (omega arith) m);
    stop = λ e. cc;
  }
  tells false h = record {
    clear = λ e. cc;
    stop = λ e clear. h.2 0 (clear _ (omega (arith, row l h.0 h.1, length-range_with_len 0 (l + 1))));
  }

module _ (w l : ℕ) (d : List ℕ) where
  pub common : (r : Option ℕ) →
      MatchOption r ((k : ℕ) → 0 ≤ k → k < w → ColumnClear w l k d)
      (λ v. (0 ≤ v) × (v < w) × ¬ ColumnClear w l v d × ((k : ℕ) → 0 ≤ k → k < v → ColumnClear w l k d)) →
      CommonPower w l d (unwrap_or r w)
  common None h = record { small = omega arith; clear = λ i k. h i (omega arith) k; stop = λ k. absurd (omega arith) }
  common (Some v) h = record { small = omega arith; clear = λ i k. h.3 i (omega arith) k; stop = λ k. h.2 }
