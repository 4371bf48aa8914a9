-- Q(0, y) of a curve in a slot: its coefficients are what the rows begin with, and the test of a symbol is the test of a number.
use mathlib.Core.Path.{◌≡◌, refl, sym, ap, ap₂, ◌∙◌}
use mathlib.Core.List.{List, [], ◌∷◌}
use Prim.Native.Nat.{ℕ, zero, suc, ◌+◌, ◌-◌, ◌*◌, ◌<◌, ◌≤◌}
use native.Mathlib.Nat.{zero-add}
use native.Mathlib.Omega.{arith}
use lib.Dec.{T, eqb}
use lib.ListN.{length, get_or, take, drop, length-map}
use lib.Seq.{get_or-take, get_or-drop}
use Rattle.rules.specs.Code.{eval}
use Rattle.rules.specs.Field.{ops, plus, times, modulus}
use Rattle.rules.specs.Search.{rows, first, firsts, follows}
use Rattle.algebra.proofs.Rows.{rows_length}
use Rattle.prime.proofs.Below.{eval_below, alike_zero}
use Rattle.buffers.proofs.Rows.{row_fits}
use Rattle.runs.proofs.Value.{eval_none, eval_more}
use Rattle.followers.specs.Slot.{run}

pub run_at : (a n : ℕ) (d : List ℕ) (j : ℕ) → j < n → get_or (run a n d) j 0 ≡ get_or d (a + j) 0
run_at a n d j l = get_or-take n (drop a d) j 0 l ∙ get_or-drop a d j 0

-- from the front
pub run_front : (n : ℕ) (d : List ℕ) (j : ℕ) → j < n → get_or (run 0 n d) j 0 ≡ get_or d j 0
run_front n d j l = run_at 0 n d j l ∙ ap (λ (i : ℕ). get_or d i 0) (zero-add j)

module _ (q w : ℕ) where
  first_take : (v : ℕ) (s : List ℕ) → first (ops q) (take (suc v) s) ≡ get_or s 0 0
  unfolding first
  first_take v [] = refl
  first_take v (c ∷ s) = refl

  heads_at : (n t : ℕ) (s : List ℕ) → 0 < w → t < n → get_or (firsts (ops q) (rows w n s)) t 0 ≡ get_or s (t * w) 0
  unfolding firsts rows
  heads_at zero t s o l = absurd (omega arith)
  heads_at (suc n) zero s o l =
      let e : w ≡ suc (w - 1) = omega arith in
      let z : 0 ≡ 0 * w = omega arith in
      ap (λ (v : ℕ). first (ops q) (take v s)) e ∙ first_take (w - 1) s ∙ ap (λ (j : ℕ). get_or s j 0) z
  heads_at (suc n) (suc t) s o l =
      let z : w + t * w ≡ suc t * w = omega arith in
      heads_at n t (drop w s) o (omega arith) ∙ get_or-drop w s (t * w) 0 ∙ ap (λ (j : ℕ). get_or s j 0) z

  heads_length : (n : ℕ) (s : List ℕ) → length (firsts (ops q) (rows w n s)) ≡ n
  unfolding firsts
  heads_length n s = length-map (rows w n s) (first (ops q)) ∙ rows_length w n s

  module _ (l g : ℕ) where
    abbrev heads : List ℕ → List ℕ
    heads s = firsts (ops q) (rows w (l + 1) s)

    pub heads_none : (s : List ℕ) → 0 ≡ eval (ops q) (drop (l + 1) (heads s)) g
    heads_none s = eval_none q (heads s) g ∙ ap (λ (n : ℕ). eval (ops q) (drop n (heads s)) g) (heads_length (l + 1) s)

    pub heads_more : (b : ℕ) (d : List ℕ) (t sum : ℕ) → 0 < w → 0 < t → t ≤ l + 1 → sum ≡ eval (ops q) (drop t (heads (run b ((l + 1) * w) d))) g →
        plus q (get_or d (b + (t - 1) * w) 0) (times q g sum) ≡ eval (ops q) (drop (t - 1) (heads (run b ((l + 1) * w) d))) g
    heads_more b d t sum o p m e =
        let s : List ℕ = run b ((l + 1) * w) d in
        let f : t - 1 < l + 1 = omega arith in
        ap₂ (λ (a c : ℕ). plus q a (times q g c))
        (sym (heads_at (l + 1) (t - 1) s o f ∙ run_at b ((l + 1) * w) d ((t - 1) * w) (omega (arith, row_fits w f)))) e
        ∙ eval_more q (heads s) g t p (omega (arith, heads_length (l + 1) s))

    -- the number is zero, so the symbol is
    pub heads_test : T (modulus q) → (Q : List (List ℕ)) (sum : ℕ) → sum ≡ eval (ops q) (firsts (ops q) Q) g → eqb sum 0 ≡ follows (ops q) Q g
    unfolding follows
    heads_test m Q sum e = ap (λ (n : ℕ). eqb n 0) e ∙ sym (alike_zero q _ (eval_below q m (firsts (ops q) Q) g))
