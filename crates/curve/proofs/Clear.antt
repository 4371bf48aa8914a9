-- The degree condition of one row: what lies behind the part that can be nonzero is zero.
use mathlib.Core.Path.{◌≡◌, refl, sym, ◌∙◌, subst, ap}
use mathlib.Core.Bool.{Bool, true, false, ◌||◌}
use mathlib.Core.List.{List, [], ◌∷◌}
use Prim.Native.Nat.{ℕ, zero, suc, ◌+◌, ◌-◌, ◌*◌, ◌<◌, ◌≤◌}
use native.Mathlib.Omega.{arith}
use lib.Dec.{T, not_T, eqb, ltb, eqb→eq, ltb→lt, nltb→le}
use lib.ListN.{length, get_or, take, drop, length-drop}
use lib.Seq.{get_or-take, get_or-drop, length-take-le}
use Rattle.rules.specs.Lists.{below, all}
use Rattle.rules.specs.Field.{alike}
use Rattle.rules.specs.Refusal.{under}
use Rattle.rules.proofs.Tests.{both, below_at, below_of, or_else, same_test}
use Rattle.prime.proofs.Below.{alike_zero, alike_itself}
use Rattle.runs.specs.Runs.{blank}
use Rattle.runs.proofs.Places.{zero_test, blank_of, blank_at}
use Rattle.curve.specs.Behind.{behind}

-- a number below q stands for zero only where it is 0
alike_at : (q : ℕ) (c : List ℕ) (i : ℕ) → T (under q c) → alike q (get_or c i 0) 0 ≡ eqb (get_or c i 0) 0
unfolding under all
alike_at q [] i u = alike_itself q 0
alike_at q (a ∷ c) zero u = alike_zero q a (ltb→lt a q (both (ltb a q) _ u).0)
alike_at q (a ∷ c) (suc i) u = alike_at q c i (both (ltb a q) _ u).1

module _ (q k w t : ℕ) (c : List ℕ) (u : T (under q c)) (f : t * (k - 1) < w) (g : t * w + w ≤ length c) where
  behind_at : (i j : ℕ) → i < w → i ≡ w - t * (k - 1) + j → get_or (behind k w t c) j 0 ≡ get_or c (t * w + i) 0
  behind_at i j l e =
      let n = w - t * (k - 1) in
      get_or-drop n (take w (drop (t * w) c)) j 0 ∙ get_or-take w (drop (t * w) c) (n + j) 0 (omega arith) ∙ get_or-drop (t * w) c (n + j) 0
      ∙ ap (λ (i : ℕ). get_or c (t * w + i) 0) (sym e)

  len_behind : length (behind k w t c) ≡ t * (k - 1)
  len_behind = simp length-drop (omega (arith, length-take-le w (drop (t * w) c) (simp length-drop (omega arith))))

  -- .. is zero where each coefficient there is
  pub behind_zero : blank (behind k w t c) ≡ all (λ i. ltb (i + t * (k - 1)) w || alike q (get_or c (t * w + i) 0) 0) (below w)
  behind_zero =
      let n = w - t * (k - 1) in
      same_test (blank (behind k w t c)) (all (λ i. ltb (i + t * (k - 1)) w || alike q (get_or c (t * w + i) 0) 0) (below w))
      (λ b. below_of _ w (λ i l. unless (ltb (i + t * (k - 1)) w) _ (λ h.
      let o : w ≤ i + t * (k - 1) = nltb→le _ _ (not_T (ltb (i + t * (k - 1)) w) h) in
      subst T (sym (alike_at q c (t * w + i) u)) (zero_test (sym (behind_at i (i - n) l (omega arith)) ∙ blank_at (behind k w t c) b (i - n))))))
      (λ s. blank_of (behind k w t c) (λ j l.
      let m : n + j < w = omega (arith, len_behind) in
      behind_at (n + j) j m refl ∙ eqb→eq _ 0 (subst T (alike_at q c (t * w + (n + j)) u)
      (or_else (ltb (n + j + t * (k - 1)) w) _ (below_at _ w (n + j) s m) (λ h. let o : n + j + t * (k - 1) < w = ltb→lt _ _ h in omega arith)))))
    where
      unless : (a b : Bool) → (¬ (T a) → T b) → T (a || b)
      unless true b f = tt
      unless false b f = f (λ t. absurd t)
