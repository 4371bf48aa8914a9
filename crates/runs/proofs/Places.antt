-- What the tests of a run say of each of its places.
use mathlib.Core.Path.{◌≡◌, refl, ap₂}
use mathlib.Core.Bool.{◌&&◌}
use mathlib.Core.List.{List, [], ◌∷◌}
use Prim.Native.Nat.{ℕ, zero, suc, ◌<◌}
use native.Mathlib.Omega.{arith}
use lib.Dec.{T, eqb, ltb, eqb→eq, ltb→lt, lt→ltb}
use lib.ListN.{length, get_or}
use Rattle.rules.specs.Lists.{all}
use Rattle.rules.specs.Field.{ops}
use Rattle.rules.specs.Code.{zeros}
use Rattle.rules.specs.Refusal.{under}
use Rattle.rules.proofs.Tests.{both, and}
use Rattle.prime.proofs.Below.{alike_zero}
use Rattle.runs.specs.Runs.{blank}

pub zero_test : {a : ℕ} → a ≡ 0 → T (eqb a 0)
zero_test e = rw e tt

pub blank_of : (run : List ℕ) → ((i : ℕ) → i < length run → get_or run i 0 ≡ 0) → T (blank run)
unfolding blank all
blank_of [] h = tt
blank_of (c ∷ run) h = and (eqb c 0) _ (zero_test (h 0 (omega arith))) (blank_of run (λ i l. h (suc i) (omega arith)))

pub blank_at : (run : List ℕ) → T (blank run) → (i : ℕ) → get_or run i 0 ≡ 0
unfolding blank all
blank_at [] t i = refl
blank_at (c ∷ run) t zero = eqb→eq c 0 (both (eqb c 0) _ t).0
blank_at (c ∷ run) t (suc i) = blank_at run (both (eqb c 0) _ t).1 i

module _ (q : ℕ) where
  pub under_of : (run : List ℕ) → ((i : ℕ) → i < length run → get_or run i 0 < q) → T (under q run)
  unfolding under all
  under_of [] h = tt
  under_of (c ∷ run) h = and (ltb c q) _ (lt→ltb c q (h 0 (omega arith))) (under_of run (λ i l. h (suc i) (omega arith)))

  pub under_at : (run : List ℕ) → T (under q run) → (i : ℕ) → i < length run → get_or run i 0 < q
  unfolding under all
  under_at [] t i l = absurd (omega arith)
  under_at (c ∷ run) t zero l = ltb→lt c q (both (ltb c q) (under q run) t).0
  under_at (c ∷ run) t (suc i) l = under_at run (both (ltb c q) (under q run) t).1 i (omega arith)

  -- numbers below q stand for zero only where they are 0
  pub zeros_blank : (run : List ℕ) → T (under q run) → zeros (ops q) run ≡ blank run
  unfolding zeros blank under all
  zeros_blank [] u = refl
  zeros_blank (c ∷ run) u =
      let r = both (ltb c q) _ u in
      ap₂ ◌&&◌ (alike_zero q c (ltb→lt c q r.0)) (zeros_blank run r.1)
