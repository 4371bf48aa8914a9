-- The recurrences that fill a row of weights.
use mathlib.Core.Path.{◌≡◌, refl, ap, ◌∙◌}
use mathlib.Core.List.{List}
use Prim.Native.Nat.{ℕ, zero, suc, ◌+◌, ◌-◌, ◌*◌, ◌<◌, ◌≤◌}
use native.Mathlib.Numerals.{add-one}
use native.Mathlib.Omega.{arith}
use lib.Dec.{T}
use lib.ListN.{get_or}
use Rattle.rules.specs.Field.{ops, plus, times, modulus}
use Rattle.algebra.specs.Conditions.{weight}
use Rattle.prime.proofs.Below.{plus_swapped}
use Rattle.buffers.specs.Change.{Changed}
use Rattle.weights.specs.Weights.{Weights}

module _ (q α : ℕ) where
  -- how the rows begin
  pub power_start : 1 ≡ weight (ops q) α 0 0
  unfolding weight
  power_start = refl

  pub weight_start : (a : ℕ) → 0 < a → 0 ≡ weight (ops q) α a 0
  unfolding weight
  weight_start zero h = absurd (omega arith)
  weight_start (suc a) h = refl

  module _ (m : T (modulus q)) (i : ℕ) where
    -- the next power
    pub power_more : {last : ℕ} → last ≡ weight (ops q) α 0 i → times q α last ≡ weight (ops q) α 0 (i + 1)
    unfolding weight
    power_more p = rw (p, add-one) refl

    -- the next weight, from the one before it and the one beside that in the row before
    pub weight_more : {n last : ℕ} {d e : List ℕ} (a : ℕ) → 0 < a → Weights q α a n d → Changed (weight (ops q) α a) (a * 256) (i + 1) d e → i < n → n ≤ 256 →
        last ≡ weight (ops q) α a i → plus q (get_or e ((a - 1) * 256 + i) 0) (times q α last) ≡ weight (ops q) α a (i + 1)
    unfolding weight
    weight_more {n} {last} {d} {e} zero z w h l u p = absurd (omega arith)
    weight_more {n} {last} {d} {e} (suc a) z w h l u p =
        let at : (suc a - 1) * 256 + i ≡ a * 256 + i = omega arith in
        let is : get_or e ((suc a - 1) * 256 + i) 0 ≡ weight (ops q) α a i = ap (λ (k : ℕ). get_or e k 0) at ∙ h.low (a * 256 + i) (omega arith)
        ∙ w.row a (omega arith) i l in
        rw (p, is, add-one) (plus_swapped q _ _)

-- the weights of fewer orders
pub fewer : {q α m m' n : ℕ} {ws : List ℕ} → Weights q α m n ws → m' ≤ m → Weights q α m' n ws
fewer W u = record { len = W.len; row = λ a v. W.row a (omega arith) }
