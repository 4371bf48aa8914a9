-- What the leaves compute with one remainder is what rules define with several.
use mathlib.Core.Path.{◌≡◌, refl, sym, ap₂, ◌∙◌}
use Prim.Native.Nat.{ℕ, ◌+◌, ◌*◌, ◌%◌}
use native.Mathlib.Nat.{add-mod, add-mod-mod, zero-mod}
use native.Mathlib.Numerals.{add-one}
use Rattle.rules.specs.Field.{ops, plus, times}
use Rattle.rules.specs.Curve.{total}

module _ (q : ℕ) where
  pub times_is : (a b : ℕ) → a * b % q ≡ times q a b
  unfolding times
  times_is a b = refl

  pub mixed_is : (d c s : ℕ) → (d + c * s) % q ≡ plus q d (times q c s)
  unfolding plus times
  mixed_is d c s = sym (add-mod-mod d (c * s) q)

  pub total_none : (f : ℕ → ℕ) → 0 % q ≡ total (ops q) 0 f
  unfolding total
  total_none f = zero-mod q

  -- one more number is added before the remainder is taken
  pub total_more : (s x i : ℕ) (f : ℕ → ℕ) → s % q ≡ total (ops q) i f → x % q ≡ f i → (s + x) % q ≡ total (ops q) (i + 1) f
  unfolding total plus
  total_more s x i f e is = rw add-one (add-mod s x q ∙ ap₂ (λ (u v : ℕ). (u + v) % q) e is)
