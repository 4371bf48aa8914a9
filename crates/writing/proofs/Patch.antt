-- The values at the points, one after the other, are the patch.
use mathlib.Core.Path.{◌≡◌, sym, ◌∙◌}
use mathlib.Core.List.{List}
use Prim.Native.Nat.{ℕ}
use native.Mathlib.Omega.{arith}
use lib.ListN.{length, get_or, length-map}
use lib.Seq.{ext_get_or}
use Rattle.std.proofs.lemmas.List.{get_or-map}
use Rattle.rules.specs.Field.{ops}
use Rattle.rules.specs.Code.{eval, encode}
use Rattle.buffers.specs.Change.{Changed}
use Rattle.buffers.proofs.Change.{changed_front}

module _ (q : ℕ) (points message : List ℕ) where
  pub length_patch : length (encode (ops q) points message) ≡ length points
  unfolding encode
  length_patch = length-map points (eval (ops q) message)

  pub patch_is : {d e : List ℕ} (j : ℕ) → Changed (λ i. eval (ops q) message (get_or points i 0)) 0 j d e
      → j ≡ length points → length points ≡ length d
      → e ≡ encode (ops q) points message
  unfolding encode
  patch_is {d} {e} j h all same = ext_get_or 0 e _ (h.len ∙ sym same ∙ sym length_patch)
      (λ i l. changed_front h i (omega (arith, h.len)) ∙ sym (get_or-map (eval (ops q) message) points i 0 0 (omega (arith, h.len))))
