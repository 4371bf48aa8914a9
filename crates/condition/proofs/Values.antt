-- The value of a curve is that of its slot, where the curve is alive.
use mathlib.Core.Path.{◌≡◌, ◌∙◌}
use mathlib.Core.List.{List}
use Prim.Native.Nat.{ℕ, ◌+◌, ◌-◌, ◌*◌, ◌<◌, ◌≤◌}
use native.Mathlib.Numerals.{add-one}
use native.Mathlib.Omega.{arith}
use borrow.Author.Count.{below_more}
use borrow.Author.Tests.{lt-ltb, le-ltb}
use lib.Dec.{ltb}
use lib.ListN.{get_or}
use Rattle.rules.specs.Curve.{total}
use Rattle.rules.proofs.Tests.{either}
use Rattle.prime.proofs.Below.{plus_below, modulus_two}
use Rattle.buffers.specs.Change.{Changed}
use Rattle.weights.specs.Shape.{Shaped}
use Rattle.weights.specs.Value.{pairing}
use Rattle.slots.specs.Slot.{curve_at}
use Rattle.condition.specs.Valued.{valued}

-- nothing is written at the end of the part, where what stands there is right
pub changed_skip : {f : ℕ → ℕ} {n : ℕ} {d e : List ℕ} → Changed f 0 n d e → get_or d n 0 ≡ f n → Changed f 0 (n + 1) d e
changed_skip {f} {n} {d} {e} h q = record {
  len = h.len;
  new = below_more (λ k. get_or e (0 + k) 0 ≡ f k) n h.new
      (let z : 0 + n ≡ n = omega arith in rw z (h.high n (omega arith) ∙ q));
  low = h.low;
  high = λ k l. h.high k (omega arith);
}

module _ (q k w l : ℕ) (x y leads work : List ℕ) (j : ℕ) where
  pub valued_alive : get_or leads j 0 + j * (k - 1) < w → pairing q k w l x y (curve_at w l work j) ≡ valued q k w l x y leads work j
  valued_alive h = simp (lt-ltb _ _ h)

  pub valued_dead : w ≤ get_or leads j 0 + j * (k - 1) → 0 ≡ valued q k w l x y leads work j
  valued_dead h = simp (le-ltb _ _ h)

module _ {q k w l : ℕ} (s : Shaped q k w l) where
  pub pairing_below : (x y c : List ℕ) → pairing q k w l x y c < q
  unfolding pairing total
  pairing_below x y c = rw add-one (plus_below q s.field _ _)

  pub valued_below : (x y leads work : List ℕ) (j : ℕ) → valued q k w l x y leads work j < q
  valued_below x y leads work j =
      either (λ (v : ℕ). v < q) _ _ (ltb (get_or leads j 0 + j * (k - 1)) w) (λ _. pairing_below x y _) (λ _. omega (arith, modulus_two q s.field))
