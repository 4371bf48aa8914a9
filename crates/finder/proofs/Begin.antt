-- The powers of y are a basis before any condition.
use mathlib.Core.Path.{◌≡◌, refl, ap}
use mathlib.Core.Logic.{by_cases}
use mathlib.Core.List.{List, []}
use Prim.Native.Nat.{ℕ, ◌+◌, ◌-◌, ◌*◌, ◌<◌, ◌≤◌}
use native.Mathlib.Decide.{ℕ_discrete}
use native.Mathlib.Omega.{arith}
use lib.ListN.{get_or, get_or-replicate}
use Rattle.rules.specs.Field.{Ops}
use Rattle.rules.specs.Laws.{Laws}
use Rattle.algebra.specs.Space.{Space, space}
use Rattle.algebra.proofs.Basis.{start, basis_same}
use Rattle.prime.specs.Field.{elt, field}
use Rattle.prime.proofs.Laws.{laws}
use Rattle.buffers.proofs.Rows.{row_fits}
use Rattle.weights.specs.Shape.{Shaped}
use Rattle.slots.specs.Slot.{slot, place, Started}
use Rattle.condition.specs.Kept.{view, Kept}
use Rattle.weights.proofs.Pairing.{row_inside}
use Rattle.condition.proofs.Start.{nils}
use Rattle.slots.proofs.Swept.{place_in, slot_eq, place_eq}

module _ {q k w l : ℕ} (s : Shaped q k w l) (h : 1 < q) (work : List ℕ) (B : Started w l work) where
  -- all but the coefficient of y^j in curve j is zero
  none_at : (j t i : ℕ) → j ≤ l → t ≤ l → i < w → ¬ ((i ≡ 0) × (t ≡ j)) → get_or work (j * slot w l + place w t i) 0 ≡ 0
  none_at j t i u v b n = B.none _ (omega (arith, row_fits {t = j} {n = l + 1} (slot w l) (omega arith), place_in w l {t = t} {i = i} (omega arith) b))
      (λ j' c r.
      let e : j ≡ j' = slot_eq w l (omega arith) b c s.some r in
      let r' : j' * slot w l + place w t i ≡ j' * slot w l + place w j' 0 = rw e at r in
      let y = place_eq w (j' * slot w l) b s.some r' in
      n (y.1, omega arith))

  pub kept_start : Kept q h k w l [] nils work
  kept_start = record {
    basis = basis_same F L S
        (start F L S (view q h k w l work) (λ j u. omega (arith, (row_inside k w l j s.fits u).0)) (λ j v. ap (elt q h) (B.one j (omega (arith, v.column))))
        (λ j i t v x n. ap (elt q h) (none_at j t i v.column x.column (omega (arith, x.inside)) n))) z (λ j v i t x. refl);
    least = λ Q a j M v. omega (arith, z j v.within.column);
    small = λ j t i u v b. by_cases (ℕ_discrete i 0)
        (λ x. by_cases (ℕ_discrete t j) (λ y. rw (x, y, B.one j (omega arith)) h) (λ y. rw (none_at j t i u v b (λ n. y n.1)) (omega arith)))
        (λ x. rw (none_at j t i u v b (λ n. x n.0)) (omega arith));
    clear = λ j t i u v b c. none_at j t i u v b (λ n. let f = (row_inside k w l j s.fits u).0 in let g = ap (λ (t : ℕ). t * (k - 1)) n.1 in omega arith);
  }
    where
      z : (j : ℕ) → j ≤ l → get_or nils j 0 ≡ 0
      z j u = get_or-replicate 25 j 0 0 (omega (arith, s.few))

      F : Ops
      F = field q h

      L : Laws F
      L = laws q s.field h

      S : Space
      S = space k w l
