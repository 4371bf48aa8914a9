-- After all conditions, of which there are fewer than terms, the alive curve of the least leading term is the chosen one.
use mathlib.Core.Path.{◌≡◌, refl, sym, ap, subst, ◌∙◌}
use mathlib.Core.List.{List, map}
use Prim.Native.Nat.{ℕ, ◌+◌, ◌-◌, ◌*◌, ◌<◌, ◌≤◌}
use native.Mathlib.Omega.{arith}
use lib.Dec.{T}
use lib.ListN.{length, get_or, length-map, get_or-map, replicate, get_or-replicate}
use Rattle.std.specs.Prelude.{Option, None, Some, MatchOption, IsSome}
use Rattle.rules.specs.Lists.{below, sum}
use Rattle.rules.specs.Field.{Ops, ops}
use Rattle.rules.specs.Laws.{Laws}
use Rattle.rules.specs.Code.{Triple}
use Rattle.rules.specs.Curve.{coefficient}
use Rattle.algebra.specs.Hom.{move}
use Rattle.algebra.specs.Conditions.{conditions}
use Rattle.algebra.specs.Space.{Space, In, space, Best, Chosen}
use Rattle.algebra.proofs.Basis.{end}
use Rattle.algebra.proofs.Bridge.{passes_hom}
use Rattle.algebra.proofs.Carry.{conditions_hom}
use Rattle.algebra.proofs.Flat.{each_place, chosen}
use Rattle.algebra.proofs.Least.{least_curve}
use Rattle.prime.specs.Field.{elt, field}
use Rattle.prime.proofs.Below.{modulus_two}
use Rattle.prime.proofs.Laws.{laws}
use Rattle.buffers.proofs.Part.{len_mid, at_mid}
use Rattle.buffers.proofs.Rows.{row_fits}
use Rattle.demands.proofs.Link.{elt_hom}
use Rattle.runs.proofs.Places.{under_of}
use Rattle.weights.specs.Shape.{Shaped}
use Rattle.slots.specs.Slot.{slot, place, curve_at}
use Rattle.condition.specs.Kept.{First, Quiet, Kept}
use Rattle.finder.specs.Found.{Found}
use Rattle.slots.proofs.Swept.{place_in}

-- a value that is not zero for each of the 25 curves that there are at most
abbrev pub ones : List ℕ
ones = replicate 25 1

module _ {q k w l : ℕ} (s : Shaped q k w l) (zs : List (Triple ℕ)) (few : length (conditions zs) < sum (λ t. w - t * (k - 1)) (below (l + 1)))
    {leads work : List ℕ} (K : (h : 1 < q) → Kept q h k w l (conditions (map (move (elt q h)) zs)) leads work) where
  one : (j : ℕ) → j ≤ l → get_or ones j 0 ≡ 1
  one j u = get_or-replicate 25 j 1 0 (omega (arith, s.few))

  abbrev S : Space
  S = space k w l

  two : 1 < q
  two = modulus_two q s.field

  -- one curve is alive, and so one is picked
  pub picked : (o : Option ℕ) → MatchOption o (Quiet k w l leads ones) (First k w l leads ones) → IsSome o
  picked (Some p) P = refl
  picked None Q = absurd (let a = alive in omega (arith, Q a.0 a.1, one a.0 a.1.column))
    where
      same : length (conditions (map (move (elt q two)) zs)) ≡ length (conditions zs)
      same = ap length (sym (conditions_hom (elt q two) zs)) ∙ length-map (conditions zs) _

      alive : (j : ℕ) × In S (get_or leads j 0) j
      alive = end (field q two) (laws q s.field two) S (K two).basis (omega (arith, same))

  module _ {p : ℕ} (first : First k w l leads ones p) (room : (l + 1) * slot w l ≤ length work) where
    best : Best S (λ j. get_or leads j 0) p
    best = record { alive = first.alive; least = λ i v. first.least i v (λ z. omega (arith, one i v.column)) }

    abbrev Q : List ℕ
    Q = curve_at w l work p

    fits : p * slot w l + slot w l ≤ length work
    fits = omega (arith, row_fits {t = p} {n = l + 1} (slot w l) (omega (arith, first.alive.column)))

    long : length Q ≡ slot w l
    long = len_mid (p * slot w l) (slot w l) work fits

    at : (t i : ℕ) → t < l + 1 → i < w → get_or Q (place w t i) 0 ≡ get_or work (p * slot w l + place w t i) 0
    at t i u v = at_mid (p * slot w l) (slot w l) work fits (place w t i) (place_in w l u v)

    small : (m : ℕ) → m < length Q → get_or Q m 0 < q
    small m u = each_place w (l + 1) (λ m. get_or Q m 0 < q) (λ t i a b. rw (at t i a b) ((K two).small p t i first.alive.column (omega arith) b)) m
        (omega (arith, long))

    module _ (h : 1 < q) where
      cell : (t i : ℕ) → t < l + 1 → i < w → coefficient (field q h) w (map (elt q h) Q) i t ≡ elt q h (get_or work (p * slot w l + place w t i) 0)
      unfolding coefficient
      cell t i u v = get_or-map (elt q h) Q (place w t i) 0 ∙ ap (elt q h) (at t i u v)

      is_chosen : Chosen (field q h) k w l (map (move (elt q h)) zs) (map (elt q h) Q)
      is_chosen = chosen F L k w l (map (move (elt q h)) zs) (map (elt q h) Q) (least_curve F L S (K h).least (K h).basis best) (length-map Q (elt q h) ∙ long)
          (λ i t v. cell t i (omega (arith, v.column)) (omega (arith, v.inside)))
          (λ t i u v b. cell t i u v ∙ ap (elt q h) ((K h).clear p t i first.alive.column (omega arith) v b))
        where
          F : Ops
          F = field q h

          L : Laws F
          L = laws q s.field h

    pub found : Found q k w l zs Q
    found = record {
      small = under_of q Q small;
      passing = subst T (sym (passes_hom (ops q) (field q two) (elt q two) (elt_hom q s.field two) k w l zs Q)) (is_chosen two).passing;
      chosen = is_chosen;
    }
