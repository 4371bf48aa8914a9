-- Weights, conditions and their values commute with a map between two instances that keeps the operations.
use mathlib.Core.Path.{◌≡◌, ◌∙◌, ap}
use mathlib.Core.List.{List, map, flat_map, map-map, map-id}
use Prim.Native.Nat.{ℕ, zero, suc, ◌-◌}
use Rattle.rules.specs.Lists.{below}
use Rattle.rules.specs.Field.{Ops}
use Rattle.rules.specs.Code.{Triple}
use Rattle.algebra.specs.Hom.{Hom, move}
use Rattle.algebra.specs.Conditions.{Condition, condition, conditions_along, conditions_at, conditions, carry, weight}
use Rattle.algebra.specs.Space.{Space, Curve, value}
use Rattle.algebra.proofs.Lists.{map_flat_map}
use Rattle.algebra.proofs.Bridge.{total_hom}

module _ {A B : Type 0} (φ : A → B) where
  along_hom : (z : Triple A) (b : ℕ) → map (carry φ) (conditions_along z b) ≡ conditions_along (move φ z) b
  unfolding conditions_along condition
  along_hom z b = map-map _ _ (below (z.times - b))

  at_hom : (z : Triple A) → map (carry φ) (conditions_at z) ≡ conditions_at (move φ z)
  unfolding conditions_at
  at_hom z = map_flat_map (λ b. b) (carry φ) (conditions_along z) (conditions_along (move φ z)) (along_hom z) (below z.times)
      ∙ ap (flat_map (conditions_along (move φ z))) (map-id (below z.times))

  pub conditions_hom : (zs : List (Triple A)) → map (carry φ) (conditions zs) ≡ conditions (map (move φ) zs)
  unfolding conditions
  conditions_hom zs = map_flat_map (move φ) (carry φ) conditions_at conditions_at at_hom zs

module _ (O O' : Ops) (φ : O.Symbol → O'.Symbol) (H : Hom O O' φ) where
  pub weight_hom : (α : O.Symbol) (a i : ℕ) → φ (weight O α a i) ≡ weight O' (φ α) a i
  unfolding weight
  weight_hom α zero zero = H.one
  weight_hom α (suc a) zero = H.nil
  weight_hom α zero (suc i) = simp (H.mul, weight_hom α zero i)
  weight_hom α (suc a) (suc i) = simp (H.add, H.mul, weight_hom α (suc a) i, weight_hom α a i)

  pub value_hom : (S : Space) (c : Condition O.Symbol) (Q : Curve O) → φ (value O S c Q) ≡ value O' S (carry φ c) (λ i t. φ (Q i t))
  unfolding value
  value_hom S c Q = simp (total_hom O O' φ H, H.mul, weight_hom)
