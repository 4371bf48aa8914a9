-- The conditions that the check computes are those of the definition: both are the same sums in the field.
use mathlib.Core.Path.{◌≡◌, refl, sym, ◌∙◌, ap, subst, fun_ext}
use mathlib.Core.Bool.{Bool, true, false, not, ◌&&◌}
use mathlib.Core.List.{List, map}
use Prim.Native.Nat.{ℕ, zero, suc, ◌+◌, ◌-◌, ◌<◌, Fin}
use native.Mathlib.Omega.{arith}
use lib.Dec.{T, eqb}
use Rattle.rules.specs.Lists.{all}
use Rattle.rules.specs.Field.{Ops, ops, modulus, alike}
use Rattle.rules.specs.Code.{Triple}
use Rattle.rules.specs.Curve.{total, coefficient, weighted, hasse, through, passes}
use Rattle.rules.specs.Refusal.{under}
use Rattle.algebra.specs.Conditions.{Condition, condition, carry}
use Rattle.algebra.specs.Space.{space, value}
use Rattle.algebra.proofs.Bridge.{coefficient_hom, hasse_hom, weighted_hom}
use Rattle.algebra.proofs.Carry.{value_hom}
use Rattle.algebra.proofs.Passes.{hasse_value}
use Rattle.prime.specs.Field.{elt, field}
use Rattle.prime.proofs.Below.{modulus_two, plus_below, alike_zero}
use Rattle.prime.proofs.Laws.{laws}
use Rattle.demands.proofs.Link.{elt_hom}
use Rattle.runs.specs.Runs.{blank}
use Rattle.runs.proofs.Places.{zeros_blank}
use Rattle.multiplicity.specs.Met.{met}
use Rattle.multiplicity.proofs.Tests.{below_same}

module _ (q k w l : ℕ) (c : List ℕ) (m : T (modulus q)) where
  abbrev h : 1 < q
  h = modulus_two q m

  abbrev F : Ops
  F = field q h

  abbrev e : ℕ → Fin q
  e = elt q h

  total_below : (n : ℕ) (f : ℕ → ℕ) → total (ops q) n f < q
  unfolding total
  total_below zero f = omega (arith, modulus_two q m)
  total_below (suc n) f = plus_below q m _ _

  value_below : (z : Condition ℕ) → value (ops q) (space k w l) z (coefficient (ops q) w c) < q
  unfolding value
  value_below z = total_below (l + 1) _

  module _ (s : T (weighted (ops q) k w l c)) where
    hasse_test : (z : Condition ℕ) →
        alike q (hasse (ops q) w l c z.point z.symbol z.a z.b) 0 ≡ eqb (value (ops q) (space k w l) z (coefficient (ops q) w c)) 0
    hasse_test z =
        (elt_hom q m h).same _ _
        ∙ ap (λ x. F.same x F.nil) (hasse_hom (ops q) F e (elt_hom q m h) w l c _ _ _ _
        ∙ hasse_value F (laws q m h) w l (map e c) k (subst T (weighted_hom (ops q) F e (elt_hom q m h) k w l c) s) (carry e z)
        ∙ ap (value F (space k w l) (carry e z)) (fun_ext (λ i. fun_ext (λ t. sym (coefficient_hom (ops q) F e (elt_hom q m h) w c i t))))
        ∙ sym (value_hom (ops q) F e (elt_hom q m h) (space k w l) z (coefficient (ops q) w c)))
        ∙ sym ((elt_hom q m h).same _ _)
        ∙ alike_zero q _ (value_below z)

    pub met_through : (z : Triple ℕ) → met q k w l c z ≡ through (ops q) w l c z
    unfolding met through condition
    met_through z = below_same _ _ z.times (λ a u. below_same _ _ (z.times - a) (λ b v. sym (hasse_test (condition z b a))))

-- the three tests of a passing curve, as the check makes them
pub passes_tests : (q k w l : ℕ) (zs : List (Triple ℕ)) (c : List ℕ) → T (modulus q) → T (under q c) →
    passes (ops q) k w l zs c ≡ not (blank c) && weighted (ops q) k w l c && all (met q k w l c) zs
unfolding passes
passes_tests q k w l zs c m u =
    rw (zeros_blank q c u) (last (not (blank c)) (weighted (ops q) k w l c) _ _
    (λ s. ap (λ test. all test zs) (sym (fun_ext (met_through q k w l c m s)))))
  where
    last : (x y r s : Bool) → (T y → r ≡ s) → x && y && r ≡ x && y && s
    last true true r s h = h tt
    last true false r s h = refl
    last false y r s h = refl
