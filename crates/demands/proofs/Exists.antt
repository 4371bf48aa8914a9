-- Demand 2 of the numbers in slices: an accepted setting never fails for want of a curve.
use mathlib.Core.Path.{◌≡◌, sym, ◌∙◌, ap, subst}
use mathlib.Core.Bool.{◌&&◌}
use mathlib.Core.List.{List, [], ◌∷◌, map}
use Prim.Native.Nat.{ℕ, ◌<◌, Fin}
use lib.Dec.{T, eqb_refl, eqb, ltb, lt→ltb}
use lib.ListN.{length, length-map}
use Rattle.rules.specs.Lists.{all}
use Rattle.rules.specs.Field.{modulus}
use Rattle.rules.specs.Code.{triples}
use Rattle.rules.specs.Setting.{Setting, W, ℓ, C, U, curve_length}
use Rattle.rules.specs.Curve.{passes}
use Rattle.rules.specs.Refusal.{long, under, fits}
use Rattle.rules.specs.Outcome.{usable}
use Rattle.rules.proofs.Tests.{and}
use Rattle.algebra.specs.Space.{Chosen}
use Rattle.algebra.proofs.Exists.{setting_exists}
use Rattle.prime.specs.Field.{value, elt, field}
use Rattle.prime.proofs.Below.{modulus_two}
use Rattle.prime.proofs.Laws.{laws}
use Rattle.demands.proofs.Link.{elts_values}
use Rattle.demands.proofs.Listing.{passes_elts}

under_values : (q : ℕ) (Q : List (Fin q)) → T (under q (map value Q))
unfolding under all
under_values q [] = tt
under_values q (a ∷ Q) = and (ltb (value a) q) (under q (map value Q)) (lt→ltb _ _ a.1) (under_values q Q)

-- A curve that finding may leave. Of the setting's rules only U > C is used.
pub usable_exists : (S : Setting) (points word : List ℕ) → T (modulus S.p) → C S < U S → length points ≡ S.n → length word ≡ S.n →
    (Q : List ℕ) × T (usable S points word Q)
unfolding usable long fits curve_length
usable_exists S points word m u p w =
    let Q = map value r.0 in
    (Q, and (long (curve_length S) Q && under q Q) (fits S points word Q) (and (long (curve_length S) Q) (under q Q) size (under_values q r.0)) pass)
  where
    q : ℕ
    q = S.p

    h : 1 < q
    h = modulus_two q m

    elts : List ℕ → List (Fin q)
    elts xs = map (elt q h) xs

    r : (Q : List (Fin q)) × Chosen (field q h) S.k (W S) (ℓ S) (triples S.s (elts points) (elts word)) Q
    r = setting_exists (field q h) (laws q m h) S (elts points) (elts word) u (length-map points (elt q h) ∙ p) (length-map word (elt q h) ∙ w)

    size : T (long (curve_length S) (map value r.0))
    size = subst (λ n. T (eqb n (curve_length S))) (sym (length-map r.0 value ∙ r.1.long)) (eqb_refl (curve_length S))

    pass : T (fits S points word (map value r.0))
    pass =
        subst T (sym (passes_elts q m S.k (W S) (ℓ S) S.s points word (map value r.0)
        ∙ ap (passes (field q h) S.k (W S) (ℓ S) (triples S.s (elts points) (elts word))) (elts_values q m h r.0))) r.1.passing
