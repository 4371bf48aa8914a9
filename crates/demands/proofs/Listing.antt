-- Demand 2 of the numbers in slices: for every curve that passes, the sifted roots are the readings.
use mathlib.Core.Path.{◌≡◌, sym, ◌∙◌, ap, subst}
use mathlib.Core.List.{List, map}
use Prim.Native.Nat.{ℕ, ◌+◌, ◌-◌, ◌*◌, ◌<◌, Fin}
use lib.Dec.{T, eqb, leb, ltb}
use Rattle.rules.specs.Lists.{all, keep, distinct}
use Rattle.rules.specs.Field.{Ops, ops, modulus}
use Rattle.rules.specs.Code.{Triple, triples, zeros, score, messages, sifted, scoring, readings}
use Rattle.rules.specs.Setting.{Setting, W, ℓ}
use Rattle.rules.specs.Curve.{passes}
use Rattle.rules.specs.Search.{rows, along, roots, listed}
use Rattle.rules.specs.Refusal.{fits}
use Rattle.rules.specs.Outcome.{list_of}
use Rattle.algebra.specs.Hom.{move}
use Rattle.algebra.proofs.Lists.{map_keep, map_rows}
use Rattle.algebra.proofs.Bridge.{triples_hom, zeros_hom, score_hom, messages_hom, passes_hom, along_hom}
use Rattle.algebra.proofs.Agreement.{listed_readings}
use Rattle.prime.specs.Field.{value, elt, field}
use Rattle.prime.proofs.Below.{modulus_two}
use Rattle.prime.proofs.Laws.{laws}
use Rattle.demands.proofs.Link.{elt_hom, value_hom, elts_values, distinct_elts}

module _ (q : ℕ) (m : T (modulus q)) where
  abbrev h : 1 < q
  h = modulus_two q m

  abbrev F : Ops
  F = field q h

  abbrev e : ℕ → Fin q
  e = elt q h

  -- Lists of messages cross by value, and the tests on them by elt.

  sifted_values : (a : ℕ) (zs : List (Triple ℕ)) (fs : List (List (Fin q))) →
      sifted (ops q) a zs (map (map value) fs) ≡ map (map value) (sifted F a (map (move e) zs) fs)
  unfolding sifted
  sifted_values a zs fs =
      sym (map_keep (map value) _ _
      (λ f. ap (leb a) (sym (score_hom (ops q) F e (elt_hom q m h) zs (map value f) ∙ ap (score F (map (move e) zs)) (elts_values q m h f)))) fs)

  pub roots_values : (k : ℕ) (Q : List (List ℕ)) → roots (ops q) k Q ≡ map (map value) (roots F k (map (map e) Q))
  unfolding roots
  roots_values k Q =
      sym (map_keep (map value) _ _
      (λ f. sym (zeros_hom (ops q) F e (elt_hom q m h) _
      ∙ ap (zeros F) (along_hom (ops q) F e (elt_hom q m h) Q (map value f) ∙ ap (along F (map (map e) Q)) (elts_values q m h f)))) (messages F k)
      ∙ ap (keep _) (messages_hom F (ops q) value (value_hom q m h) k))

  listed_values : (k a : ℕ) (zs : List (Triple ℕ)) (Q : List (List ℕ)) →
      listed (ops q) k a zs Q ≡ map (map value) (listed F k a (map (move e) zs) (map (map e) Q))
  unfolding listed
  listed_values k a zs Q = ap (sifted (ops q) a zs) (roots_values k Q) ∙ sifted_values a zs _

  readings_values : (k a : ℕ) (points word : List ℕ) → readings (ops q) k a points word ≡ map (map value) (readings F k a (map e points) (map e word))
  unfolding readings scoring
  readings_values k a points word =
      ap (sifted (ops q) a (triples 1 points word)) (sym (messages_hom F (ops q) value (value_hom q m h) k))
      ∙ sifted_values a (triples 1 points word) (messages F k)
      ∙ ap (λ zs. map (map value) (sifted F a zs (messages F k))) (triples_hom e 1 points word)

  pub passes_elts : (k w l s : ℕ) (points word Q : List ℕ) →
      passes (ops q) k w l (triples s points word) Q ≡ passes F k w l (triples s (map e points) (map e word)) (map e Q)
  passes_elts k w l s points word Q =
      passes_hom (ops q) F e (elt_hom q m h) k w l (triples s points word) Q ∙ ap (λ zs. passes F k w l zs (map e Q)) (triples_hom e s points word)

  pub listed_is_readings : (k s a l : ℕ) (points word Q : List ℕ) → 0 < k → 0 < s → T (all (λ x. ltb x q) points) → T (distinct eqb points) →
      T (passes (ops q) k (s * a) l (triples s points word) Q) →
      listed (ops q) k a (triples 1 points word) (rows (s * a) (l + 1) Q) ≡ readings (ops q) k a points word
  listed_is_readings k s a l points word Q u v b d t =
      listed_values k a (triples 1 points word) (rows (s * a) (l + 1) Q)
      ∙ ap (λ zs. map (map value) (listed F k a zs (map (map e) (rows (s * a) (l + 1) Q)))) (triples_hom e 1 points word)
      ∙ ap (λ P. map (map value) (listed F k a (triples 1 (map e points) (map e word)) P)) (map_rows e (s * a) (l + 1) Q)
      ∙ ap (map (map value)) (listed_readings F (laws q m h) k s a l (map e points) (map e word) (map e Q) u v
      (subst T (distinct_elts q m h points b) d) (subst T (passes_elts k (s * a) l s points word Q) t))
      ∙ sym (readings_values k a points word)

-- .. under a setting: the list of rules' outcomes is the list of demand 2
pub list_readings : (S : Setting) (points word Q : List ℕ) → T (modulus S.p) → 0 < S.k → 0 < S.s → T (all (λ x. ltb x S.p) points) →
    T (distinct eqb points) →
    T (fits S points word Q) → list_of S points word Q ≡ readings (ops S.p) S.k (S.n - S.τ) points word
unfolding list_of fits W
list_readings S points word Q m u v b d t = listed_is_readings S.p m S.k S.s (S.n - S.τ) (ℓ S) points word Q u v b d t
