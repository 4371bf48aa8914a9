-- A settled setting: what its numbers give the engine, and what the engine's answers say of the setting.
use mathlib.Core.Path.{◌≡◌, refl, sym, ◌∙◌}
use mathlib.Core.Bool.{◌&&◌}
use mathlib.Core.List.{List, [], ◌∷◌}
use Prim.Native.Nat.{ℕ, ◌+◌, ◌*◌, ◌≤◌}
use native.Mathlib.Nat.{mul-le-mul_right}
use native.Mathlib.Omega.{arith}
use lib.Dec.{T}
use borrow.Author.Tests.{eq-eqb}
use lib.ListN.{length}
use Rattle.rules.specs.Setting.{Setting, W, ℓ, C, U, curve_length}
use Rattle.rules.specs.Field.{ops}
use Rattle.rules.specs.Code.{triples}
use Rattle.rules.specs.Curve.{passes}
use Rattle.rules.specs.Search.{rows, beginnings, listed}
use Rattle.rules.specs.Refusal.{Run, ◌of◌, long, under, fits}
use Rattle.rules.specs.Outcome.{usable, list_of, tried_of}
use Rattle.rules.proofs.Tests.{and}
use Rattle.algebra.proofs.Agreement.{sifted_times}
use Rattle.terms.specs.declared.Terms.{Terms}
use Rattle.terms.specs.Terms.{Settled}
use Rattle.engine.specs.Word.{Worded, Findable, Listable, Readable, scoring_roots}
use Rattle.rules.proofs.Given.{Given, first_long, first_under, others_given}

module _ {S : Setting} {t : Terms} (h : Settled S t) where
  -- a curve is as long as the engine computes it
  pub size_is : t.size ≡ (t.shape.l + 1) * t.shape.w
  unfolding curve_length
  size_is = h.is_size ∙ rw (h.is_W, h.is_ℓ) refl

  -- so many slots of a curve are among those of R
  slots : (m : ℕ) → m ≤ ℓ S + S.k + 4 → m * ((t.shape.l + 1) * t.shape.w) ≤ t.room
  slots m l =
      let among = mul-le-mul_right {m = m} {n = ℓ S + S.k + 4} (curve_length S) l in
      rw (← size_is, h.is_size) (omega (arith, among, h.accepted.slots))

  list_most : t.shape.l * t.shape.k ≤ 1536
  list_most = rw (h.is_ℓ, h.is_k) h.accepted.output_most

  list_fits : {n : ℕ} → t.list ≤ n → t.shape.l * t.shape.k ≤ n
  list_fits room = rw (h.is_ℓ, h.is_k) (omega (arith, h.is_list))

  module _ {points word : List ℕ} where
    pub worded : {others : List Run} → Given S.p S.n points ((S.n of word) ∷ others)
        → Worded t.shape.field.q t.shape.k t.shape.w t.shape.l t.s points word
    worded g = record {
      shape = t.shape.shaped;
      small = omega (arith, h.is_s, h.accepted.passed.ranged.s_most);
      few = omega (arith, g.points_long, h.accepted.passed.ranged.code.n_most);
      same = first_long g ∙ sym g.points_long;
    }

    pub findable : Given S.p S.n points ((S.n of word) ∷ []) → {curve work : List ℕ} → t.size ≡ length curve → t.room ≡ length work
        → Findable t.shape.field.q t.shape.k t.shape.w t.shape.l t.s points word curve work
    unfolding C U
    findable g whole room = record {
      worded = worded g;
      whole = sym whole ∙ size_is;
      slots = omega (arith, slots (t.shape.l + 1) (omega (arith, h.is_ℓ)));
      enough = rw (g.points_long, h.is_s, h.is_k, h.is_W, h.is_ℓ) h.accepted.passed.enough;
    }

    pub readable : Given S.p S.n points ((S.n of word) ∷ []) → {output curve work : List ℕ}
        → t.list ≤ length output → t.size ≡ length curve → t.room ≡ length work
        → Readable t.shape.field.q t.shape.k t.shape.w t.shape.l t.s points word output curve work
    readable g list whole room = record {
      findable = findable g whole room;
      symbols = rw h.is_p (first_under g);
      slots = omega (arith, slots (t.shape.k + 2) (omega (arith, h.is_k)));
      list = list_most;
      room = list_fits list;
    }

    module _ {Q : List ℕ} (g : Given S.p S.n points ((S.n of word) ∷ (t.size of Q) ∷ [])) where
      pub checkable : Worded t.shape.field.q t.shape.k t.shape.w t.shape.l t.s points word × (length Q ≡ (t.shape.l + 1) * t.shape.w) × T (under t.shape.field.q Q)
      checkable = let curve = others_given g in (worded g, first_long curve ∙ size_is, rw h.is_p (first_under curve))

      pub listable : T (passes (ops t.shape.field.q) t.shape.k t.shape.w t.shape.l (triples t.s points word) Q)
          → {output work : List ℕ} → t.list ≤ length output → t.room ≡ length work
          → Listable t.shape.field.q t.shape.k t.shape.w t.shape.l t.s points word Q output work
      listable passing list room = record {
        worded = checkable.0;
        symbols = rw h.is_p (first_under g);
        whole = checkable.1;
        small = checkable.2;
        passing = passing;
        slots = omega (arith, slots (t.shape.k + 2) (omega (arith, h.is_k)));
        list = list_most;
        room = list_fits list;
      }

  module _ (points word Q : List ℕ) where
    pub fits_is : passes (ops t.shape.field.q) t.shape.k t.shape.w t.shape.l (triples t.s points word) Q ≡ fits S points word Q
    unfolding fits
    fits_is = rw (h.is_p, h.is_k, h.is_s, h.is_W, h.is_ℓ) refl

    -- what finding leaves may be used
    pub usable_is : length Q ≡ (t.shape.l + 1) * t.shape.w → T (under t.shape.field.q Q)
        → T (passes (ops t.shape.field.q) t.shape.k t.shape.w t.shape.l (triples t.s points word) Q)
        → T (usable S points word Q)
    unfolding usable long
    usable_is l u p =
        and (long (curve_length S) Q && under S.p Q) (fits S points word Q)
        (and (long (curve_length S) Q) (under S.p Q) (rw (eq-eqb (length Q) (curve_length S) (l ∙ sym size_is ∙ h.is_size)) tt) (rw (← h.is_p) u))
        (rw (← fits_is) p)

    -- w is s·(n−τ), so a score of at least w is an agreement in at least n−τ places
    pub list_is : scoring_roots t.shape.field.q t.shape.k t.shape.w t.shape.l t.s points word Q ≡ list_of S points word Q
    unfolding list_of listed W
    list_is =
        let times = sifted_times (ops S.p) S.s _ points word _ h.accepted.passed.ranged.s_least in
        rw (h.is_p, h.is_k, h.is_s, h.is_W, h.is_ℓ) times

    pub tried_is : beginnings (ops t.shape.field.q) t.shape.k (rows t.shape.w (t.shape.l + 1) Q) ≡ tried_of S Q
    unfolding tried_of
    tried_is = rw (h.is_p, h.is_k, h.is_W, h.is_ℓ) refl
