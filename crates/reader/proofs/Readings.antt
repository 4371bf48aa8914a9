-- Demands 2 and 3 of the calls. An accepted listing or reading gives every message that agrees with the word in at least n−τ places,
-- in order, and the beginnings that it tries are those alive for the curve used: at most ℓ of each length, 1 + ℓ·k in all.
use mathlib.Core.Path.{◌≡◌, refl, sym, ap, subst, ◌∙◌}
use mathlib.Core.Bool.{not, ◌&&◌, ◌||◌}
use mathlib.Core.List.{List, [], flatten}
use Prim.Native.Nat.{ℕ, suc, ◌+◌, ◌-◌, ◌*◌, ◌≤◌, ◌<◌}
use native.Mathlib.Omega.{arith}
use lib.Dec.{T, eqb, ltb, eqb→eq}
use lib.ListN.{length}
use borrow.Author.Tests.{not-false}
use Rattle.rules.specs.Field.{ops}
use Rattle.rules.specs.Code.{triples, zeros, readings}
use Rattle.rules.specs.Search.{rows, stripped, alive}
use Rattle.rules.specs.Setting.{Setting, W, ℓ, curve_length, R}
use Rattle.rules.specs.Refusal.{setting_causes, setting_refusal, word_causes, curve_causes, long, under, fits, list_refusal, read_refusal}
use Rattle.rules.specs.Outcome.{Listing, Reading, over, used, usable, list_of, tried_of, list_call, Reads}
use Rattle.rules.proofs.Tests.{both}
use Rattle.demands.proofs.Listing.{list_readings}
use Rattle.demands.proofs.Beginnings.{few_alive}
use Rattle.search.proofs.Start.{bound}
use Rattle.setting.specs.Accepted.{Accepted}
use Rattle.setting.proofs.Accepted.{accepted}
use Rattle.reader.specs.Demanded.{Demanded}
use Rattle.demands.proofs.Passing.{passing_parts}
use Rattle.rules.proofs.Lowest.{none_first, none_parts}
use Rattle.rules.proofs.Given.{Given, given, point_named, first_long, first_under, others_given}
use Rattle.runs.proofs.Places.{under_at}
use Rattle.terms.proofs.First.{setting_named}
use Rattle.reader.proofs.Decided.{list_decided, read_number, read_decided}

module _ (S : Setting) (points word Q : List ℕ) where
  -- an accepted setting, its points, and a curve of symbols that passes for the word
  pub record PassingCurve : Type 0 where
    pub setting : Accepted S
    pub given : Given S.p S.n points []
    pub whole : length Q ≡ curve_length S
    pub small : T (under S.p Q)
    pub passing : T (fits S points word Q)

  module _ (f : PassingCurve) where
    pub passing_readings : list_of S points word Q ≡ readings (ops S.p) S.k (S.n - S.τ) points word
    passing_readings =
        let a = f.setting.passed in
        list_readings S points word Q a.prime (omega (arith, a.ranged.code.k_least)) a.ranged.s_least
        (unfold under in f.given.points_under) f.given.apart f.passing

    live : T (not (zeros (ops S.p) Q))
    unfolding fits
    live = (passing_parts S.p S.k (W S) (ℓ S) (triples S.s points word) Q f.passing).0

    wide : 0 < W S
    wide = omega (arith, f.setting.W_least, f.setting.passed.ranged.code.k_least)

    passing_each : (L : ℕ) → alive (ops S.p) (suc L) (stripped (ops S.p) (rows (W S) (ℓ S + 1) Q)) ≤ ℓ S
    unfolding curve_length
    passing_each L = few_alive S.p f.setting.passed.prime (W S) (ℓ S) L Q wide f.whole live

    passing_tried : tried_of S Q ≤ 1 + ℓ S * S.k
    unfolding tried_of curve_length
    passing_tried =
        bound S.p f.setting.passed.prime S.k (W S) (ℓ S) Q wide f.whole
        (λ j l. under_at S.p Q f.small j (omega (arith, f.whole))) live

    demanded : (output : List ℕ) → let fs = list_of S points word Q in
        Demanded S points word Q (length fs) (tried_of S Q) output (over (flatten fs) output)
    demanded output = record {
      list = ap length passing_readings;
      written = ap (λ fs. over (flatten fs) output) passing_readings;
      counted = refl;
      each = passing_each;
      few = passing_tried;
    }

module _ (S : Setting) (points word Q output work : List ℕ) where
  list_passing : list_refusal S points word Q (length output) (length work) ≡ 0 → PassingCurve S points word Q
  unfolding list_refusal curve_causes
  list_passing z =
      let first = none_parts (setting_causes S) _ (setting_named S) z in
      let second = none_parts (curve_causes S points word Q) _ (point_named S.p S.n points _) first.1 in
      let rooms = none_first 8 (ltb (length output) (ℓ S * S.k) || ltb (length work) (R S)) _ second.1 (λ e. omega arith) in
      let last = none_first 9 (not (fits S points word Q)) [] rooms.1 (λ e. omega arith) in
      let curve = others_given (given S.p S.n points _ second.0) in
      record {
        setting = accepted S (unfold setting_refusal in first.0);
        given = others_given curve;
        whole = first_long curve;
        small = first_under curve;
        passing = rw (not-false (fits S points word Q) last.0) tt;
      }

  pub list_reads : (o : Listing) → o ≡ list_call S points word Q output work → o.refusal ≡ 0
      → Demanded S points word Q o.found o.tried output o.output
  list_reads o e z =
      let d = list_decided S points word Q output work e in
      let none = sym d.is_number ∙ z in
      rw (d.accepted none) (demanded S points word Q (list_passing none) output)

-- what a curve is that may be used
pub usable_parts : (S : Setting) (points word Q : List ℕ) → T (usable S points word Q)
    → (length Q ≡ curve_length S) × T (under S.p Q) × T (fits S points word Q)
unfolding usable long
usable_parts S points word Q u =
    let t = both (eqb (length Q) (curve_length S) && under S.p Q) (fits S points word Q) u in
    let symbols = both (eqb (length Q) (curve_length S)) (under S.p Q) t.0 in
    (eqb→eq (length Q) (curve_length S) symbols.0, symbols.1, t.1)

module _ (S : Setting) (points word output curve work : List ℕ) where
  pub read_passing : read_number S points word output curve work ≡ 0 → (Q : List ℕ) → T (usable S points word Q) → PassingCurve S points word Q
  unfolding read_refusal word_causes
  read_passing z Q u =
      let first = none_parts (setting_causes S) _ (setting_named S) z in
      let second = none_parts (word_causes S points word) _ (point_named S.p S.n points _) first.1 in
      let parts = usable_parts S points word Q u in
      record {
        setting = accepted S (unfold setting_refusal in first.0);
        given = others_given (given S.p S.n points _ second.0);
        whole = parts.0;
        small = parts.1;
        passing = parts.2;
      }

  pub read_reads : (o : Reading) → Reads S points word output curve work o → o.refusal ≡ 0
      → Demanded S points word (used S o.curve) o.found o.tried output o.output
  read_reads o h z =
      let Q = used S o.curve in
      let d = read_decided S points word output curve work h in
      let none = sym d.is_number ∙ z in
      subst (λ (o : Reading). Demanded S points word Q o.found o.tried output o.output) (sym (d.accepted none))
      (demanded S points word Q (read_passing none Q (h.passes z)) output)
