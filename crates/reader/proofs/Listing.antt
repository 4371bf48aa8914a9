-- list, return by return: what it knows there, and that it answers as the definition says.
use mathlib.Core.Path.{◌≡◌, refl, sym, ap, ◌∙◌}
use mathlib.Core.Bool.{Bool, true, false, not, ◌||◌}
use mathlib.Core.List.{List, [], ◌∷◌, ◌++◌, flatten}
use Prim.Native.Nat.{ℕ, ◌≤◌}
use lib.Dec.{T, ltb}
use lib.ListN.{length, take, drop}
use borrow.Author.Tests.{ne_eqb}
use Rattle.rules.specs.Field.{ops}
use Rattle.rules.specs.Code.{triples}
use Rattle.rules.specs.Curve.{passes}
use Rattle.rules.specs.Setting.{Setting}
use Rattle.rules.specs.Refusal.{Cause, ◌if◌, ◌of◌, lowest, symbol_causes, point_causes, curve_causes, fits, list_refusal}
use Rattle.rules.specs.Outcome.{over, list_call}
use Rattle.roots.specs.declared.Tally.{Tally}
use Rattle.std.specs.Prelude.{Result, Ok, Err}
use Rattle.std.specs.List.{list_any}
use Rattle.causes.specs.declared.Refusal.{Refusal}
use Rattle.causes.specs.declared.Refusal.TheVariants.{CurveFails}
use Rattle.causes.specs.Number.{number}
use Rattle.causes.proofs.Number.{never_zero}
use Rattle.terms.specs.declared.Terms.{Terms}
use Rattle.terms.specs.Terms.{Settled, Posed}
use Rattle.reader.specs.Calls.{listing}
use Rattle.engine.specs.Word.{Listable, Listed}
use Rattle.terms.proofs.First.{setting_refuses, others_decide}
use Rattle.rules.proofs.Lowest.{named, lowest_none, here, later, first_refuses, first_accept}
use Rattle.rules.proofs.Given.{Given, given, point_named}
use Rattle.refusals.proofs.Rooms.{two_short, two_rooms, not_eight}
use Rattle.reader.proofs.Front.{length_front, cleared_front}
use Rattle.reader.proofs.Settled as settled

-- where 5 to 8 do not apply: n points and symbols, a whole curve, and room for the list and for work
pub record ListGranted (S : Setting) (t : Terms) (points word Q output work : List ℕ) : Type 0 where
  pub given : Given S.p S.n points ((S.n of word) ∷ (t.size of Q) ∷ [])
  pub output_fits : t.list ≤ length output
  pub work_fits : t.room ≤ length work

-- 5 to 8 are told: where one applies it is the call's refusal, and else 9 decides
pub record ListTested (S : Setting) (t : Terms) (points word Q output work : List ℕ) (number : ℕ) : Type 0 where
  pub settled : Settled S t
  pub refuses : ¬ (number ≡ 0) → number ≡ list_refusal S points word Q (length output) (length work)
  pub nine : number ≡ 0 → lowest ((9 if not (fits S points word Q)) ∷ []) ≡ list_refusal S points word Q (length output) (length work)
  pub granted : number ≡ 0 → ListGranted S t points word Q output work

module _ (S : Setting) (points word Q output work : List ℕ) where
  refused : {r : Result Tally Refusal} {cause : Refusal} → r ≡ Err cause
      → number cause ≡ list_refusal S points word Q (length output) (length work) → listing r output work ≡ list_call S points word Q output work
  unfolding list_call
  refused {cause = cause} is e = rw (is, ← e) (simp (ne_eqb (number cause) 0 (never_zero cause)) refl)

module _ {S : Setting} (points word Q output work : List ℕ) where
  pub list_unsettled : {r : Result Tally Refusal} {cause : Refusal} → r ≡ Err cause → Posed S (Err cause)
      → listing r output work ≡ list_call S points word Q output work
  unfolding list_refusal
  list_unsettled is posed = refused S points word Q output work is (setting_refuses _ posed)

  module _ {t : Terms} (posed : Posed S (Ok t)) {short : Bool}
      (is_any : short ≡ list_any (λ (room : ℕ × ℕ). ltb room.0 room.1) ((length output, t.list) ∷ (length work, t.room) ∷ [])) where
    is_short : short ≡ ltb (length output) t.list || ltb (length work) t.room
    is_short = is_any ∙ two_short (length output) t.list (length work) t.room

    -- 5 to 8
    abbrev tests : List Cause
    tests = point_causes S.p S.n points ((S.n of word) ∷ (t.size of Q) ∷ []) ++ (8 if short) ∷ []

    -- .. and then 9
    behind : lowest (tests ++ (9 if not (fits S points word Q)) ∷ []) ≡ list_refusal S points word Q (length output) (length work)
    unfolding list_refusal curve_causes symbol_causes point_causes
    behind = let h = posed.settled in rw (is_short, h.is_size, h.is_list, h.is_R) (others_decide _ posed)

    eight_named : T (named tests)
    unfolding named symbol_causes point_causes
    eight_named = tt

    pub list_tested : {number : ℕ} → number ≡ lowest tests → ListTested S t points word Q output work number
    list_tested e = record {
      settled = posed.settled;
      refuses = λ some. first_refuses _ _ e some ∙ behind;
      nine = λ none. sym (first_accept _ _ eight_named (sym e ∙ none)) ∙ behind;
      granted = λ none.
          let g = not_eight _ (point_named S.p S.n points _) (sym e ∙ none) in
          let rooms = two_rooms (length output) t.list (length work) t.room (sym is_short ∙ g.1) in
          record { given = given S.p S.n points _ g.0; output_fits = rooms.0; work_fits = rooms.1 };
    }

  pub list_refused : {t : Terms} {r : Result Tally Refusal} {cause : Refusal} → r ≡ Err cause
      → ListTested S t points word Q output work (number cause) → listing r output work ≡ list_call S points word Q output work
  list_refused {cause = cause} is h = refused S points word Q output work is (h.refuses (never_zero cause))

module _ {S : Setting} {t : Terms} {points word Q output work : List ℕ} (h : ListTested S t points word Q output work 0) where
  -- b: whether the curve passes
  module _ {b : Bool} (e : b ≡ passes (ops t.shape.field.q) t.shape.k t.shape.w t.shape.l (triples t.s points word) Q) where
    pub list_fails : b ≡ false → listing (Err CurveFails) output work ≡ list_call S points word Q output work
    list_fails no_fit =
        let failing = sym (e ∙ settled.fits_is h.settled points word Q) ∙ no_fit in
        refused S points word Q output work {cause = CurveFails} refl (here 9 _ [] (ap not failing) ∙ h.nine refl)

    module _ (fit : b ≡ true) where
      pub listable : Listable t.shape.field.q t.shape.k t.shape.w t.shape.l t.s points word Q output (take t.room work)
      listable =
          let g = h.granted refl in
          settled.listable h.settled g.given (rw (sym e ∙ fit) tt) g.output_fits (length_front _ _ g.work_fits)

      -- the lent front of work is back
      pub list_accepted : {output' front : List ℕ} {tally : Tally}
          → Listed t.shape.field.q t.shape.k t.shape.w t.shape.l t.s points word Q output (take t.room work) output' front tally
          → listing (Ok tally) output' (front ++ drop t.room work) ≡ list_call S points word Q output work
      unfolding list_call
      list_accepted o =
          let passing = sym (e ∙ settled.fits_is h.settled points word Q) ∙ fit in
          let accepted = later 9 _ [] (ap not passing) lowest_none ∙ h.nine refl in
          let same = settled.list_is h.settled points word Q in
          let clear = cleared_front t.room work (h.granted refl).work_fits o.cleared in
          rw (
            ← accepted,
            o.found ∙ ap length same,
            o.tried ∙ settled.tried_is h.settled points word Q,
            o.written ∙ ap (λ fs. over (flatten fs) output) same,
            clear,
            h.settled.is_R,
          ) refl
