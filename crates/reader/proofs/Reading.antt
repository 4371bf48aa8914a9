-- read, return by return: what it knows there, and that its outcome is allowed.
use mathlib.Core.Path.{◌≡◌, refl, sym, ap, ◌∙◌}
use mathlib.Core.Bool.{Bool, ◌||◌}
use mathlib.Core.List.{List, [], ◌∷◌, ◌++◌, flatten}
use Prim.Native.Nat.{ℕ, ◌≤◌}
use lib.Dec.{ltb}
use lib.ListN.{length, take, drop}
use borrow.Author.Tests.{ne_eqb}
use Rattle.rules.specs.Setting.{Setting}
use Rattle.rules.specs.Refusal.{◌if◌, ◌of◌, lowest, point_causes, word_causes, read_refusal}
use Rattle.rules.specs.Outcome.{over, read_call, Reads}
use Rattle.roots.specs.declared.Tally.{Tally}
use Rattle.std.specs.Prelude.{Result, Ok, Err}
use Rattle.std.specs.List.{list_any}
use Rattle.causes.specs.declared.Refusal.{Refusal}
use Rattle.causes.specs.Number.{number}
use Rattle.causes.proofs.Number.{never_zero}
use Rattle.terms.specs.declared.Terms.{Terms}
use Rattle.terms.specs.Terms.{Settled, Posed}
use Rattle.reader.specs.Calls.{reading}
use Rattle.engine.specs.Word.{Readable, CurveLeft, Listed}
use Rattle.terms.proofs.First.{setting_refuses, others_decide}
use Rattle.rules.proofs.Given.{Given, given, point_named}
use Rattle.refusals.proofs.Rooms.{three_short, three_rooms, not_eight}
use Rattle.reader.proofs.Front.{length_front, over_front, used_over, cleared_front}
use Rattle.reader.proofs.Settled as settled

-- where nothing is refused: n points and symbols, and room for the list, for the curve and for work
pub record ReadGranted (S : Setting) (t : Terms) (points word output curve work : List ℕ) : Type 0 where
  pub given : Given S.p S.n points ((S.n of word) ∷ [])
  pub output_fits : t.list ≤ length output
  pub curve_fits : t.size ≤ length curve
  pub work_fits : t.room ≤ length work

-- the number is told
pub record ReadTested (S : Setting) (t : Terms) (points word output curve work : List ℕ) (number : ℕ) : Type 0 where
  pub settled : Settled S t
  pub is : number ≡ read_refusal S points word (length output) (length curve) (length work)
  pub granted : number ≡ 0 → ReadGranted S t points word output curve work

module _ (S : Setting) (points word output curve work : List ℕ) where
  refused : {r : Result Tally Refusal} {cause : Refusal} → r ≡ Err cause
      → number cause ≡ read_refusal S points word (length output) (length curve) (length work)
      → Reads S points word output curve work (reading r output curve work)
  unfolding read_call
  refused {cause = cause} is e = rw is (record {
    passes = λ z. absurd (never_zero cause z);
    rest = rw (← e) (simp (ne_eqb (number cause) 0 (never_zero cause)) refl);
  })

module _ {S : Setting} (points word output curve work : List ℕ) where
  pub read_unsettled : {r : Result Tally Refusal} {cause : Refusal} → r ≡ Err cause → Posed S (Err cause)
      → Reads S points word output curve work (reading r output curve work)
  unfolding read_refusal
  read_unsettled is posed = refused S points word output curve work is (setting_refuses _ posed)

  pub read_tested : {t : Terms} → Posed S (Ok t) → {short : Bool}
      → short ≡ list_any (λ (room : ℕ × ℕ). ltb room.0 room.1) ((length output, t.list) ∷ (length curve, t.size) ∷ (length work, t.room) ∷ [])
      → {number : ℕ} → number ≡ lowest (point_causes S.p S.n points ((S.n of word) ∷ []) ++ (8 if short) ∷ [])
      → ReadTested S t points word output curve work number
  unfolding read_refusal word_causes
  read_tested {t} posed {short} is_any e =
      let is_short : short ≡ ltb (length output) t.list || ltb (length curve) t.size || ltb (length work) t.room =
      is_any ∙ three_short (length output) t.list (length curve) t.size (length work) t.room in
      record {
        settled = posed.settled;
        is = e ∙ rw (is_short, posed.settled.is_list, posed.settled.is_size, posed.settled.is_R) (others_decide _ posed);
        granted = λ none.
            let g = not_eight _ (point_named S.p S.n points _) (sym e ∙ none) in
            let rooms = three_rooms (length output) t.list (length curve) t.size (length work) t.room (sym is_short ∙ g.1) in
            record {
              given = given S.p S.n points _ g.0;
              output_fits = rooms.0;
              curve_fits = rooms.1;
              work_fits = rooms.2;
            };
      }

  pub read_refused : {t : Terms} {r : Result Tally Refusal} {cause : Refusal} → r ≡ Err cause
      → ReadTested S t points word output curve work (number cause) → Reads S points word output curve work (reading r output curve work)
  read_refused is h = refused S points word output curve work is h.is

module _ {S : Setting} {t : Terms} {points word output curve work : List ℕ} (h : ReadTested S t points word output curve work 0) where
  pub readable : Readable t.shape.field.q t.shape.k t.shape.w t.shape.l t.s points word output (take t.size curve) (take t.room work)
  readable =
      let g = h.granted refl in
      settled.readable h.settled g.given g.output_fits (length_front _ _ g.curve_fits) (length_front _ _ g.work_fits)

  -- the lent fronts of curve and work are back
  pub read_accepted : {output' Q front : List ℕ} {tally : Tally}
      → CurveLeft t.shape.field.q t.shape.k t.shape.w t.shape.l t.s points word Q (take t.room work) front
      → Listed t.shape.field.q t.shape.k t.shape.w t.shape.l t.s points word Q output (take t.room work) output' front tally
      → let curve' = Q ++ drop t.size curve in let work' = front ++ drop t.room work in
      Reads S points word output curve work (reading (Ok tally) output' curve' work')
  unfolding read_call
  read_accepted {Q = Q} f o =
      let whole = f.whole ∙ sym (settled.size_is h.settled) in
      let used_again = used_over S Q curve (whole ∙ h.settled.is_size) in
      let same = settled.list_is h.settled points word Q in
      let clear = cleared_front t.room work (h.granted refl).work_fits f.cleared in
      rw (over_front t.size curve Q whole, clear, h.settled.is_R) (record {
        passes = λ z. rw used_again (settled.usable_is h.settled points word Q f.whole f.small f.passing);
        rest = rw used_again (rw (
          ← h.is,
          o.found ∙ ap length same,
          o.tried ∙ settled.tried_is h.settled points word Q,
          o.written ∙ ap (λ fs. over (flatten fs) output) same,
        ) refl);
      })
