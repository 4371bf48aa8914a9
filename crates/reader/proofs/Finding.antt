-- find, return by return: what it knows there, and that its outcome is allowed.
use mathlib.Core.Path.{◌≡◌, refl, sym, ◌∙◌}
use mathlib.Core.Bool.{Bool, ◌||◌}
use mathlib.Core.List.{List, [], ◌∷◌, ◌++◌}
use Prim.Native.Nat.{ℕ, ◌≤◌}
use lib.Dec.{ltb}
use lib.ListN.{length, take, drop}
use borrow.Author.Tests.{ne_eqb}
use Rattle.rules.specs.Setting.{Setting}
use Rattle.rules.specs.Refusal.{◌if◌, ◌of◌, lowest, point_causes, word_causes, find_refusal}
use Rattle.rules.specs.Outcome.{find_call, Finds}
use Rattle.std.specs.Prelude.{Result, Ok, Err}
use Rattle.std.specs.List.{list_any}
use Rattle.causes.specs.declared.Refusal.{Refusal}
use Rattle.causes.specs.Number.{number}
use Rattle.causes.proofs.Number.{never_zero}
use Rattle.terms.specs.declared.Terms.{Terms}
use Rattle.terms.specs.Terms.{Settled, Posed}
use Rattle.reader.specs.Calls.{finding}
use Rattle.engine.specs.Word.{Findable, CurveLeft}
use Rattle.terms.proofs.First.{setting_refuses, others_decide}
use Rattle.rules.proofs.Given.{Given, given, point_named}
use Rattle.refusals.proofs.Rooms.{two_short, two_rooms, not_eight}
use Rattle.reader.proofs.Front.{length_front, over_front, used_over, cleared_front}
use Rattle.reader.proofs.Settled as settled

-- where nothing is refused: n points and symbols, and room for the curve and for work
pub record FindGranted (S : Setting) (t : Terms) (points word curve work : List ℕ) : Type 0 where
  pub given : Given S.p S.n points ((S.n of word) ∷ [])
  pub curve_fits : t.size ≤ length curve
  pub work_fits : t.room ≤ length work

-- the number is told
pub record FindTested (S : Setting) (t : Terms) (points word curve work : List ℕ) (number : ℕ) : Type 0 where
  pub settled : Settled S t
  pub is : number ≡ find_refusal S points word (length curve) (length work)
  pub granted : number ≡ 0 → FindGranted S t points word curve work

module _ (S : Setting) (points word curve work : List ℕ) where
  refused : {A : Type 0} {r : Result A Refusal} {cause : Refusal} → r ≡ Err cause
      → number cause ≡ find_refusal S points word (length curve) (length work) → Finds S points word curve work (finding r curve work)
  unfolding find_call
  refused {cause = cause} is e = rw is (record {
    passes = λ z. absurd (never_zero cause z);
    rest = rw (← e) (simp (ne_eqb (number cause) 0 (never_zero cause)) refl);
  })

module _ {S : Setting} (points word curve work : List ℕ) where
  pub find_unsettled : {A : Type 0} {r : Result A Refusal} {cause : Refusal} → r ≡ Err cause → Posed S (Err cause)
      → Finds S points word curve work (finding r curve work)
  unfolding find_refusal
  find_unsettled is posed = refused S points word curve work is (setting_refuses _ posed)

  pub find_tested : {t : Terms} → Posed S (Ok t) → {short : Bool} → short ≡ list_any (λ (room : ℕ × ℕ). ltb room.0 room.1) ((length curve, t.size) ∷ (length work, t.room) ∷ [])
      → {number : ℕ} → number ≡ lowest (point_causes S.p S.n points ((S.n of word) ∷ []) ++ (8 if short) ∷ [])
      → FindTested S t points word curve work number
  unfolding find_refusal word_causes
  find_tested {t} posed {short} is_any e = let is_short : short ≡ ltb (length curve) t.size || ltb (length work) t.room = is_any ∙ two_short (length curve) t.size (length work) t.room in record {
    settled = posed.settled;
    is = e ∙ rw (is_short, posed.settled.is_size, posed.settled.is_R) (others_decide _ posed);
    granted = λ none.
        let g = not_eight _ (point_named S.p S.n points _) (sym e ∙ none) in
        let rooms = two_rooms (length curve) t.size (length work) t.room (sym is_short ∙ g.1) in
        record { given = given S.p S.n points _ g.0; curve_fits = rooms.0; work_fits = rooms.1 };
  }

  pub find_refused : {A : Type 0} {t : Terms} {r : Result A Refusal} {cause : Refusal} → r ≡ Err cause
      → FindTested S t points word curve work (number cause) → Finds S points word curve work (finding r curve work)
  find_refused is h = refused S points word curve work is h.is

module _ {S : Setting} {t : Terms} {points word curve work : List ℕ} (h : FindTested S t points word curve work 0) where
  pub findable : Findable t.shape.field.q t.shape.k t.shape.w t.shape.l t.s points word (take t.size curve) (take t.room work)
  findable =
      let g = h.granted refl in
      settled.findable h.settled g.given (length_front _ _ g.curve_fits) (length_front _ _ g.work_fits)

  -- the lent fronts of both buffers are back
  pub find_accepted : {A : Type 0} (x : A) {Q front : List ℕ} → CurveLeft t.shape.field.q t.shape.k t.shape.w t.shape.l t.s points word Q (take t.room work) front
      → let curve' = Q ++ drop t.size curve in let work' = front ++ drop t.room work in
      Finds S points word curve work (finding (Ok x) curve' work')
  unfolding find_call
  find_accepted x {Q} f =
      let whole = f.whole ∙ sym (settled.size_is h.settled) in
      let used_again = used_over S Q curve (whole ∙ h.settled.is_size) in
      let clear = cleared_front t.room work (h.granted refl).work_fits f.cleared in
      rw (over_front t.size curve Q whole, clear, h.settled.is_R) (record {
        passes = λ z. rw used_again (settled.usable_is h.settled points word Q f.whole f.small f.passing);
        rest = rw used_again (rw (← h.is) refl);
      })
