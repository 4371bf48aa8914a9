-- The lines of a film are those of its parts: a turn's number stands in front of its text alone, and of the records before it the repeated ones decide.
use mathlib.Core.Path.{◌≡◌, refl, sym, ◌∙◌, ap}
use mathlib.Core.Bool.{Bool, true, false, cond, not}
use mathlib.Core.List.{List, [], ◌∷◌, ◌++◌, foldl, flatten, append_assoc, append-nil}
use Prim.Native.Nat.{ℕ, zero, suc, ◌+◌, ◌≤◌, ◌<◌}
use native.Mathlib.Omega.{arith}
use lib.Dec.{eqb}
use lib.ListN.{length, take, drop, length-append, length-take, length-drop}
use lib.Seq.{take_at, drop_at}
use Rattle.rules.specs.Setting.{Setting}
use Rattle.rules.specs.Patch.{
  pairs,
  digits_in,
  digits,
  spaced,
  line,
  length_fits,
  length_of,
  size,
  kind,
  body,
  broken,
  Held,
  nothing,
  set,
  ready,
  points_refusal,
  word_refusal,
  Turn,
  report,
  setting_turn,
  points_turn,
  word_turn,
  missing,
  points_come,
  word_comes,
  whole,
  turn,
  printed_from,
  printed,
}
use Rattle.rules.specs.Film.{
  records_in,
  records_of,
  Whole,
  EachWhole,
  held_after,
  unnumbered,
  told,
  told_of,
  numbered,
  behind,
  keeping,
  repeated,
}
use Rattle.rules.proofs.Tests.{either}

-- A turn, whatever its number

-- number i of a record that goes on, with the text of number 1 but for the number
abbrev renumbered : ℕ → Held → List ℕ → Turn
renumbered i held text = record { held = held; text = digits i ++ drop 1 text; more = true }

points_numbered : (i : ℕ) (held : Held) (numbers : List ℕ) →
    points_come i held numbers ≡ renumbered i (points_come 1 held numbers).held (points_come 1 held numbers).text
unfolding points_come missing points_turn report line digits digits_in
points_numbered i nothing numbers = refl
points_numbered i (set S) numbers = refl
points_numbered i (ready S points) numbers = refl

lines_numbered : (i : ℕ) (accepted : Bool) (fields others more : List ℕ) →
    cond accepted (line (digits i) fields ++ more) (line (digits i) others) ≡
    digits i ++ drop 1 (cond accepted (line (digits 1) fields ++ more) (line (digits 1) others))
unfolding line digits digits_in
lines_numbered i true fields others more = append_assoc (digits i) (spaced fields ++ (10 ∷ [])) more
lines_numbered i false fields others more = refl

word_numbered : (i : ℕ) (held : Held) (numbers : List ℕ) → word_comes i held numbers ≡ renumbered i held (word_comes 1 held numbers).text
unfolding word_comes missing word_turn report line digits digits_in
word_numbered i nothing numbers = refl
word_numbered i (set S) numbers = refl
word_numbered i (ready S points) numbers =
    ap (λ text. record { held = ready S points; text = text; more = true }) (lines_numbered i (eqb (word_refusal S numbers) 0) _ _ _)

-- what is held after a whole record: only a setting and points change it
abbrev next : ℕ → Held → List ℕ → Held
next k held numbers = cond (eqb k 1) (setting_turn 1 numbers).held (cond (eqb k 2) (points_come 1 held numbers).held held)

whole_numbered : (i k : ℕ) (held : Held) (numbers : List ℕ) (s p w : Bool) → eqb k 1 ≡ s → eqb k 2 ≡ p → eqb k 3 ≡ w →
    whole i k held numbers ≡ renumbered i (next k held numbers) (whole 1 k held numbers).text
unfolding whole setting_turn report line digits digits_in
whole_numbered i k held numbers true p w d e f = rw d
whole_numbered i k held numbers false true w d e f = rw (d, e) (points_numbered i held numbers)
whole_numbered i k held numbers false false true d e f = rw (d, e, f) (word_numbered i held numbers)
whole_numbered i k held numbers false false false d e f = rw (d, e, f)

-- nothing of a turn but the front of its text depends on its number; a broken record stops, and only a whole one changes what is held
pub turn_numbered : (i : ℕ) (held : Held) (b : List ℕ) (stop : Bool) → 0 < length b → broken b ≡ stop →
    turn i held b ≡ record { held = cond stop held (next (kind b) held (body b)); text = digits i ++ unnumbered held b; more = not stop }
unfolding turn unnumbered report line digits digits_in
turn_numbered i held [] stop h e = absurd (omega arith)
turn_numbered i held (x ∷ bytes) true h e = rw e
turn_numbered i held (x ∷ bytes) false h e = let b = x ∷ bytes in rw e (whole_numbered i (kind b) held (body b) _ _ _ refl refl refl)

pub two_size : (b : List ℕ) → 2 ≤ size b
unfolding size
two_size b = either (λ n. 2 ≤ n) (2 + length_of b) 2 (length_fits (length_of b)) (λ _. omega arith) (λ _. omega arith)

module _ (b : List ℕ) (w : Whole b) (held : Held) where
  turn_whole : turn 1 held b ≡ record { held = next (kind b) held (body b); text = digits 1 ++ unnumbered held b; more = true }
  turn_whole = turn_numbered 1 held b false (omega (arith, two_size b, w.1)) w.0

  held_whole : (turn 1 held b).held ≡ next (kind b) held (body b)
  held_whole = ap (λ t. t.held) turn_whole

-- What the repeated records leave held

points_over : (S : Setting) (m n : List ℕ) → (points_come 1 (points_turn 1 S m).held n).held ≡ (points_turn 1 S n).held
unfolding points_come points_turn
points_over S m n = either (λ h. (points_come 1 h n).held ≡ (points_turn 1 S n).held) _ _ (eqb (points_refusal S m) 0) (λ _. refl) (λ _. refl)

-- points take the place of points
points_last : (held : Held) (m n : List ℕ) → (points_come 1 (points_come 1 held m).held n).held ≡ (points_come 1 held n).held
unfolding points_come missing
points_last nothing m n = refl
points_last (set S) m n = points_over S m n
points_last (ready S points) m n = points_over S m n

-- a record that does what points do
abbrev Points : List ℕ → Type 0
Points b = (held : Held) → (turn 1 held b).held ≡ (points_come 1 held (body b)).held

-- whole records behind which points do the same, whether points stood there or not
abbrev Stand : List (List ℕ) → Type 0
Stand kept = EachWhole kept × ((b : List ℕ) → Points b → held_after nothing (behind kept b) ≡ (turn 1 (held_after nothing kept) b).held)

none_kept : Stand []
unfolding behind held_after points_come missing
none_kept = (tt, λ b p. sym (p nothing))

behind_kept : (kept : List (List ℕ)) (b : List ℕ) → EachWhole kept → Whole b → Points b → Stand (behind kept b)
unfolding behind held_after
behind_kept [] b v w p = none_kept
behind_kept (setting ∷ others) b v w p =
    let held = (turn 1 nothing setting).held in (
      (v.0, (w, tt)),
      λ c q. q held ∙ sym (points_last held (body b) (body c)) ∙ ap (λ h. (points_come 1 h (body c)).held) (sym (p held)) ∙ sym (q (turn 1 held b).held),
    )

keeping_kept : (kept : List (List ℕ)) (b : List ℕ) (s p : Bool) → Stand kept → Whole b → eqb (kind b) 1 ≡ s → eqb (kind b) 2 ≡ p →
    (held_after nothing (keeping kept b) ≡ (turn 1 (held_after nothing kept) b).held) × Stand (keeping kept b)
unfolding held_after keeping behind
keeping_kept kept b true p k w d e = rw d (rw (held_whole b w nothing, held_whole b w (held_after nothing kept), d), ((w, tt), λ c q. refl))
keeping_kept kept b false true k w d e = let p : Points b = λ h. held_whole b w h ∙ rw (d, e) in rw (d, e) (k.1 b p, behind_kept kept b k.0 w p)
keeping_kept kept b false false k w d e = rw (d, e) (sym (held_whole b w (held_after nothing kept) ∙ rw (d, e)), k)

keeping_all : (kept records : List (List ℕ)) → Stand kept → EachWhole records →
    (held_after nothing (foldl keeping kept records) ≡ held_after (held_after nothing kept) records) × EachWhole (foldl keeping kept records)
unfolding held_after
keeping_all kept [] k w = (refl, k.0)
keeping_all kept (b ∷ records) k w =
    let r = keeping_kept kept b _ _ k w.0 refl refl in
    let t = keeping_all (keeping kept b) records r.1 w.1 in
    (t.0 ∙ ap (λ h. held_after h records) r.0, t.1)

module _ (before : List (List ℕ)) (w : EachWhole before) where
  -- so what any turn does after these records it does after the repeated ones alone
  pub held_repeated : held_after nothing (repeated before) ≡ held_after nothing before
  unfolding repeated held_after
  held_repeated = (keeping_all [] before none_kept w).0

  repeated_whole : EachWhole (repeated before)
  unfolding repeated
  repeated_whole = (keeping_all [] before none_kept w).1

-- The parts

told_before : (held : Held) (before after : List (List ℕ)) → EachWhole before →
    told held (before ++ after) ≡ told held before ++ told (held_after held before) after
unfolding told held_after
told_before held [] after w = refl
told_before held (b ∷ before) after w = rw (turn_whole b w.0 held) (ap (λ r. unnumbered held b ∷ r) (told_before (next (kind b) held (body b)) before after w.1))

told_after : (held : Held) (before after : List (List ℕ)) → EachWhole before →
    drop (length before) (told held (before ++ after)) ≡ told (held_after held before) after
unfolding told held_after
told_after held [] after w = refl
told_after held (b ∷ before) after w = rw (turn_whole b w.0 held) (told_after (next (kind b) held (body b)) before after w.1)

-- what is told of the records before a cut, and then of the others behind the repeated ones
pub parted : (before after : List (List ℕ)) → EachWhole before →
    told nothing (before ++ after) ≡ told nothing before ++ drop (length (repeated before)) (told nothing (repeated before ++ after))
parted before after w =
    told_before nothing before after w ∙ ap (λ r. told nothing before ++ r)
    (ap (λ h. told h after) (sym (held_repeated before w)) ∙ sym (told_after nothing (repeated before) after (repeated_whole before w)))

-- The bytes

as_far : (more : Bool) (i : ℕ) (text : List ℕ) (texts : List (List ℕ)) → text ≡ numbered i texts → cond more text [] ≡ numbered i (cond more texts [])
unfolding numbered
as_far true i text texts e = e
as_far false i text texts e = refl

told_from : (f i : ℕ) (held : Held) (input : List ℕ) → printed_from f i held input ≡ numbered i (told held (records_in f input))
unfolding printed_from numbered told records_in turn size length_fits length_of pairs
told_from zero i held input = refl
told_from (suc f) i held [] = refl
told_from (suc f) i held (x ∷ bytes) =
    let input = x ∷ bytes in
    let b = take (size input) input in
    let h : 0 < length b = omega (arith, two_size input, length-take (size input) input) in
    let held' = cond (broken b) held (next (kind b) held (body b)) in
    let rest = drop (size input) input in
    rw (turn_numbered i held b _ h refl, turn_numbered 1 held b _ h refl)
    (append_assoc (digits i) _ _
    ∙ ap (λ r. digits i ++ (unnumbered held b ++ r)) (as_far (not (broken b)) (suc i) _ (told held' (records_in f rest)) (told_from f (suc i) held' rest)))

-- what the program prints
pub printed_told : (input : List ℕ) → printed input ≡ numbered 1 (told_of input)
unfolding printed told_of records_of
printed_told input = told_from (suc (length input)) 1 nothing input

-- as many records as bytes are enough
enough : (f g : ℕ) (input : List ℕ) → length input ≤ f → length input ≤ g → records_in f input ≡ records_in g input
unfolding records_in
enough zero zero input l m = refl
enough zero (suc g) [] l m = refl
enough zero (suc g) (x ∷ bytes) l m = absurd (omega arith)
enough (suc f) zero [] l m = refl
enough (suc f) zero (x ∷ bytes) l m = absurd (omega arith)
enough (suc f) (suc g) [] l m = refl
enough (suc f) (suc g) (x ∷ bytes) l m =
    let input = x ∷ bytes in
    let q : length (drop (size input) input) ≤ length bytes = omega (arith, two_size input, length-drop (size input) input) in
    ap (λ r. take (size input) input ∷ r) (enough f g (drop (size input) input) (omega arith) (omega arith))

first_record : (b rest : List ℕ) → size b ≡ length b → records_of (b ++ rest) ≡ b ∷ records_of rest
unfolding records_of records_in size length_fits length_of pairs
first_record [] rest l = absurd (omega arith)
first_record (x ∷ []) rest l = absurd (omega arith)
first_record (x ∷ y ∷ bytes) rest l =
    let b = x ∷ y ∷ bytes in
    rw (l, take_at b rest (length b) refl, drop_at b rest (length b) refl)
    (ap (λ r. b ∷ r) (enough (length (b ++ rest)) (suc (length rest)) rest (omega (arith, length-append b rest)) (omega arith)))

records_front : (before : List (List ℕ)) (rest : List ℕ) → EachWhole before → records_of (flatten before ++ rest) ≡ before ++ records_of rest
unfolding flatten
records_front [] rest w = refl
records_front (b ∷ before) rest w = rw append_assoc (first_record b (flatten before ++ rest) w.0.1 ∙ ap (λ r. b ∷ r) (records_front before rest w.1))

records_flat : (before : List (List ℕ)) → EachWhole before → records_of (flatten before) ≡ before
unfolding records_of records_in
records_flat before w = ap records_of (sym (append-nil (flatten before))) ∙ records_front before [] w ∙ append-nil before

-- the same of bytes: a film, its part before the cut, and the part behind it, which begins with the repeated records; in all three only the numbers are to come
pub film : (before : List (List ℕ)) (rest : List ℕ) → EachWhole before →
    told_of (flatten before ++ rest) ≡ told_of (flatten before) ++ drop (length (repeated before)) (told_of (flatten (repeated before) ++ rest))
unfolding told_of
film before rest w =
    rw (records_front before rest w, records_flat before w, records_front (repeated before) rest (repeated_whole before w)) (parted before (records_of rest) w)

-- a record of this kind with one symbol
abbrev of_kind : ℕ → ℕ → List ℕ
of_kind k x = 4 ∷ 0 ∷ k ∷ 0 ∷ x ∷ 0 ∷ []

pub repeated_case :
    repeated (of_kind 2 0 ∷ of_kind 1 1 ∷ of_kind 2 2 ∷ of_kind 3 3 ∷ of_kind 2 4 ∷ of_kind 5 5 ∷ []) ≡ of_kind 1 1 ∷ of_kind 2 4 ∷ []
unfolding repeated keeping behind kind pairs
repeated_case = refl
