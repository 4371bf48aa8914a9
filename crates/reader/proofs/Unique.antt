-- Any two outcomes that the contract of a call allows are equal; of finding and reading, those with the same curve.
use mathlib.Core.Path.{◌≡◌, sym, ap, ap₂, ◌∙◌}
use mathlib.Core.Bool.{Bool}
use mathlib.Core.List.{List}
use Prim.Native.Nat.{ℕ}
use Rattle.rules.specs.Setting.{Setting}
use Rattle.rules.specs.Outcome.{
  Encoded,
  Checked,
  Finding,
  Finds,
  Listing,
  Reading,
  Reads,
  used,
  encode_call,
  check_call,
  find_call,
  list_call,
  read_call,
}
use Rattle.std.specs.Prelude.{Result, Ok, Err}
use Rattle.causes.specs.declared.Refusal.{Refusal}
use Rattle.causes.specs.Number.{refused}
use Rattle.causes.proofs.Number.{never_zero, same_cause, same_refused}
use Rattle.roots.specs.declared.Tally.{Tally}
use Rattle.reader.specs.Calls.{encoded, checked, yes, found, tried, finding, listing, reading}

-- the answers r, r' and what the output then holds
pub encode_unique : (p n k : ℕ) (points message output : List ℕ) (r r' : Result (Unit {0}) Refusal) (e e' : List ℕ)
    → encoded r e ≡ encode_call p n k points message output → encoded r' e' ≡ encode_call p n k points message output → (r ≡ r') × (e ≡ e')
encode_unique p n k points message output r r' e e' h h' =
    (same_refused r r' (ap (λ (o : Encoded). o.refusal) (h ∙ sym h')), ap (λ (o : Encoded). o.output) (h ∙ sym h'))

same_answer : (r r' : Result Bool Refusal) → refused r ≡ refused r' → yes r ≡ yes r' → r ≡ r'
same_answer (Ok b) (Ok b') e f = ap Ok f
same_answer (Ok b) (Err c') e f = absurd (never_zero c' (sym e))
same_answer (Err c) (Ok b') e f = absurd (never_zero c e)
same_answer (Err c) (Err c') e f = ap Err (same_cause c c' e)

-- the answers r, r'
pub check_unique : (S : Setting) (points word Q : List ℕ) (r r' : Result Bool Refusal)
    → checked r ≡ check_call S points word Q → checked r' ≡ check_call S points word Q → r ≡ r'
check_unique S points word Q r r' h h' =
    same_answer r r' (ap (λ (o : Checked). o.refusal) (h ∙ sym h')) (ap (λ (o : Checked). o.yes) (h ∙ sym h'))

-- of finding only the curve is free: outcomes with the same curve are equal
pub find_unique : (S : Setting) (points word curve work : List ℕ) (o o' : Finding)
    → Finds S points word curve work o → Finds S points word curve work o'
    → used S o.curve ≡ used S o'.curve → o ≡ o'
find_unique S points word curve work o o' h h' e = h.rest ∙ ap (find_call S points word curve work) e ∙ sym h'.rest

-- .. and so are the answers r, r' and what the two buffers then hold
pub find_result_unique : (S : Setting) (points word curve work : List ℕ) (r r' : Result (Unit {0}) Refusal) (c c' w w' : List ℕ)
    → Finds S points word curve work (finding r c w) → Finds S points word curve work (finding r' c' w')
    → used S c ≡ used S c' → (r ≡ r') × (c ≡ c') × (w ≡ w')
find_result_unique S points word curve work r r' c c' w w' h h' e =
    let same = find_unique S points word curve work _ _ h h' e in (
      same_refused r r' (ap (λ (o : Finding). o.refusal) same),
      ap (λ (o : Finding). o.curve) same,
      ap (λ (o : Finding). o.work) same,
    )

-- the answers of two listings, or of two readings, whose numbers are equal
pub same_tally : (r r' : Result Tally Refusal) → refused r ≡ refused r' → found r ≡ found r' → tried r ≡ tried r' → r ≡ r'
same_tally (Ok t) (Ok t') e f g = ap₂ (λ (found tried : ℕ). Ok (record { found = found; tried = tried })) f g
same_tally (Ok t) (Err c') e f g = absurd (never_zero c' (sym e))
same_tally (Err c) (Ok t') e f g = absurd (never_zero c e)
same_tally (Err c) (Err c') e f g = ap Err (same_cause c c' e)

-- the refusal numbers, the list lengths, the beginnings and the buffers of two listings
pub list_unique : (S : Setting) (points word Q output work : List ℕ) (o o' : Listing)
    → o ≡ list_call S points word Q output work → o' ≡ list_call S points word Q output work → o ≡ o'
list_unique S points word Q output work o o' h h' = h ∙ sym h'

-- .. and so are the answers r, r' and what the two buffers then hold
pub list_result_unique : (S : Setting) (points word Q output work : List ℕ) (r r' : Result Tally Refusal) (out out' w w' : List ℕ)
    → listing r out w ≡ list_call S points word Q output work → listing r' out' w' ≡ list_call S points word Q output work
    → (r ≡ r') × (out ≡ out') × (w ≡ w')
list_result_unique S points word Q output work r r' out out' w w' h h' =
    let same = list_unique S points word Q output work _ _ h h' in (
      same_tally r r' (ap (λ (o : Listing). o.refusal) same) (ap (λ (o : Listing). o.found) same) (ap (λ (o : Listing). o.tried) same),
      ap (λ (o : Listing). o.output) same,
      ap (λ (o : Listing). o.work) same,
    )

-- of reading too only the curve is free
pub read_unique : (S : Setting) (points word output curve work : List ℕ) (o o' : Reading)
    → Reads S points word output curve work o → Reads S points word output curve work o'
    → used S o.curve ≡ used S o'.curve → o ≡ o'
read_unique S points word output curve work o o' h h' e = h.rest ∙ ap (read_call S points word output curve work) e ∙ sym h'.rest

-- .. and so are the answers r, r' and what the three buffers then hold
pub read_result_unique : (S : Setting) (points word output curve work : List ℕ) (r r' : Result Tally Refusal) (out out' c c' w w' : List ℕ)
    → Reads S points word output curve work (reading r out c w) → Reads S points word output curve work (reading r' out' c' w')
    → used S c ≡ used S c' → (r ≡ r') × (out ≡ out') × (c ≡ c') × (w ≡ w')
read_result_unique S points word output curve work r r' out out' c c' w w' h h' e =
    let same = read_unique S points word output curve work _ _ h h' e in (
      same_tally r r' (ap (λ (o : Reading). o.refusal) same) (ap (λ (o : Reading). o.found) same) (ap (λ (o : Reading). o.tried) same),
      ap (λ (o : Reading). o.output) same,
      ap (λ (o : Reading). o.curve) same,
      ap (λ (o : Reading). o.work) same,
    )
