-- Any two outcomes that the contract of an exported call allows are equal: the refusal numbers r, r', the answers t, t' and the buffers.
use mathlib.Core.Path.{◌≡◌, sym, ap, ◌∙◌}
use mathlib.Core.List.{List, [], ◌∷◌}
use Prim.Native.Nat.{ℕ}
use Rattle.rules.specs.Setting.{Setting}
use Rattle.rules.specs.Outcome.{Encoded, Finding, Listing, Reading, Finds, used, encode_call}
use Rattle.whitebeamish.specs.Numbers.{encoded, finding}
use Rattle.reader.proofs.Unique.{find_unique, read_unique}
use Rattle.answer.specs.Told.{told}
use Rattle.whitebeamish.specs.Told.{ListTold, ReadTold}

-- a field call, the setting call and the check: both numbers and the answer follow from the call's outcome
pub told_unique : {r r' refusal : ℕ} (results answer t t' : List ℕ) → (r ≡ refusal) × (t ≡ told results answer) → (r' ≡ refusal) × (t' ≡ told results answer)
    → (r ≡ r') × (t ≡ t')
told_unique results answer t t' h h' = (h.0 ∙ sym h'.0, h.1 ∙ sym h'.1)

-- writing a patch: e, e' are what the output then holds
pub encode_told_unique : (p n k : ℕ) (points message output : List ℕ) (r r' : ℕ) (e e' : List ℕ)
    → encoded r e ≡ encode_call p n k points message output → encoded r' e' ≡ encode_call p n k points message output → (r ≡ r') × (e ≡ e')
encode_told_unique p n k points message output r r' e e' h h' =
    (ap (λ (o : Encoded). o.refusal) (h ∙ sym h'), ap (λ (o : Encoded). o.output) (h ∙ sym h'))

-- finding: equal given the same curve
pub find_told_unique : (S : Setting) (points word curve work : List ℕ) (r r' : ℕ) (c c' w w' : List ℕ)
    → Finds S points word curve work (finding r 0 0 c w) → Finds S points word curve work (finding r' 0 0 c' w') → used S c ≡ used S c' → (r ≡ r') × (c ≡ c') × (w ≡ w')
find_told_unique S points word curve work r r' c c' w w' h h' e =
    let same = find_unique S points word curve work _ _ h h' e in
    (ap (λ (o : Finding). o.refusal) same, ap (λ (o : Finding). o.curve) same, ap (λ (o : Finding). o.work) same)

-- listing
pub list_told_unique : (o : Listing) (answer : List ℕ) (r r' : ℕ) (out out' w w' t t' : List ℕ) → ListTold o answer r out w t → ListTold o answer r' out' w' t'
    → (r ≡ r') × (out ≡ out') × (w ≡ w') × (t ≡ t')
list_told_unique o answer r r' out out' w w' t t' h h' =
    (h.refuses ∙ sym h'.refuses, h.lists ∙ sym h'.lists, h.clears ∙ sym h'.clears, h.tells ∙ sym h'.tells)

-- reading: equal given the same curve
pub read_told_unique : (S : Setting) (points word output curve work answer : List ℕ) (r r' : ℕ) (out out' c c' w w' t t' : List ℕ)
    → ReadTold S points word output curve work answer r out c w t → ReadTold S points word output curve work answer r' out' c' w' t' → used S c ≡ used S c'
    → (r ≡ r') × (out ≡ out') × (c ≡ c') × (w ≡ w') × (t ≡ t')
read_told_unique S points word output curve work answer r r' out out' c c' w w' t t' h h' e =
    let same = read_unique S points word output curve work _ _ h.reads h'.reads e in (
      ap (λ (o : Reading). o.refusal) same,
      ap (λ (o : Reading). o.output) same,
      ap (λ (o : Reading). o.curve) same,
      ap (λ (o : Reading). o.work) same,
      h.tells ∙ ap (λ (o : Reading). told (o.found ∷ o.tried ∷ []) answer) same ∙ sym h'.tells,
    )
