-- The results that an exported call gives beside its refusal number, and what it leaves.
use Rattle.std.specs.Prelude.{◌≡◌, Bool, cond, List, [], ◌∷◌, ℕ}
use Rattle.rules.specs.Setting.{Setting}
use Rattle.rules.specs.Outcome.{Derived, Listing, Reads}
use Rattle.answer.specs.Told.{told}
use Rattle.whitebeamish.specs.Numbers.{reading}

-- yes is 1 and no is 0
abbrev pub number : Bool → ℕ
number b = cond b 1 0

-- the derived numbers of a setting
abbrev pub derived : Derived → List ℕ
derived o = o.W ∷ o.ℓ ∷ o.C ∷ o.U ∷ o.R ∷ []

-- what listing leaves: the outcome o, whose list length and beginnings the answer tells
pub record ListTold (o : Listing) (answer : List ℕ) (refusal : ℕ) (output' work' answer' : List ℕ) : Type 0 where
  pub refuses : refusal ≡ o.refusal
  pub lists : output' ≡ o.output
  pub clears : work' ≡ o.work
  pub tells : answer' ≡ told (o.found ∷ o.tried ∷ []) answer

-- what reading may leave: an outcome that Reads allows, whose list length and beginnings the answer tells
pub record ReadTold (S : Setting) (points word output curve work answer : List ℕ) (refusal : ℕ) (output' curve' work' answer' : List ℕ) : Type 0 where
  pub found : ℕ
  pub tried : ℕ
  pub reads : Reads S points word output curve work (reading refusal found tried output' curve' work')
  pub tells : answer' ≡ told (found ∷ tried ∷ []) answer
