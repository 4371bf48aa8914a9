-- What the kinds of records do, from what the calls said.
use mathlib.Core.Path.{◌≡◌, refl, sym, ap, subst, ◌∙◌}
use mathlib.Core.Bool.{Bool, true}
use mathlib.Core.Logic.{◌⊎◌, inl, inr}
use mathlib.Core.List.{List}
use Prim.Native.Nat.{ℕ, ◌+◌, ◌≤◌}
use native.Mathlib.Omega.{arith}
use lib.ListN.{length, take, replicate}
use lib.Seq.{sets-eq, take-append_seam}
use borrow.Author.Tests.{ne_eqb}
use Rattle.std.specs.Prelude.{Result, Err}
use Rattle.causes.specs.declared.Refusal.{Refusal}
use Rattle.causes.specs.Number.{refused}
use Rattle.causes.proofs.Number.{never_zero}
use Rattle.setting.specs.declared.Setting.{Setting}
use Rattle.rules.specs.Patch.{
  ready,
  Turn,
  setting_in,
  setting_record_refusal,
  points_refusal,
  setting_turn,
  points_turn,
  missing,
  points_come,
}
use Rattle.parsing.specs.Body.{Bodied}
use Rattle.bodies.specs.Setting.{setting_of}
use Rattle.bodies.proofs.Refused.{points_given}
use Rattle.kinds.specs.declared.Turned.{Turned}
use Rattle.kinds.specs.declared.Stock.{Stock}
use Rattle.kinds.specs.declared.Stock.TheVariants.{Nothing, Set, Ready}
use Rattle.kinds.specs.Holding.{held_of, with_array, stock, Clean}
use Rattle.kinds.specs.Did.{Did, told_turn}
use Rattle.kinds.proofs.Holding.{ready_kept, body_array}

-- what was written to a lent buffer is what its caller then has
pub did_in : {t : Turn} {d e e' : List ℕ} {r : Turned} → Did t d e r → e' ≡ e → Did t d e' r
did_in {t} {d} {e} {e'} {r} h q = subst (λ (x : List ℕ). Did t d x r) (sym q) h

pub did_as : {t u : Turn} {d e : List ℕ} {r : Turned} → Did t d e r → t ≡ u → Did u d e r
did_as h q = rw q at h

-- the line told, where this is held
pub told_did : (i kind refusal : ℕ) {more : Bool} {h g : Stock} {t : Turn} {d e : List ℕ} {r : Turned} → h ≡ g →
    told_turn (held_of g) i kind refusal more ≡ t → Did (told_turn (held_of h) i kind refusal more) d e r → Did t d e r
told_did i kind refusal {more} is q g = did_as g (ap (λ x. told_turn (held_of x) i kind refusal more) is ∙ q)

module _ (i : ℕ) (numbers : List ℕ) {s : Setting} (is : setting_of s ≡ setting_in numbers) {r : ℕ} (e : r ≡ setting_record_refusal (setting_of s)) where
  pub set_taken : r ≡ 0 → told_turn (held_of (Set s)) i 1 r true ≡ setting_turn i numbers
  unfolding setting_turn
  set_taken z = let q : setting_record_refusal (setting_in numbers) ≡ 0 = ap setting_record_refusal (sym is) ∙ sym e ∙ z in rw (q, is, z)

  pub set_refused : ¬ (r ≡ 0) → told_turn (held_of Nothing) i 1 r true ≡ setting_turn i numbers
  unfolding setting_turn
  set_refused n = let q : setting_record_refusal (setting_in numbers) ≡ r = ap setting_record_refusal (sym is) ∙ sym e in rw (q, ne_eqb r 0 n)

-- the array into which a body was read
module _ {numbers d e : List ℕ} {m : ℕ} (l : length d ≡ 64) (h : Bodied numbers d e m) where
  pub body_front : take m e ≡ numbers
  body_front = let q : 0 + length numbers ≤ length d = omega arith in
      ap (λ k. take k e) h.count ∙ ap (λ x. take (length numbers) x) (h.out ∙ sets-eq numbers d 0 q) ∙ take-append_seam numbers _

-- points that were read into zeros
module _ (i : ℕ) (s : Setting) {numbers e : List ℕ} {m : ℕ} (read : Bodied numbers (replicate 64 0) e m)
    {r : ℕ} (is : r ≡ points_refusal (setting_of s) (take m e)) where
  refusal_is : r ≡ points_refusal (setting_of s) numbers
  refusal_is = is ∙ ap (points_refusal (setting_of s)) (body_front refl read)

  module _ (z : r ≡ 0) where
    pub as_held : with_array s e ≡ stock (ready (setting_of s) numbers)
    unfolding stock
    as_held = ap (with_array s) (body_array read)

    pub held_is : held_of (with_array s e) ≡ ready (setting_of s) numbers
    held_is = ap held_of as_held ∙ ready_kept (setting_of s) numbers (points_given (setting_of s) numbers (sym refusal_is ∙ z)).points_long

    pub ready_clean : Clean (with_array s e)
    ready_clean = as_held ∙ ap stock (sym held_is)

    pub points_taken : told_turn (held_of (with_array s e)) i 2 r true ≡ points_turn i (setting_of s) numbers
    unfolding points_turn
    points_taken = let q : points_refusal (setting_of s) numbers ≡ 0 = sym refusal_is ∙ z in rw (q, held_is, z)

  pub points_refused : ¬ (r ≡ 0) → told_turn (held_of (Set s)) i 2 r true ≡ points_turn i (setting_of s) numbers
  unfolding points_turn
  points_refused n = rw (← refusal_is, ne_eqb r 0 n)

-- by how much is held
module _ (i : ℕ) (b : List ℕ) {h : Stock} where
  pub points_missing : h ≡ Nothing → told_turn (held_of h) i 2 12 true ≡ points_come i (held_of h) b
  unfolding points_come missing
  points_missing e = rw e

  pub points_fit : {s : Setting} → (h ≡ Set s) ⊎ ((points : List ℕ) × (h ≡ Ready s points)) → points_turn i (setting_of s) b ≡ points_come i (held_of h) b
  unfolding points_come
  points_fit (inl e) = rw e
  points_fit (inr e) = rw e.1

-- what is refused has a number
pub some_number : {A : Type 0} {r : Result A Refusal} {cause : Refusal} → r ≡ Err cause → ¬ (refused r ≡ 0)
some_number {cause = cause} e z = never_zero cause (sym (ap refused e) ∙ z)
