-- Two causes have two numbers, and none has 0.
use Rattle.std.proofs.Common.{◌≡◌, ℕ, refl, sym, ap, ◌∙◌, Result, Ok, Err, arith, cond, eqb}
use Rattle.std.specs.Prelude.{IsErrAnd}
use Rattle.std.proofs.lemmas.Result.{err_from_is_err_and}
use Rattle.causes.specs.declared.Refusal.{Refusal}
use Rattle.causes.specs.declared.Refusal.TheVariants.{
  NoModulus,
  OutOfRange,
  TooFewTerms,
  ListTooLong,
  WrongLength,
  NoSymbol,
  EqualPoints,
  TooLittleRoom,
  CurveFails,
  BrokenRecord,
  OtherKind,
  NothingHeld,
}
use Rattle.causes.specs.Number.{number, refused}

pub never_zero : (cause : Refusal) → ¬ (number cause ≡ 0)
never_zero NoModulus e = omega arith
never_zero OutOfRange e = omega arith
never_zero TooFewTerms e = omega arith
never_zero ListTooLong e = omega arith
never_zero WrongLength e = omega arith
never_zero NoSymbol e = omega arith
never_zero EqualPoints e = omega arith
never_zero TooLittleRoom e = omega arith
never_zero CurveFails e = omega arith
never_zero BrokenRecord e = omega arith
never_zero OtherKind e = omega arith
never_zero NothingHeld e = omega arith

-- the cause that has the number n
cause_of : ℕ → Refusal
cause_of n =
    cond (eqb n 1) NoModulus (
    cond (eqb n 2) OutOfRange (
    cond (eqb n 3) TooFewTerms (
    cond (eqb n 4) ListTooLong (
    cond (eqb n 5) WrongLength (
    cond (eqb n 6) NoSymbol (
    cond (eqb n 7) EqualPoints (
    cond (eqb n 8) TooLittleRoom (
    cond (eqb n 9) CurveFails (
    cond (eqb n 10) BrokenRecord (
    cond (eqb n 11) OtherKind NothingHeld))))))))))

named : (cause : Refusal) → cause_of (number cause) ≡ cause
unfolding cause_of
named NoModulus = refl
named OutOfRange = refl
named TooFewTerms = refl
named ListTooLong = refl
named WrongLength = refl
named NoSymbol = refl
named EqualPoints = refl
named TooLittleRoom = refl
named CurveFails = refl
named BrokenRecord = refl
named OtherKind = refl
named NothingHeld = refl

pub same_cause : (a b : Refusal) → number a ≡ number b → a ≡ b
same_cause a b e = sym (named a) ∙ ap cause_of e ∙ named b

-- what is not refused has a result
pub accepted : {A : Type 0} (r : Result A Refusal) → refused r ≡ 0 → (x : A) × (r ≡ Ok x)
accepted (Ok x) z = (x, refl)
accepted (Err cause) z = absurd (never_zero cause z)

-- what a `?` passes on
pub passed_on : {A : Type 0} (r : Result A Refusal) {cause : Refusal} → IsErrAnd r (λ c. c ≡ cause) → r ≡ Err cause
passed_on r h = let p = err_from_is_err_and r h in rw (p.1, p.2) refl

-- two answers that tell nothing but whether they refuse
pub same_refused : (r r' : Result (Unit {0}) Refusal) → refused r ≡ refused r' → r ≡ r'
same_refused (Ok x) (Ok x') e = refl
same_refused (Ok x) (Err c') e = absurd (never_zero c' (sym e))
same_refused (Err c) (Ok x') e = absurd (never_zero c e)
same_refused (Err c) (Err c') e = ap Err (same_cause c c' e)
