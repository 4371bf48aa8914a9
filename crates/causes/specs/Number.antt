-- "Refusal numbers": the number of each cause, and 0 of what is not refused.
use Rattle.std.specs.Prelude.{ℕ, Result, Ok, Err}
use Rattle.causes.specs.declared.Refusal.{Refusal}
use Rattle.causes.specs.declared.Refusal.TheVariants.{
  NoModulus,
  OutOfRange,
  TooFewTerms,
  ListTooLong,
  WrongLength,
  NoSymbol,
  EqualPoints,
  TooLittleRoom,
  CurveFails,
  BrokenRecord,
  OtherKind,
  NothingHeld,
}

abbrev pub number : Refusal → ℕ
number NoModulus = 1
number OutOfRange = 2
number TooFewTerms = 3
number ListTooLong = 4
number WrongLength = 5
number NoSymbol = 6
number EqualPoints = 7
number TooLittleRoom = 8
number CurveFails = 9
number BrokenRecord = 10
number OtherKind = 11
number NothingHeld = 12

-- the number that a call refuses with, or 0
abbrev pub refused : {A : Type 0} → Result A Refusal → ℕ
refused (Ok x) = 0
refused (Err cause) = number cause
