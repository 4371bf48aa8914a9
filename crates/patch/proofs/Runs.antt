-- A run grows turn by turn: a turn that goes on took a whole record.
use mathlib.Core.Path.{◌≡◌, refl, sym, ap, ◌∙◌}
use mathlib.Core.Bool.{Bool, true, false, not}
use mathlib.Core.List.{[], ◌∷◌, ◌++◌}
use Prim.Native.Nat.{ℕ, ◌+◌, ◌-◌, ◌^◌, ◌<◌, ◌≤◌}
use native.Mathlib.Omega.{arith}
use lib.Dec.{eqb}
use lib.ListN.{length, take, drop}
use lib.Seq.{take_all, take_at, drop_at}
use borrow.Author.Tests.{not-true, eqb-false}
use Rattle.rules.specs.Patch.{nothing, length_of, size, printed}
use Rattle.parsing.proofs.Shape.{size_front, most_size, whole_long}
use Rattle.kinds.specs.Holding.{Sound}
use Rattle.records.specs.declared.Held.{Held}
use Rattle.records.specs.Stepped.{holding}
use Rattle.records.proofs.Steps.{goes_on}
use Rattle.records.proofs.Printed.{taken_printed}
use Rattle.records.specs.Takes.{written}
use Rattle.patch.specs.declared.Left.{Left}
use Rattle.patch.specs.Completed.{Went, Completed}

-- where no number is the last, one more fits
pub not_full : {full : Bool} {n : ℕ} → full ≡ eqb n (2 ^ 64 - 1) → not full ≡ true → n < 2 ^ 64 → n + 1 < 2 ^ 64
not_full {full} {n} is left l = let other : ¬ (n ≡ 2 ^ 64 - 1) = eqb-false n (2 ^ 64 - 1) (sym is ∙ not-true full left) in omega arith

module _ {held : Held} {l : Left} (w : Went held l) where
  open w use {bytes, took}

  pub went_sound : Sound l.held.stock
  went_sound = rw took.is_held took.stepped.sound

  pub went_turns : l.held.turns ≡ held.turns + 1
  went_turns = ap (λ (h : Held). h.turns) took.is_held ∙ took.stepped.counted

  pub last : l.more ≡ false → Completed held l
  last m = record {
    input = bytes;
    calls = took.call ∷ [];
    taken = (rw (take_all (size bytes) bytes took.cut) took.stepped, rw (sym took.is_more ∙ m) refl);
    stops = m;
    counted = went_turns;
  }

  pub before : l.more ≡ true → {z : Left} → Completed l.held z → Completed held z
  before m {z} done = record {
    input = bytes ++ done.input;
    calls = took.call ∷ done.calls;
    taken = (rw taken took.stepped, rw (sym took.is_more ∙ m) (rw (left, ← took.is_held) done.taken));
    stops = done.stops;
    counted = omega (arith, done.counted, went_turns);
  }
    where
      whole : (2 ≤ length_of bytes) × (2 + length_of bytes ≤ length bytes)
      whole = whole_long bytes (goes_on _ _ bytes (sym took.stepped.did.more ∙ sym took.is_more ∙ m))

      long : length bytes ≡ size (bytes ++ done.input)
      long = omega (arith, whole, took.cut, most_size bytes, size_front bytes done.input (omega (arith, whole)))

      taken : take (size (bytes ++ done.input)) (bytes ++ done.input) ≡ bytes
      taken = take_at bytes done.input _ long

      left : drop (size (bytes ++ done.input)) (bytes ++ done.input) ≡ done.input
      left = drop_at bytes done.input _ long

-- so the bytes that those calls wrote are what is printed for the bytes that they were given
pub run_printed : {l : Left} (done : Completed (holding 0 nothing) l) → written done.calls ≡ printed done.input
run_printed done = taken_printed (holding 0 nothing) done.input done.calls refl done.taken
