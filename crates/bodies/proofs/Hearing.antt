-- What reading a word with what is held gives: the refusals of the word alone, and the readings.
use mathlib.Core.Path.{◌≡◌, refl, ap, ◌∙◌}
use mathlib.Core.Bool.{false, ◌||◌}
use mathlib.Core.Logic.{◌⊎◌, inl, inr}
use mathlib.Core.List.{List, [], ◌∷◌, ◌++◌, flatten}
use Prim.Native.Nat.{ℕ, ◌-◌, ◌*◌, ◌<◌, ◌≤◌}
use native.Mathlib.Nat.{le-mul_of_pos_right}
use native.Mathlib.Decide.{ℕ_discrete}
use native.Mathlib.Omega.{arith}
use lib.Dec.{ltb}
use lib.ListN.{length, drop, length-append}
use borrow.Author.Tests.{le-ltb}
use Rattle.rules.specs.Setting.{Setting, ℓ, curve_length, R}
use Rattle.rules.specs.Refusal.{◌if◌, ◌of◌, lowest, symbol_causes, setting_causes, setting_refusal, word_causes, read_refusal}
use Rattle.rules.specs.Outcome.{Reading, Reads, over, used}
use Rattle.rules.specs.Search.{rows}
use Rattle.rules.specs.Patch.{setting_record_refusal, points_refusal, word_refusal}
use Rattle.setting.specs.Accepted.{Accepted}
use Rattle.setting.proofs.Accepted.{accepted}
use Rattle.reader.specs.Demanded.{Demanded}
use Rattle.rules.proofs.Lowest.{named, first_accept}
use Rattle.rules.proofs.Given.{Given, others_alone}
use Rattle.reader.proofs.Decided.{read_number, read_decided}
use Rattle.reader.proofs.Readings.{read_reads}
use Rattle.demands.proofs.Runs.{Long, rows_flat, flat_length, readings_long}
use Rattle.buffers.proofs.Change.{lt_or_ge}
use Rattle.bodies.specs.Heard.{Standing, Heard, messages_of}
use Rattle.bodies.proofs.Refused.{call_refuses, too_much_work, points_given}

-- what is known where points are held
pub record Known (S : Setting) (points : List ℕ) : Type 0 where
  pub refused : setting_refusal S ≡ 0
  pub setting : Accepted S
  pub work : R S ≤ 24000
  pub given : Given S.p S.n points []

pub known : (S : Setting) (points : List ℕ) → setting_record_refusal S ≡ 0 → points_refusal S points ≡ 0 → Known S points
known S points z taken =
    let r = go (ℕ_discrete (setting_refusal S) 0) in
    record { refused = r; setting = accepted S r; work = room r (lt_or_ge 24000 (R S)); given = points_given S points taken }
  where
    go : Dec (setting_refusal S ≡ 0) → setting_refusal S ≡ 0
    go (yes r) = r
    go (no n) = call_refuses S refl n ∙ z

    room : setting_refusal S ≡ 0 → (24000 < R S) ⊎ (R S ≤ 24000) → R S ≤ 24000
    room r (inl l) = absurd (omega (arith, too_much_work S r l))
    room r (inr l) = l

module _ (S : Setting) (points word : List ℕ) (K : Known S points) where
  rooms : ltb 1536 (ℓ S * S.k) || ltb 6400 (curve_length S) || ltb 24000 (R S) ≡ false
  rooms = simp (le-ltb 1536 (ℓ S * S.k) K.setting.output_most, le-ltb 6400 (curve_length S) K.setting.curve_most, le-ltb 24000 (R S) K.work)

  the_rest : lowest (word_causes S points word ++ ((8 if ltb 1536 (ℓ S * S.k) || ltb 6400 (curve_length S) || ltb 24000 (R S)) ∷ [])) ≡ word_refusal S word
  unfolding lowest word_causes word_refusal symbol_causes
  the_rest = rw (others_alone K.given ((S.n of word) ∷ []), rooms) refl

  -- nothing else is refused than the word
  word_alone : read_refusal S points word 1536 6400 24000 ≡ word_refusal S word
  unfolding read_refusal setting_refusal setting_causes named
  word_alone = first_accept (setting_causes S) _ tt K.refused ∙ the_rest

  module _ (output curve work : List ℕ) (o : Reading) (g : Reads S points word output curve work o)
      (lo : length output ≡ 1536) (lc : length curve ≡ 6400) (lw : length work ≡ 24000) where
    number_is : read_number S points word output curve work ≡ word_refusal S word
    number_is = rw (lo, lc, lw) word_alone

    pub refusal_is : o.refusal ≡ word_refusal S word
    refusal_is = (read_decided S points word output curve work g).is_number ∙ number_is

    module _ (z : o.refusal ≡ 0) where
      abbrev fs : List (List ℕ)
      fs = messages_of S points word

      read : Demanded S points word (used S o.curve) o.found o.tried output o.output
      read = read_reads S points word output curve work o g z

      long_list : Long S.k fs
      long_list = readings_long S.p S.k (S.n - S.τ) points word

      in_front : o.output ≡ flatten fs ++ drop (length (flatten fs)) output
      unfolding over
      in_front = read.written

      pub listed : Standing S fs o.output o.found
      listed = let q : o.found * S.k ≤ length o.output = room in record {
        count = read.list;
        rows_are = ap (λ (n : ℕ). rows S.k n o.output) read.list ∙ ap (λ (x : List ℕ). rows S.k (length fs) x) in_front
            ∙ rows_flat S.k fs _ long_list;
        room = q;
        few = omega (arith, q, le-mul_of_pos_right {m = S.k} o.found (omega (arith, K.setting.passed.ranged.code.k_least)));
      }
        where
          room : o.found * S.k ≤ length o.output
          room = omega (
            arith,
            ap (λ x. x * S.k) read.list,
            flat_length S.k fs long_list,
            ap length in_front,
            length-append (flatten fs) (drop (length (flatten fs)) output),
          )

    pub heard : length o.output ≡ 1536 → Heard S points word o.output o.refusal o.found
    heard l = record { list_long = l; is_refusal = refusal_is; accepted = listed }
