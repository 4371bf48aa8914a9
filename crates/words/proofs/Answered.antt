-- What a word does, from what reading it gave.
use mathlib.Core.Path.{◌≡◌, refl, sym, ap, ◌∙◌}
use mathlib.Core.Bool.{true}
use mathlib.Core.Logic.{◌⊎◌, inl, inr}
use mathlib.Core.List.{List, [], ◌∷◌, ◌++◌}
use Prim.Native.Nat.{ℕ, ◌≤◌}
use native.Mathlib.Omega.{arith}
use lib.ListN.{length, take}
use borrow.Author.Tests.{eq-eqb, ne_eqb}
use Rattle.rules.specs.Setting.{Setting as Rule}
use Rattle.rules.specs.Search.{rows}
use Rattle.rules.specs.Patch.{digits, line, setting_record_refusal, points_refusal, word_refusal, word_turn, missing, word_comes}
use Rattle.setting.specs.declared.Setting.{Setting}
use Rattle.text.specs.declared.Lines.{Lines}
use Rattle.text.specs.Lines.{Writes}
use Rattle.text.proofs.Written.{writes_then, wrote_first, wrote_as}
use Rattle.bodies.specs.Setting.{setting_of}
use Rattle.bodies.specs.Heard.{Heard, messages_of}
use Rattle.bodies.proofs.Refused.{points_given}
use Rattle.bodies.proofs.Hearing.{known}
use Rattle.bodies.proofs.Lines.{plus_lines}
use Rattle.kinds.specs.declared.Stock.{Stock}
use Rattle.kinds.specs.declared.Stock.TheVariants.{Nothing, Set, Ready}
use Rattle.kinds.specs.Holding.{held_of, Sound}
use Rattle.kinds.specs.Did.{Did, told_turn}
use Rattle.kinds.proofs.Holding.{ready_accepted}

pub heard_as : {S : Rule} {points word word' list : List ℕ} {r f : ℕ} → Heard S points word list r f → word ≡ word' → Heard S points word' list r f
heard_as h q = rw q at h

module _ (i : ℕ) (s : Setting) (points : List ℕ) {word list : List ℕ} {r found : ℕ}
    (h : Heard (setting_of s) (take s.n points) word list r found) where
  pub word_refused : ¬ (r ≡ 0) → told_turn (held_of (Ready s points)) i 3 r true ≡ word_turn i (setting_of s) (take s.n points) word
  unfolding word_turn
  word_refused n = rw (← h.is_refusal, ne_eqb r 0 n)

  module _ (z : r ≡ 0) {d : List ℕ} {l m n : Lines} (o : l.out.now ≡ d) (none : l.len ≡ 0) (first : Writes (line (digits i) (3 ∷ 0 ∷ found ∷ [])) l m)
      (rest : Writes (plus_lines (rows s.k found list)) m n) where
    abbrev messages : List (List ℕ)
    messages = messages_of (setting_of s) (take s.n points) word

    pub word_heard : Sound (Ready s points) → n.len ≤ length d →
        Did (word_turn i (setting_of s) (take s.n points) word) d n.out.now (record { stock = Ready s points; wrote = n.len; more = true })
    unfolding word_turn
    word_heard sound w = let a = h.accepted z in record {
      held = sound.clean;
      text = rw (eq-eqb (word_refusal (setting_of s) word) 0 (sym h.is_refusal ∙ z))
          (wrote_as (wrote_first o none (writes_then first rest))
          (ap (λ k. line (digits i) (3 ∷ 0 ∷ k ∷ []) ++ plus_lines (rows s.k found list)) a.count
          ∙ ap (λ ms. line (digits i) (3 ∷ 0 ∷ length messages ∷ []) ++ plus_lines ms) a.rows_are));
      more = refl;
      within = w;
    }

pub held_accepted : (s : Setting) (points : List ℕ) → Sound (Ready s points) → (setting_record_refusal (setting_of s) ≡ 0) × (points_refusal (setting_of s) (take s.n points) ≡ 0)
held_accepted s points h = ready_accepted (setting_of s) (take s.n points) h.accepted

-- as many points are held as the setting has
pub points_held : (s : Setting) (points : List ℕ) → Sound (Ready s points) → s.n ≡ length (take s.n points)
points_held s points h = sym (points_given (setting_of s) (take s.n points) (held_accepted s points h).1).points_long

-- a message has at most 64 symbols, so that there is room for one, whatever was found: a wrong count then fails at what is printed and not for want of room (edit message_from_before)
pub message_few : (s : Setting) (points : List ℕ) → Sound (Ready s points) → s.k ≤ 64
message_few s points h =
    let a = held_accepted s points h in
    let code = (known (setting_of s) (take s.n points) a.0 a.1).setting.passed.ranged.code in omega (arith, code.k_most, code.n_most)

-- by how much is held
module _ (i : ℕ) (b : List ℕ) {h : Stock} where
  pub word_missing : (h ≡ Nothing) ⊎ ((s : Setting) × (h ≡ Set s)) → told_turn (held_of h) i 3 12 true ≡ word_comes i (held_of h) b
  unfolding word_comes missing
  word_missing (inl e) = rw e
  word_missing (inr e) = rw e.1

  pub word_ready : {s : Setting} {points : List ℕ} → h ≡ Ready s points → word_turn i (setting_of s) (take s.n points) b ≡ word_comes i (held_of h) b
  unfolding word_comes
  word_ready e = rw e
