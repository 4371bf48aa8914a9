-- A record by its kind, and what can be held after it.
use mathlib.Core.Path.{◌≡◌, refl, sym, ◌∙◌, subst}
use mathlib.Core.Bool.{Bool, true, false, cond}
use mathlib.Core.List.{List, [], ◌∷◌}
use Prim.Native.Nat.{ℕ}
use native.Mathlib.Omega.{arith}
use lib.Dec.{T, eqb}
use lib.ListN.{length}
use borrow.Author.Tests.{eq-eqb, ne_eqb}
use Rattle.rules.specs.Setting.{Setting}
use Rattle.rules.specs.Patch.{Held, nothing, set, ready, Turn, kind, body, broken, setting_in, setting_record_refusal, points_refusal, setting_turn, points_turn, word_turn, missing, points_come, word_comes, whole, turn}
use Rattle.rules.proofs.Tests.{both, and, either}
use Rattle.kinds.specs.Holding.{possible}
use Rattle.kinds.specs.Did.{told_turn}

module _ (i j : ℕ) (held : Held) (numbers : List ℕ) where
  whole_1 : j ≡ 1 → setting_turn i numbers ≡ whole i j held numbers
  unfolding whole
  whole_1 k = rw (eq-eqb j 1 k)

  whole_2 : j ≡ 2 → points_come i held numbers ≡ whole i j held numbers
  unfolding whole
  whole_2 k = rw (ne_eqb j 1 (λ e. omega arith), eq-eqb j 2 k)

  whole_3 : j ≡ 3 → word_comes i held numbers ≡ whole i j held numbers
  unfolding whole
  whole_3 k = rw (ne_eqb j 1 (λ e. omega arith), ne_eqb j 2 (λ e. omega arith), eq-eqb j 3 k)

  whole_other : ¬ (j ≡ 1) → ¬ (j ≡ 2) → ¬ (j ≡ 3) → told_turn held i j 11 true ≡ whole i j held numbers
  unfolding whole
  whole_other x y z = rw (ne_eqb j 1 x, ne_eqb j 2 y, ne_eqb j 3 z)

module _ (i : ℕ) (held : Held) (b : List ℕ) where
  pub turn_end : length b ≡ 0 → record { held = held; text = []; more = false } ≡ turn i held b
  unfolding turn
  turn_end z = go b z
    where
      go : (b : List ℕ) → length b ≡ 0 → record { held = held; text = []; more = false } ≡ turn i held b
      go [] z = refl
      go (x ∷ b) z = absurd (omega arith)

  module _ (n : ¬ (length b ≡ 0)) where
    some : turn i held b ≡ cond (broken b) (told_turn held i 0 10 false) (whole i (kind b) held (body b))
    unfolding turn
    some = go b n
      where
        go : (b : List ℕ) → ¬ (length b ≡ 0) → turn i held b ≡ cond (broken b) (told_turn held i 0 10 false) (whole i (kind b) held (body b))
        go [] n = absurd (n refl)
        go (x ∷ b) n = refl

    pub turn_broken : broken b ≡ true → told_turn held i 0 10 false ≡ turn i held b
    turn_broken w = sym (some ∙ rw w)

    module _ (w : broken b ≡ false) {j : ℕ} (e : j ≡ kind b) where
      by_kind : whole i j held (body b) ≡ turn i held b
      by_kind = sym (some ∙ rw (w, e))

      pub turn_setting : j ≡ 1 → setting_turn i (body b) ≡ turn i held b
      turn_setting k = whole_1 i j held (body b) k ∙ by_kind

      pub turn_points : j ≡ 2 → points_come i held (body b) ≡ turn i held b
      turn_points k = whole_2 i j held (body b) k ∙ by_kind

      pub turn_word : j ≡ 3 → word_comes i held (body b) ≡ turn i held b
      turn_word k = whole_3 i j held (body b) k ∙ by_kind

      pub turn_other : ¬ (j ≡ 1) → ¬ (j ≡ 2) → ¬ (j ≡ 3) → told_turn held i j 11 true ≡ turn i held b
      turn_other x y z = whole_other i j held (body b) x y z ∙ by_kind

-- what is held after a record was accepted
setting_possible : (i : ℕ) (numbers : List ℕ) → T (possible (setting_turn i numbers).held)
unfolding setting_turn possible
setting_possible i numbers = go (eqb (setting_record_refusal (setting_in numbers)) 0) refl
  where
    go : (t : Bool) → eqb (setting_record_refusal (setting_in numbers)) 0 ≡ t → T (possible (cond t (set (setting_in numbers)) nothing))
    go true e = subst T (sym e) tt
    go false e = tt

points_possible : (i : ℕ) (S : Setting) (numbers : List ℕ) → T (possible (set S)) → T (possible (points_turn i S numbers).held)
unfolding points_turn possible
points_possible i S numbers h = go (eqb (points_refusal S numbers) 0) refl
  where
    go : (t : Bool) → eqb (points_refusal S numbers) 0 ≡ t → T (possible (cond t (ready S numbers) (set S)))
    go true e = and (eqb (setting_record_refusal S) 0) _ h (subst T (sym e) tt)
    go false e = h

come_possible : (i : ℕ) (held : Held) (numbers : List ℕ) → T (possible held) → T (possible (points_come i held numbers).held)
unfolding points_come missing possible
come_possible i nothing numbers h = h
come_possible i (set S) numbers h = points_possible i S numbers h
come_possible i (ready S points) numbers h = points_possible i S numbers (both (eqb (setting_record_refusal S) 0) _ h).0

word_possible : (i : ℕ) (held : Held) (numbers : List ℕ) → T (possible held) → T (possible (word_comes i held numbers).held)
unfolding word_comes missing word_turn
word_possible i nothing numbers h = h
word_possible i (set S) numbers h = h
word_possible i (ready S points) numbers h = h

pub turn_possible : (i : ℕ) (held : Held) (b : List ℕ) → T (possible held) → T (possible (turn i held b).held)
unfolding turn whole
turn_possible i held [] h = h
turn_possible i held (x ∷ bytes) h =
    let b = x ∷ bytes in
    let Fine : Turn → Type 0 = λ t. T (possible t.held) in
    either Fine _ _ (broken b) (λ _. h)
    (λ _. either Fine _ _ (eqb (kind b) 1) (λ _. setting_possible i (body b))
    (λ _. either Fine _ _ (eqb (kind b) 2) (λ _. come_possible i held (body b) h)
    (λ _. either Fine _ _ (eqb (kind b) 3) (λ _. word_possible i held (body b) h) (λ _. h))))

-- a turn that goes on has a whole record
pub goes_on : (i : ℕ) (held : Held) (b : List ℕ) → (turn i held b).more ≡ true → broken b ≡ false
unfolding turn
goes_on i held [] m = absurd (subst T (sym m) tt)
goes_on i held (x ∷ bytes) m = go (broken (x ∷ bytes)) refl
  where
    go : (t : Bool) → broken (x ∷ bytes) ≡ t → broken (x ∷ bytes) ≡ false
    go true e = absurd (subst T (sym (rw e at m)) tt)
    go false e = e
