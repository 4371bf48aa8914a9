-- The lowest refusal number of a list of causes: by its first cause, and by two lists one after the other.
use mathlib.Core.Path.{◌≡◌, refl, sym, ◌∙◌}
use mathlib.Core.Bool.{Bool, true, false, cond, not, ◌&&◌}
use mathlib.Core.List.{List, [], ◌∷◌, ◌++◌}
use Prim.Native.Nat.{ℕ}
use native.Mathlib.Decide.{ℕ_discrete}
use lib.Dec.{T, eqb}
use borrow.Author.Tests.{eq-eqb}
use Rattle.rules.proofs.Tests.{both}
use Rattle.rules.specs.Refusal.{Cause, ◌if◌, lowest}

pub lowest_none : 0 ≡ lowest []
unfolding lowest
lowest_none = refl

module _ (n : ℕ) (b : Bool) (cs : List Cause) where
  pub here : b ≡ true → n ≡ lowest ((n if b) ∷ cs)
  unfolding lowest
  here e = rw e refl

  pub later : b ≡ false → {r : ℕ} → r ≡ lowest cs → r ≡ lowest ((n if b) ∷ cs)
  unfolding lowest
  later e h = rw e h

-- where nothing is refused, the first cause does not apply, and nothing behind it does
pub none_first : (n : ℕ) (b : Bool) (cs : List Cause) → lowest ((n if b) ∷ cs) ≡ 0 → ¬ (n ≡ 0) → (b ≡ false) × (lowest cs ≡ 0)
unfolding lowest
none_first n true cs e h = absurd (h e)
none_first n false cs e h = (refl, e)

-- each cause has a number other than 0
unfoldable pub named : List Cause → Bool
named [] = true
named (c ∷ cs) = not (eqb c.number 0) && named cs

-- what the first causes refuse is refused
pub first_refuses : (bs cs : List Cause) {r : ℕ} → r ≡ lowest bs → ¬ (r ≡ 0) → r ≡ lowest (bs ++ cs)
unfolding lowest
first_refuses [] cs e h = absurd (h e)
first_refuses (c ∷ bs) cs {r} e h = go c.applies (λ u. first_refuses bs cs u h) e
  where
    go : (b : Bool) → (r ≡ lowest bs → r ≡ lowest (bs ++ cs)) → r ≡ cond b c.number (lowest bs)
        → r ≡ cond b c.number (lowest (bs ++ cs))
    go true f e = e
    go false f e = f e

-- where the first causes refuse nothing, the others decide
pub first_accept : (bs cs : List Cause) → T (named bs) → lowest bs ≡ 0 → lowest (bs ++ cs) ≡ lowest cs
unfolding lowest named
first_accept [] cs t z = refl
first_accept (c ∷ bs) cs t z = go c.applies c.number t z (first_accept bs cs)
  where
    go : (b : Bool) (n : ℕ) → T (not (eqb n 0) && named bs) → cond b n (lowest bs) ≡ 0
        → (T (named bs) → lowest bs ≡ 0 → lowest (bs ++ cs) ≡ lowest cs)
        → cond b n (lowest (bs ++ cs)) ≡ lowest cs
    go true n t z f = absurd (rw (eq-eqb n 0 z) at t)
    go false n t z f = f (both (not (eqb n 0)) (named bs) t).1 z

-- where nothing is refused, neither part refuses
pub none_parts : (bs cs : List Cause) → T (named bs) → lowest (bs ++ cs) ≡ 0 → (lowest bs ≡ 0) × (lowest cs ≡ 0)
none_parts bs cs t z = go (ℕ_discrete (lowest bs) 0)
  where
    go : Dec (lowest bs ≡ 0) → (lowest bs ≡ 0) × (lowest cs ≡ 0)
    go (yes e) = (e, sym (first_accept bs cs t e) ∙ z)
    go (no h) = absurd (h (first_refuses bs cs refl h ∙ z))
