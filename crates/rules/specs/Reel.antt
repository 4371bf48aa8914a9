-- Request No. 1, "A reel in one call": words under one setting, "laid end to end, with room of ℓ·k numbers for each, a list length, beginnings
-- and a refusal number for each".
use Rattle.std.specs.Prelude.{◌≡◌, Bool, not, ◌||◌, ℕ, ◌*◌, ◌/◌, ◌%◌, eqb, ltb, length, take, drop}
use mathlib.Core.List.{List, [], ◌∷◌, ◌++◌, map, flatten}
use Rattle.rules.specs.Setting.{Setting, ℓ, curve_length, R}
use Rattle.rules.specs.Search.{rows}
use Rattle.rules.specs.Refusal.{◌if◌, lowest, setting_causes, point_causes}
use Rattle.rules.specs.Outcome.{over, Reading, Reads}

-- what is lent to a reel, the buffers of reading and a place for each word in three lists, as it was or as it is left
pub record Lent : Type 0 where
  pub output : List ℕ
  pub curve : List ℕ
  pub work : List ℕ
  pub found : List ℕ
  pub tried : List ℕ
  pub refusals : List ℕ

-- the last of a list, or x where it is empty
unfoldable pub last : {A : Type 0} → A → List A → A
last x [] = x
last x (y ∷ ys) = last y ys

-- how many words of n symbols there are
abbrev pub count : ℕ → List ℕ → ℕ
count n words = length words / n

-- "8, for all words together, the three lists too": N words
unfoldable pub reel_short : Setting → ℕ → Lent → Bool
reel_short S N b =
    (ltb (length b.output) (N * (ℓ S * S.k)) || ltb (length b.curve) (curve_length S) || ltb (length b.work) (R S))
    || (ltb (length b.found) N || ltb (length b.tried) N || ltb (length b.refusals) N)

-- outcomes of words, one after the other: `Each` holds of each word, of its part of the output, so many numbers, of the curve buffer and work as
-- the word before left them, and of its outcome
abbrev pub Chain : (List ℕ → List ℕ → List ℕ → List ℕ → Reading → Type 0) → ℕ → List (List ℕ) → List ℕ → List ℕ → List ℕ → List Reading → Type 0
Chain Each part [] output curve work [] = Unit {0}
Chain Each part [] output curve work (o ∷ os) = ⊥
Chain Each part (word ∷ words) output curve work [] = ⊥
Chain Each part (word ∷ words) output curve work (o ∷ os) =
    Each word (take part output) curve work o × Chain Each part words (drop part output) o.curve o.work os

module _ (S : Setting) (points : List ℕ) where
  open S use {p, n, k}

  -- "causes in the setting, points or room .. refuse the whole call; a total length that n does not divide is 5"
  unfoldable pub reel_refusal : List ℕ → Lent → ℕ
  reel_refusal words b = lowest (setting_causes S ++ (
      (5 if not (eqb (length words % n) 0)) ∷ (point_causes p n points [] ++ (
      (8 if reel_short S (count n words) b) ∷ []))))

  -- "Everything must equal calling one word at a time in that order, the curve buffer and work included": the outcomes of reading stand in the
  -- output and in the three lists in their order, behind them nothing differs, and the curve buffer and work are as the last word left them
  pub record Reeled (words : List (List ℕ)) (b c : Lent) : Type 0 where
    pub outcomes : List Reading
    pub chain : Chain (Reads S points) (ℓ S * k) words b.output b.curve b.work outcomes
    pub output : c.output ≡ over (flatten (map (λ (o : Reading). o.output) outcomes)) b.output
    pub curve : c.curve ≡ last b.curve (map (λ (o : Reading). o.curve) outcomes)
    pub work : c.work ≡ last b.work (map (λ (o : Reading). o.work) outcomes)
    pub found : c.found ≡ over (map (λ (o : Reading). o.found) outcomes) b.found
    pub tried : c.tried ≡ over (map (λ (o : Reading). o.tried) outcomes) b.tried
    pub refusals : c.refusals ≡ over (map (λ (o : Reading). o.refusal) outcomes) b.refusals

  -- the outcomes that are allowed: the refusal number, and what is lent afterwards
  pub record Reels (words : List ℕ) (b : Lent) (refusal : ℕ) (c : Lent) : Type 0 where
    pub number : refusal ≡ reel_refusal words b
    pub refused : ¬ (refusal ≡ 0) → c ≡ b
    pub accepted : refusal ≡ 0 → Reeled (rows n (count n words) words) b c
