-- What is said of a word that was read with what is held.
use Rattle.std.specs.Prelude.{◌≡◌, List, ℕ, ◌-◌, ◌*◌, ◌≤◌, length, Result, Ok, Err}
use Rattle.rules.specs.Field.{ops}
use Rattle.rules.specs.Code.{readings}
use Rattle.rules.specs.Setting.{Setting}
use Rattle.rules.specs.Search.{rows}
use Rattle.causes.specs.declared.Refusal.{Refusal}
use Rattle.rules.specs.Patch.{word_refusal}

-- the readings of the word
abbrev pub messages_of : Setting → List ℕ → List ℕ → List (List ℕ)
messages_of S points word = readings (ops S.p) S.k (S.n - S.τ) points word

-- found messages stand in the list, one after the other
pub record Standing (S : Setting) (messages : List (List ℕ)) (list : List ℕ) (found : ℕ) : Type 0 where
  pub count : found ≡ length messages
  pub rows_are : rows S.k found list ≡ messages
  pub room : found * S.k ≤ length list
  pub few : found ≤ length list

-- how many were found, where nothing is refused
abbrev pub found_of : Result ℕ Refusal → ℕ
found_of (Ok n) = n
found_of (Err cause) = 0

-- the refusal is the word's, and where there is none the list holds the readings
pub record Heard (S : Setting) (points word list : List ℕ) (refusal found : ℕ) : Type 0 where
  pub list_long : length list ≡ 1536
  pub is_refusal : refusal ≡ word_refusal S word
  pub accepted : refusal ≡ 0 → Standing S (messages_of S points word) list found
