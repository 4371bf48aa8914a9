-- What demand 2 asks of a list, sentence by sentence: "every polynomial of degree below k that agrees with the word in at least n−τ places, each once, in order, and nothing else".
use Rattle.std.specs.Prelude.{◌≡◌, ◌⊎◌, ℕ, ◌≤◌, ◌<◌, length}
use mathlib.Core.List.{List, [], ◌∷◌, Memᴰ}
use Rattle.rules.specs.Field.{ops}
use Rattle.rules.specs.Code.{triples, score}

-- "A message is k symbols, constant term first": a polynomial of degree below k
pub record Message (q k : ℕ) (f : List ℕ) : Type 0 where
  pub long : length f ≡ k
  pub small : (c : ℕ) → Memᴰ c f → c < q

-- "smaller constant term first, then smaller coefficient of x, and so on"
abbrev pub Before : List ℕ → List ℕ → Type 0
Before [] g = ⊥
Before (a ∷ f) [] = ⊥
Before (a ∷ f) (b ∷ g) = (a < b) ⊎ ((a ≡ b) × Before f g)

-- each stands before all that follow it (List.Memᴰ: it stands in the list)
abbrev pub Ordered : List (List ℕ) → Type 0
Ordered [] = Unit {0}
Ordered (f ∷ fs) = ((g : List ℕ) → Memᴰ g fs → Before f g) × Ordered fs

-- none stands twice
abbrev pub Once : List (List ℕ) → Type 0
Once [] = Unit {0}
Once (f ∷ fs) = ¬ (Memᴰ f fs) × Once fs

-- the list asked for, when m agreements are enough
pub record Lists (q k m : ℕ) (points word : List ℕ) (fs : List (List ℕ)) : Type 0 where
  pub every : (f : List ℕ) → Message q k f → m ≤ score (ops q) (triples 1 points word) f → Memᴰ f fs
  pub only : (f : List ℕ) → Memᴰ f fs → Message q k f × (m ≤ score (ops q) (triples 1 points word) f)
  pub once : Once fs
  pub ordered : Ordered fs
