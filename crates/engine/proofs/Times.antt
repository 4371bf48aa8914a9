-- An array of 64 multiplicities s, cut to the word's length: with points and word it makes the word's triples.
use mathlib.Core.Path.{◌≡◌, refl, ap, ◌∙◌}
use mathlib.Core.List.{List, ◌∷◌}
use Prim.Native.Nat.{ℕ, zero, suc, ◌+◌, ◌*◌, ◌/◌, ◌≤◌, ◌<◌}
use native.Mathlib.Omega.{arith}
use lib.ListN.{length, take, replicate, get_or, get_or-replicate}
use Rattle.rules.specs.Code.{triples}
use Rattle.algebra.specs.Conditions.{conditions}
use Rattle.algebra.proofs.Plan.{count_triples}
use Rattle.weights.specs.Triples.{tripled}
use Rattle.weights.proofs.Tripled.{tripled_triples}
use Rattle.engine.specs.Word.{Worded}

take_replicate : (s n m : ℕ) → n ≤ m → take n (replicate m s) ≡ replicate n s
take_replicate s zero m l = refl
take_replicate s (suc n) zero l = absurd (omega arith)
take_replicate s (suc n) (suc m) l = ap (◌∷◌ s) (take_replicate s n m (omega arith))

-- the points, the word, and the multiplicities of as many places
abbrev pub IsWord : ℕ → List ℕ → List ℕ → List ℕ → List ℕ → List ℕ → Type 0
IsWord s points word ps rs ms = (ps ≡ points) × (rs ≡ word) × (ms ≡ take (length points) (replicate 64 s))

module _ {q k w l s : ℕ} {points word : List ℕ} (h : Worded q k w l s points word) where
  pub times_few : (j : ℕ) → j < 64 → get_or (replicate 64 s) j 0 ≤ 4
  times_few j u = rw (get_or-replicate 64 j s 0 u) h.small

  module _ {ps rs ms : List ℕ} (e : IsWord s points word ps rs ms) where
    pub word_triples : tripled ps rs ms ≡ triples s points word
    word_triples = rw (e.0, e.1, e.2, take_replicate s (length points) 64 h.few) (tripled_triples s (length points) points word h.same)

    pub conditions_are : length (conditions (tripled ps rs ms)) ≡ length points * s * (s + 1) / 2
    conditions_are = ap (λ zs. length (conditions zs)) word_triples ∙ count_triples s (length points) points word refl h.same
