-- Demands 2 and 3 of an accepted listing or reading, where Q is the curve used.
-- 2: it "gives every polynomial of degree below k that agrees with the word in at least n−τ places, each once, in order, and nothing else".
-- 3, for "every curve that passes the check, from wherever it came": "the list is demand 2's", "the reported beginnings equal the number that
-- document 01's search rule keeps alive for that curve", "at no length from 1 to k are more than ℓ alive", "so the whole never passes 1 + ℓ·k".
use Rattle.std.specs.Prelude.{◌≡◌, ℕ, suc, ◌+◌, ◌-◌, ◌*◌, ◌≤◌, length}
use mathlib.Core.List.{List, flatten}
use Rattle.rules.specs.Field.{ops}
use Rattle.rules.specs.Code.{readings}
use Rattle.rules.specs.Search.{rows, stripped, alive}
use Rattle.rules.specs.Setting.{Setting, W, ℓ}
use Rattle.rules.specs.Outcome.{over, tried_of}

pub record Demanded (S : Setting) (points word Q : List ℕ) (found tried : ℕ) (output output' : List ℕ) : Type 0 where
  pub list : found ≡ length (readings (ops S.p) S.k (S.n - S.τ) points word)
  pub written : output' ≡ over (flatten (readings (ops S.p) S.k (S.n - S.τ) points word)) output
  pub counted : tried ≡ tried_of S Q
  -- of each length from 1 on
  pub each : (L : ℕ) → alive (ops S.p) (suc L) (stripped (ops S.p) (rows (W S) (ℓ S + 1) Q)) ≤ ℓ S
  pub few : tried ≤ 1 + ℓ S * S.k
