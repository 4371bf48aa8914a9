-- read_setting: the five numbers of the body.
use mathlib.Core.Path.{◌≡◌}
use mathlib.Core.List.{List}
use Prim.Native.Nat.{ℕ}
use lib.ListN.{get_or}
use lib.Seq.{get_or-drop}
use Rattle.std.proofs.Common.{rules}
use Rattle.rules.specs.Patch.{pairs, body, setting_in}
use Rattle.bodies.proofs.read_setting.Goals as goal

setting_read : (b : List ℕ) {p n k s τ : ℕ} → p ≡ get_or (pairs b) 2 0 → n ≡ get_or (pairs b) 3 0 → k ≡ get_or (pairs b) 4 0 → s ≡ get_or (pairs b) 5 0
    → τ ≡ get_or (pairs b) 6 0 → record { p = p; n = n; k = k; s = s; τ = τ } ≡ setting_in (body b)
unfolding setting_in body
setting_read b u v w x y = simp (get_or-drop, u, v, w, x, y)

pub returns : goal.returns
returns c = setting_read _ (search rules) (search rules) (search rules) (search rules) (search rules)
