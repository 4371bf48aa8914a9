-- Rooms that are not too short, and what the causes before and behind them then decide.
use mathlib.Core.Path.{◌≡◌, refl, sym, ◌∙◌}
use mathlib.Core.Bool.{Bool, true, false, cond, ◌||◌}
use mathlib.Core.List.{List, [], ◌∷◌, ◌++◌}
use Prim.Native.Nat.{ℕ, ◌≤◌}
use native.Mathlib.Omega.{arith}
use lib.Dec.{T, ltb}
use borrow.Author.Tests.{ltb-false}
use Rattle.std.specs.Prelude.{Result, Err}
use Rattle.std.specs.List.{list_any}
use Rattle.std.proofs.Math.Bool.{or-false}
use Rattle.rules.specs.Refusal.{Cause, ◌if◌, lowest}
use Rattle.rules.proofs.Tests.{neither}
use Rattle.rules.proofs.Lowest.{named, here, later, lowest_none, first_refuses, first_accept, none_first, none_parts}
use Rattle.causes.specs.declared.Refusal.{Refusal}
use Rattle.causes.specs.Number.{number, refused}
use Rattle.causes.proofs.Number.{never_zero}

-- two rooms, x numbers of a buffer of a and y of b; and three
module _ (a x b y : ℕ) where
  pub two_short : list_any (λ (room : ℕ × ℕ). ltb room.0 room.1) ((a, x) ∷ (b, y) ∷ []) ≡ ltb a x || ltb b y
  two_short = simp or-false

  pub two_rooms : ltb a x || ltb b y ≡ false → (x ≤ a) × (y ≤ b)
  two_rooms e = let u = neither (ltb a x) (ltb b y) e in (ltb-false a x u.0, ltb-false b y u.1)

  pub three_short : (c z : ℕ) → list_any (λ (room : ℕ × ℕ). ltb room.0 room.1) ((a, x) ∷ (b, y) ∷ (c, z) ∷ []) ≡ ltb a x || ltb b y || ltb c z
  three_short c z = three (ltb a x) (ltb b y) (ltb c z)
    where
      three : (u v w : Bool) → u || (v || (w || false)) ≡ u || v || w
      three true v w = refl
      three false v w = simp or-false

  pub three_rooms : (c z : ℕ) → ltb a x || ltb b y || ltb c z ≡ false → (x ≤ a) × (y ≤ b) × (z ≤ c)
  three_rooms c z e =
      let u = neither (ltb a x || ltb b y) (ltb c z) e in
      let two = two_rooms u.0 in
      (two.0, two.1, ltb-false c z u.1)

-- with 8 behind other causes: where nothing is refused, the others do not apply and no room is too short
pub not_eight : (bs : List Cause) → T (named bs) → {short : Bool} → lowest (bs ++ (8 if short) ∷ []) ≡ 0 → (lowest bs ≡ 0) × (short ≡ false)
not_eight bs t {short} z =
    let parts = none_parts bs ((8 if short) ∷ []) t z in
    (parts.0, (none_first 8 short [] parts.1 (λ q. omega arith)).0)

-- .. what the others refuse is refused
pub refused_before : {A : Type 0} (bs cs : List Cause) {r : Result A Refusal} {cause : Refusal} → r ≡ Err cause → number cause ≡ lowest bs
    → refused r ≡ lowest (bs ++ cs)
refused_before bs cs {r} {cause} is e = rw is (first_refuses bs cs e (never_zero cause))

-- .. and where they refuse nothing, the rooms decide
pub eight_behind : (bs : List Cause) → T (named bs) → (short : Bool) {r : ℕ} → 0 ≡ lowest bs → r ≡ cond short 8 0 → r ≡ lowest (bs ++ (8 if short) ∷ [])
eight_behind bs t short none e = e ∙ eight short ∙ sym (first_accept bs ((8 if short) ∷ []) t (sym none))
  where
    eight : (b : Bool) → cond b 8 0 ≡ lowest ((8 if b) ∷ [])
    eight true = here 8 true [] refl
    eight false = later 8 false [] refl lowest_none
