-- What holds of points and other runs of symbols where none of the causes 5 to 7 applies.
use mathlib.Core.Path.{◌≡◌}
use mathlib.Core.Bool.{Bool, true, false, not}
use mathlib.Core.List.{List, [], ◌∷◌, ◌++◌}
use Prim.Native.Nat.{ℕ}
use native.Mathlib.Omega.{arith}
use lib.Dec.{T, eqb, eqb→eq}
use lib.ListN.{length}
use borrow.Author.Tests.{eq-eqb}
use Rattle.rules.specs.Lists.{all, distinct}
use Rattle.rules.specs.Refusal.{Run, ◌if◌, ◌of◌, lowest, long, under, symbol_causes, point_causes}
use Rattle.rules.proofs.Tests.{both, same_test}
use Rattle.rules.proofs.Lowest.{named}

-- each run is as long as it has to be
abbrev pub runs_whole : List Run → Bool
runs_whole runs = all (λ r. long r.size r.symbols) runs

-- each symbol of each run is below p
abbrev pub runs_small : ℕ → List Run → Bool
runs_small p runs = all (λ r. under p r.symbols) runs

-- n points below p, no two equal, and the other runs
pub record Given (p n : ℕ) (points : List ℕ) (others : List Run) : Type 0 where
  pub points_long : length points ≡ n
  pub points_under : T (under p points)
  pub apart : T (distinct eqb points)
  pub others_whole : T (runs_whole others)
  pub others_small : T (runs_small p others)

five_to_seven : (a b c : Bool) → lowest ((5 if not a) ∷ (6 if not b) ∷ (7 if not c) ∷ []) ≡ 0 → T a × T b × T c
unfolding lowest
five_to_seven true true true z = (tt, tt, tt)
five_to_seven true true false z = absurd (omega arith)
five_to_seven true false c z = absurd (omega arith)
five_to_seven false b c z = absurd (omega arith)

-- what the tests say of the first run, and of those behind it
module _ (n : ℕ) (xs : List ℕ) (others : List Run) where
  first_whole : T (runs_whole ((n of xs) ∷ others)) → (length xs ≡ n) × T (runs_whole others)
  unfolding all long
  first_whole t = let u = both (eqb (length xs) n) (runs_whole others) t in (eqb→eq (length xs) n u.0, u.1)

  first_small : (p : ℕ) → T (runs_small p ((n of xs) ∷ others)) → T (under p xs) × T (runs_small p others)
  unfolding all
  first_small p t = both (under p xs) (runs_small p others) t

module _ (p n : ℕ) (points : List ℕ) (others : List Run) where
  pub given : lowest (point_causes p n points others) ≡ 0 → Given p n points others
  unfolding point_causes symbol_causes
  given z =
      let runs = (n of points) ∷ others in
      let t = five_to_seven (runs_whole runs) (runs_small p runs) (distinct eqb points) z in
      let five = first_whole n points others t.0 in
      let six = first_small n points others p t.1 in
      record { points_long = five.0; points_under = six.0; apart = t.2; others_whole = five.1; others_small = six.1 }

  pub point_named : T (named (point_causes p n points others))
  unfolding point_causes symbol_causes named
  point_named = tt

-- what holds of the first of the others, and without it
module _ {p n : ℕ} {points : List ℕ} {m : ℕ} {xs : List ℕ} {others : List Run} (g : Given p n points ((m of xs) ∷ others)) where
  pub first_long : length xs ≡ m
  first_long = (first_whole m xs others g.others_whole).0

  pub first_under : T (under p xs)
  first_under = (first_small m xs others p g.others_small).0

  pub others_given : Given p n points others
  others_given = record {
    points_long = g.points_long;
    points_under = g.points_under;
    apart = g.apart;
    others_whole = (first_whole m xs others g.others_whole).1;
    others_small = (first_small m xs others p g.others_small).1;
  }

-- behind points that are taken the other runs decide
module _ {p n : ℕ} {points : List ℕ} (g : Given p n points []) (others : List Run) where
  pub others_alone : point_causes p n points others ≡ symbol_causes p others ++ ((7 if false) ∷ [])
  unfolding point_causes symbol_causes all long
  others_alone =
      let below = is_true (under p points) g.points_under in
      simp (eq-eqb (length points) n g.points_long, below, is_true (distinct eqb points) g.apart)
    where
      is_true : (b : Bool) → T b → b ≡ true
      is_true b t = same_test b true (λ _. tt) (λ _. t)
