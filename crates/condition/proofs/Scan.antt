-- The scan for the least leading term: of the curves that have the least weight the first has the least rank.
use mathlib.Core.Path.{◌≡◌, refl}
use mathlib.Core.Logic.{◌⊎◌, ⊎_elim}
use mathlib.Core.List.{List}
use Prim.Native.Nat.{ℕ, ◌+◌, ◌-◌, ◌*◌, ◌<◌, ◌≤◌}
use native.Mathlib.Decide.{ℕ_discrete}
use native.Mathlib.Omega.{arith}
use borrow.Author.Count.{below_more}
use lib.ListN.{get_or}
use Rattle.std.specs.Prelude.{Option, None, Some, MatchOption}
use Rattle.algebra.specs.Space.{space, In, rank}
use Rattle.algebra.proofs.Rank.{rank_lt, rank_scan}
use Rattle.condition.specs.Kept.{First, Quiet}

-- the weighted degree of curve j's leading term
abbrev pub weight : ℕ → List ℕ → ℕ → ℕ
weight k leads j = get_or leads j 0 + j * (k - 1)

-- p is alive, its value is not zero, and of the first n curves with such a value it has the least leading term
pub record LeastScan (k w l : ℕ) (leads values : List ℕ) (n p : ℕ) : Type 0 where
  pub early : p < n
  pub alive : In (space k w l) (get_or leads p 0) p
  pub some : ¬ (get_or values p 0 ≡ 0)
  pub low : (j : ℕ) → j < n → ¬ (get_or values j 0 ≡ 0) → rank (space k w l) (get_or leads p 0) p ≤ rank (space k w l) (get_or leads j 0) j

-- the best of the first n curves and its weight, or none and w
abbrev pub Scanned : ℕ → ℕ → ℕ → List ℕ → List ℕ → ℕ → Option ℕ → ℕ → Type 0
Scanned k w l leads values n None least = (least ≡ w) × ((j : ℕ) → j < n → ¬ (get_or values j 0 ≡ 0) → w ≤ weight k leads j)
Scanned k w l leads values n (Some p) least = (least ≡ weight k leads p) × LeastScan k w l leads values n p

module _ (k w l : ℕ) (leads values : List ℕ) where
  -- curve n is passed over
  pub scan_skip : (n least : ℕ) (best : Option ℕ) → Scanned k w l leads values n best least → (get_or values n 0 ≡ 0) ⊎ (least ≤ weight k leads n) →
      Scanned k w l leads values (n + 1) best least
  scan_skip n least None S s =
      (S.0, below_more (λ j. ¬ (get_or values j 0 ≡ 0) → w ≤ weight k leads j) n S.1 (λ v. ⊎_elim (λ z. absurd (v z)) (λ z. omega arith) s))
  scan_skip n least (Some p) S s = (
    S.0,
    record {
      early = omega (arith, S.1.early);
      alive = S.1.alive;
      some = S.1.some;
      low = below_more (λ j. ¬ (get_or values j 0 ≡ 0) → rank (space k w l) (get_or leads p 0) p ≤ rank (space k w l) (get_or leads j 0) j) n S.1.low
          (λ v. ⊎_elim (λ z. absurd (v z)) (λ z. rank_scan (space k w l) (get_or leads p 0) p (get_or leads n 0) n (omega (arith, S.1.early)) (omega arith)) s);
    },
  )

  least_inside : (n least : ℕ) (best : Option ℕ) → Scanned k w l leads values n best least → least ≤ w
  least_inside n least None S = omega (arith, S.0)
  least_inside n least (Some p) S = omega (arith, S.0, S.1.alive.inside)

  -- a curve of less weight than the best has less rank than all before it
  less : (n least : ℕ) (best : Option ℕ) → Scanned k w l leads values n best least → n < l + 1 → weight k leads n < least →
      (j : ℕ) → j < n → ¬ (get_or values j 0 ≡ 0) → rank (space k w l) (get_or leads n 0) n ≤ rank (space k w l) (get_or leads j 0) j
  less n least None S m u j a b =
      omega (arith, rank_lt (space k w l) (get_or leads n 0) n (get_or leads j 0) j (omega arith) (omega (arith, S.0, S.1 j a b)))
  less n least (Some p) S m u j a b =
      omega (arith, S.1.low j a b, rank_lt (space k w l) (get_or leads n 0) n (get_or leads p 0) p (omega arith) (omega (arith, S.0)))

  -- curve n is better
  pub scan_take : (n least : ℕ) (best : Option ℕ) → Scanned k w l leads values n best least → n < l + 1 → ¬ (get_or values n 0 ≡ 0) → weight k leads n < least →
      Scanned k w l leads values (n + 1) (Some n) (weight k leads n)
  scan_take n least best S m v u = (
    refl,
    record {
      early = omega arith;
      alive = record { column = omega arith; inside = omega (arith, least_inside n least best S) };
      some = v;
      low = below_more (λ j. ¬ (get_or values j 0 ≡ 0) → rank (space k w l) (get_or leads n 0) n ≤ rank (space k w l) (get_or leads j 0) j) n
          (less n least best S m u) (λ b. omega arith);
    },
  )

  pub scan_picked : (least : ℕ) (best : Option ℕ) → Scanned k w l leads values (l + 1) best least →
      MatchOption best (Quiet k w l leads values) (First k w l leads values)
  scan_picked least None S = λ j a. none j a (ℕ_discrete (get_or values j 0) 0)
    where
      none : (j : ℕ) → In (space k w l) (get_or leads j 0) j → Dec (get_or values j 0 ≡ 0) → get_or values j 0 ≡ 0
      none j a (yes z) = z
      none j a (no z) = absurd (omega (arith, a.inside, S.1 j (omega (arith, a.column)) z))
  scan_picked least (Some p) S =
      record { alive = S.1.alive; some = S.1.some; least = λ j a v. S.1.low j (omega (arith, a.column)) v }
