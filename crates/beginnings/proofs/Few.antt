-- At most ℓ symbols may follow a beginning: Q(0, y) is not zero, and its degree is at most ℓ.
use mathlib.Core.Bool.{Bool, true, false, cond}
use mathlib.Core.Path.{◌≡◌, refl}
use mathlib.Core.List.{List, [], ◌∷◌, map}
use Prim.Native.Nat.{ℕ, suc, ◌+◌, ◌*◌, ◌<◌, ◌≤◌, Fin}
use native.Mathlib.Omega.{arith}
use lib.Dec.{T}
use lib.ListN.{length, get_or, length-map}
use Rattle.rules.specs.Field.{Ops, ops, modulus}
use Rattle.rules.specs.Lists.{keep, sum}
use Rattle.rules.specs.Search.{rows, first, firsts, follows, alive}
use Rattle.algebra.specs.Search.{Headed}
use Rattle.algebra.proofs.Alive.{alive_few}
use Rattle.algebra.proofs.Bridge.{alive_hom}
use Rattle.algebra.proofs.Lists.{map_rows}
use Rattle.algebra.proofs.Rows.{rows_length}
use Rattle.algebra.proofs.Taylor.{coef_short}
use Rattle.prime.specs.Field.{elt, field}
use Rattle.prime.proofs.Below.{modulus_two}
use Rattle.prime.proofs.Laws.{laws}
use Rattle.demands.proofs.Link.{elt_hom}
use Rattle.roots.specs.declared.sizes.Sizes.{Sizes}
use Rattle.roots.specs.declared.Tally.{Tally}
use Rattle.followers.specs.Slot.{run}
use Rattle.lengthening.specs.Lengthened.{Live}
use Rattle.followers.specs.Followers.{following, followers_at}
use Rattle.roots.specs.Ready.{size, SearchReady}
use Rattle.followers.proofs.Heads.{run_at}
use Rattle.lengthening.proofs.Longer.{live_elts}

count_kept : {A : Type 0} (test : A → Bool) (xs : List A) → length (keep test xs) ≡ sum (λ x. cond (test x) 1 0) xs
unfolding keep sum
count_kept test [] = refl
count_kept test (x ∷ xs) = go (test x) (count_kept test xs)
  where
    go : (b : Bool) → length (keep test xs) ≡ sum (λ y. cond (test y) 1 0) xs →
        length (cond b (x ∷ keep test xs) (keep test xs)) ≡ cond b 1 0 + sum (λ y. cond (test y) 1 0) xs
    go true h = omega (arith, h)
    go false h = omega (arith, h)

following_alive : (q : ℕ) (Q : List (List ℕ)) → length (following q Q q) ≡ alive (ops q) 1 Q
unfolding alive
following_alive q Q = count_kept (follows (ops q) Q) (ops q).symbols

module _ (q : ℕ) (m : T (modulus q)) (w l : ℕ) (s : List ℕ) (low : (j : ℕ) → j < (l + 1) * w → get_or s j 0 < q) where
  abbrev h : 1 < q
  h = modulus_two q m

  abbrev F : Ops
  F = field q h

  abbrev e : ℕ → Fin q
  e = elt q h

  headed : Live q (rows w (l + 1) s) → Headed F l (rows w (l + 1) (map e s))
  headed u = record {
    live = live_elts q m w (l + 1) s low u;
    short = coef_short F (laws q m h) _ (suc l)
        (unfold firsts in omega (arith, length-map (rows w (l + 1) (map e s)) (first F), rows_length w (l + 1) (map e s)));
  }

  pub following_few : Live q (rows w (l + 1) s) → length (following q (rows w (l + 1) s) q) ≤ l
  following_few u =
      rw (following_alive q (rows w (l + 1) s), alive_hom (ops q) F e (elt_hom q m h) 1 (rows w (l + 1) s), map_rows e w (l + 1) s)
      (alive_few F (laws q m h) 0 (rows w (l + 1) (map e s)) l (headed u))

pub ready_few : {sizes : Sizes} {left a n : ℕ} {d b z : List ℕ} {t : Tally} {fs : List (List ℕ)} → 0 < left → SearchReady sizes left a d b z t fs n →
    length (followers_at sizes.rows.field.q sizes.rows.w sizes.rows.l a d) ≤ sizes.rows.l
ready_few {sizes} {left} {a} {n} {d} o r =
    following_few sizes.rows.field.q sizes.rows.field.is_modulus sizes.rows.w sizes.rows.l (run a (size sizes) d) (λ j k. rw (run_at a (size sizes) d j k) (r.low j k)) (r.live o)
