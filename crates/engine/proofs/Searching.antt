-- What list asks of the search and of sifting, and what it then leaves.
use mathlib.Core.Path.{◌≡◌, ap₂}
use mathlib.Core.Bool.{not}
use mathlib.Core.List.{List}
use Prim.Native.Nat.{ℕ, ◌+◌}
use native.Mathlib.Omega.{arith}
use lib.Dec.{T}
use lib.ListN.{length}
use Rattle.rules.specs.Field.{ops}
use Rattle.rules.specs.Code.{triples, zeros, messages, sifted}
use Rattle.rules.specs.Curve.{weighted}
use Rattle.rules.specs.Search.{roots, listed}
use Rattle.rules.specs.Outcome.{over}
use Rattle.algebra.proofs.Complete.{messages_long}
use Rattle.search.specs.Search.{Asked, RootsLeft, roots_of, none}
use Rattle.roots.specs.declared.Tally.{Tally}
use Rattle.engine.specs.Word.{Listable, scoring_roots}
use Rattle.sift.specs.Sift.{enough}
use Rattle.demands.proofs.Passing.{passing_parts}
use Rattle.engine.proofs.Times.{IsWord, word_triples}
use Rattle.runs.proofs.Places.{under_at}
use Rattle.demands.proofs.Runs.{keep_long, rows_flat}

module _ {q k w l s : ℕ} {points word curve output work : List ℕ} (h : Listable q k w l s points word curve output work) where
  parts : T (not (zeros (ops q) curve)) × T (weighted (ops q) k w l curve)
  parts = passing_parts q k w l (triples s points word) curve h.passing

  pub searchable : (found : List ℕ) → length found ≡ 1536 → Asked q k w l curve work found none
  searchable found len = record {
    field = h.worded.shape.field;
    symbols = omega (arith, h.worded.shape.two);
    few = h.worded.shape.short;
    wide = h.worded.shape.some;
    tall = h.worded.shape.few;
    long = h.whole;
    low = under_at q curve h.small;
    live = parts.0;
    fits = parts.1;
    slots = h.slots;
    room = let e : 0 + l ≡ l = omega arith in rw e (omega (arith, h.list));
    count = omega (arith, h.list);
  }

  module _ {work' found found' : List ℕ} {r : Tally} (g : RootsLeft q k w l curve work found work' found' r) where
    -- the runs that the search wrote are the roots, and those kept are the definition's
    pub enough_is : {ps rs ms : List ℕ} → IsWord s points word ps rs ms → enough q k w ps rs ms r.found found' ≡ scoring_roots q k w l s points word curve
    unfolding listed roots
    enough_is e =
        ap₂ (sifted (ops q) w) (word_triples h.worded e)
        (rw (g.found, g.list) (unfold over in
        rows_flat k (roots_of q k w l curve) _ (keep_long k _ (messages (ops q) k) (messages_long (ops q) k))))
