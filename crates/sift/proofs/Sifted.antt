-- How the messages sifted grow message by message.
use mathlib.Core.Path.{◌≡◌, refl, sym, ap, ◌∙◌}
use mathlib.Core.Bool.{Bool, true, false, cond}
use mathlib.Core.List.{List, [], ◌∷◌, ◌++◌, flatten, append-nil}
use Prim.Native.Nat.{ℕ, ◌+◌, ◌*◌, ◌≤◌}
use native.Mathlib.Numerals.{add-one}
use native.Mathlib.Omega.{arith}
use lib.ListN.{length, take, drop, length-append}
use borrow.Rule.Slice.PartMut.{put_mid}
use Rattle.rules.specs.Lists.{keep}
use Rattle.rules.specs.Code.{sifted}
use Rattle.rules.specs.Search.{rows}
use Rattle.rules.specs.Outcome.{over}
use Rattle.algebra.proofs.Search.{keep_append}
use Rattle.sift.specs.Sift.{scores, enough, Counted, Sifted}
use Rattle.demands.proofs.Runs.{Long, keep_long, flat_length, flat_append, rows_long, rows_more, over_more}

-- at most one more is kept
pub at_most : (b : Bool) (n : ℕ) → cond b (n + 1) n ≤ n + 1
at_most true n = omega arith
at_most false n = omega arith

module _ (q k m : ℕ) (points word times found output : List ℕ) where
  abbrev kept_of : ℕ → List (List ℕ)
  kept_of i = enough q k m points word times i found

  -- the message at place i, and whether a message scores enough
  abbrev message : ℕ → List ℕ
  message i = take k (drop (i * k) found)

  abbrev good : List ℕ → Bool
  good f = scores q m points word times f

  pub sift_none : Sifted q k m points word times 0 found output output 0
  unfolding sifted keep rows over flatten
  sift_none = record { number = refl; written = refl }

  kept_more : (i : ℕ) → kept_of (i + 1) ≡ kept_of i ++ cond (good (message i)) (message i ∷ []) []
  unfolding sifted keep
  kept_more i = ap kept_of (add-one i) ∙ ap (keep good) (rows_more k i found) ∙ keep_append good (rows k i found) (message i ∷ [])

  kept_long : (i : ℕ) → i * k ≤ length found → Long k (kept_of i)
  unfolding sifted
  kept_long i l = keep_long k good (rows k i found) (rows_long k i found l)

  -- f: the message in hand; d and e: the output before and after it
  pub sift_more : (i kept : ℕ) (f : List ℕ) {d e : List ℕ} {kept' : ℕ} → Sifted q k m points word times i found output d kept
      → f ≡ message i → length f ≡ k → i * k ≤ length found
      → Counted q m points word times kept f d e kept'
      → Sifted q k m points word times (i + 1) found output e kept'
  sift_more i kept f {d} {e} {kept'} h is long fits g =
      let more = kept_more i ∙ ap (λ g. kept_of i ++ cond (good g) (g ∷ []) []) (sym is) in
      let r = go (good f) g.number g.written in
      record { number = r.0 ∙ ap length (sym more); written = r.1 ∙ ap (λ fs. over (flatten fs) output) (sym more) }
    where
      size : length (flatten (kept_of i)) ≡ kept * length f
      size = flat_length k (kept_of i) (kept_long i fits) ∙ rw (← h.number, long) refl

      one : flatten (kept_of i ++ (f ∷ [])) ≡ flatten (kept_of i) ++ f
      one = flat_append (kept_of i) (f ∷ []) ∙ ap (◌++◌ (flatten (kept_of i))) (unfold flatten in append-nil f)

      go : (b : Bool) → kept' ≡ cond b (kept + 1) kept → e ≡ cond b (put_mid (kept * length f) (length f) d f) d
          → (kept' ≡ length (kept_of i ++ cond b (f ∷ []) [])) × (e ≡ over (flatten (kept_of i ++ cond b (f ∷ []) [])) output)
      go true n w = (
        n ∙ omega (arith, length-append (kept_of i) (f ∷ []), h.number),
        w
            ∙ ap (λ xs. put_mid (kept * length f) (length f) xs f) h.written
            ∙ over_more (flatten (kept_of i)) f output size refl
            ∙ ap (λ xs. over xs output) (sym one),
      )
      go false n w =
          let same = sym (append-nil (kept_of i)) in
          (n ∙ h.number ∙ ap length same, w ∙ h.written ∙ ap (λ fs. over (flatten fs) output) same)
