-- The tests of the setting call as facts about its numbers: what an accepted setting has passed, and the tests back from the facts.
use mathlib.Core.Path.{◌≡◌, refl, sym, ◌∙◌}
use mathlib.Core.Bool.{Bool, true, false, ◌&&◌, not}
use mathlib.Core.List.{[], ◌∷◌}
use Prim.Native.Nat.{ℕ}
use native.Mathlib.Omega.{arith}
use lib.Dec.{T, leb, ltb, leb→le, nleb→lt, ltb→lt, nltb→le}
use borrow.Author.Tests.{le-leb, lt-ltb}
use Rattle.rules.specs.Field.{modulus}
use Rattle.rules.specs.Setting.{Setting, code_ranges, ranges, ℓ, C, U}
use Rattle.rules.specs.Refusal.{◌if◌, lowest, setting_causes, setting_refusal}
use Rattle.rules.proofs.Tests.{both}
use Rattle.setting.specs.Accepted.{Coded, Ranged, Passed}

none_applies : (a b c d : Bool) → lowest ((1 if not a) ∷ (2 if not b) ∷ (3 if c) ∷ (4 if d) ∷ []) ≡ 0 → T a × T b × T (not c) × T (not d)
unfolding lowest
none_applies true true false false e = (tt, tt, tt, tt)
none_applies true true false true e = absurd (omega arith)
none_applies true true true d e = absurd (omega arith)
none_applies true false c d e = absurd (omega arith)
none_applies false b c d e = absurd (omega arith)

module _ (n k : ℕ) where
  pub coded : T (code_ranges n k) → Coded n k
  unfolding code_ranges
  coded t =
      let (t3, k_most) = both (leb 2 n && leb n 64 && leb 2 k) (leb k n) t in
      let (t2, k_least) = both (leb 2 n && leb n 64) (leb 2 k) t3 in
      let (n_least, n_most) = both (leb 2 n) (leb n 64) t2 in
      record {
        n_least = leb→le 2 n n_least;
        n_most = leb→le n 64 n_most;
        k_least = leb→le 2 k k_least;
        k_most = leb→le k n k_most;
      }

  coded_true : Coded n k → code_ranges n k ≡ true
  unfolding code_ranges
  coded_true h = simp (le-leb 2 n h.n_least, le-leb n 64 h.n_most, le-leb 2 k h.k_least, le-leb k n h.k_most)

  -- the two tests of the code: where the first holds, the second decides
  module _ {a b : Bool} (is_n : a ≡ (leb 2 n && leb n 64)) (is_k : b ≡ (leb 2 k && leb k n)) where
    pub coded_both : a ≡ true → b ≡ code_ranges n k
    unfolding code_ranges
    coded_both t = is_k ∙ rw (sym is_n ∙ t) refl

  pub not_coded : {a : Bool} → a ≡ (leb 2 n && leb n 64) → a ≡ false → a ≡ code_ranges n k
  unfolding code_ranges
  not_coded is_n t = t ∙ simp (sym is_n ∙ t)

module _ (S : Setting) where
  open S use {n, k, s, τ}

  pub ranged : T (ranges S) → Ranged n k s τ
  unfolding ranges
  ranged t =
      let (t3, τ_most) = both (code_ranges n k && leb 1 s && leb s 4) (ltb τ n) t in
      let (t2, s_most) = both (code_ranges n k && leb 1 s) (leb s 4) t3 in
      let (code, s_least) = both (code_ranges n k) (leb 1 s) t2 in
      record { code = coded n k code; s_least = leb→le 1 s s_least; s_most = leb→le s 4 s_most; τ_most = ltb→lt τ n τ_most }

  -- a test b that says so
  pub ranged_if : {b : Bool} → b ≡ ranges S → b ≡ true → Ranged n k s τ
  ranged_if is t = ranged (rw (sym is ∙ t) tt)

  -- the three tests of the code
  pub ranged_all : {b : Bool} → code_ranges n k ≡ true → b ≡ (leb 1 s && leb s 4) → b ≡ true → ltb τ n ≡ ranges S
  unfolding ranges
  ranged_all a is_s t = simp (a, sym is_s ∙ t)

  pub code_not_ranged : code_ranges n k ≡ false → false ≡ ranges S
  unfolding ranges
  code_not_ranged e = simp e

  pub s_not_ranged : {b : Bool} → code_ranges n k ≡ true → b ≡ (leb 1 s && leb s 4) → b ≡ false → b ≡ ranges S
  unfolding ranges
  s_not_ranged a is_s t = t ∙ simp (a, sym is_s ∙ t)

  pub ranged_true : Ranged n k s τ → ranges S ≡ true
  unfolding ranges
  ranged_true r = simp (coded_true n k r.code, le-leb 1 s r.s_least, le-leb s 4 r.s_most, lt-ltb τ n r.τ_most)

  pub passed : setting_refusal S ≡ 0 → Passed S
  unfolding setting_refusal setting_causes lowest
  passed e =
      let (prime, ranges, enough, few) = none_applies (modulus S.p) (ranges S) (leb (U S) (C S)) (ltb 24 (ℓ S)) e in
      record { prime = prime; ranged = ranged ranges; enough = nleb→lt (U S) (C S) enough; ℓ_most = nltb→le 24 (ℓ S) few }
