-- What a loop that writes the run from b on still reads as it was, the equations of its definitions, and the run that is stripped in two parts.
use mathlib.Core.Path.{◌≡◌, refl, ap, ◌∙◌}
use mathlib.Core.Logic.{◌⊎◌, ⊎_elim}
use mathlib.Core.List.{List}
use Prim.Native.Nat.{ℕ, zero, suc, ◌+◌, ◌-◌, ◌<◌, ◌≤◌}
use native.Mathlib.Numerals.{add-one}
use native.Mathlib.Omega.{arith}
use borrow.Author.Tests.{lt-ltb, le-ltb}
use Rattle.std.proofs.Common.{add-zero}
use lib.ListN.{length, get_or, set, length-set}
use lib.Seq.{get_or-set_same, get_or-set_other}
use Rattle.buffers.specs.Change.{Changed}
use Rattle.buffers.proofs.Change.{lt_or_ge}
use Rattle.within.specs.Runs.{RunsApart, moved, cut}

module _ {f : ℕ → ℕ} {d e : List ℕ} (a b n i : ℕ) (h : Changed f b i d e) where
  -- a run that is apart is not written
  pub read_apart : RunsApart a b n → (j : ℕ) → i ≤ n → j < n → get_or e (a + j) 0 ≡ get_or d (a + j) 0
  read_apart p j l m = ⊎_elim (λ u. h.low (a + j) (omega arith)) (λ u. h.high (a + j) (omega arith)) p

  -- nor is the run's own next number
  pub read_ahead : (a ≡ b) ⊎ RunsApart a b n → i < n → get_or e (a + i) 0 ≡ get_or d (a + i) 0
  read_ahead p l = ⊎_elim (λ u. h.high (a + i) (omega arith)) (λ u. read_apart u i (omega arith) l) p

pub moved_none : (d : List ℕ) (b : ℕ) → 0 ≡ moved d b 0
unfolding moved
moved_none d b = refl

pub moved_more : (d : List ℕ) (b i : ℕ) → get_or d (b + i) 0 ≡ moved d b (i + 1)
unfolding moved
moved_more d b i = rw add-one refl

-- the run is copied one place on, and its first place is cleared
pub moved_on : {d e : List ℕ} (b n : ℕ) → 0 < n → b + n ≤ length d → Changed (λ i. get_or d (b + i) 0) (b + 1) (n - 1) d e → Changed (moved d b) b n d (set e b 0)
moved_on {d} {e} b n l fits h = record {
  len = length-set e b 0 ∙ h.len;
  new = elim [ zero ↦ λ m. first | suc k ↦ λ m. next k m ];
  low = λ k m. get_or-set_other e b k 0 0 (λ q. omega arith) ∙ h.low k (omega arith);
  high = λ k m. get_or-set_other e b k 0 0 (λ q. omega arith) ∙ h.high k (omega arith);
}
  where
    first : get_or (set e b 0) (b + 0) 0 ≡ moved d b 0
    first = rw add-zero (get_or-set_same e b 0 0 (omega (arith, h.len)) ∙ moved_none d b)

    next : (k : ℕ) → suc k < n → get_or (set e b 0) (b + suc k) 0 ≡ moved d b (suc k)
    next k m =
        let q : b + suc k ≡ b + 1 + k = omega arith in
        get_or-set_other e b (b + suc k) 0 0 (λ q. omega arith) ∙ ap (λ (i : ℕ). get_or e i 0) q ∙ h.new k (omega arith)
        ∙ moved_more d b k ∙ ap (moved d b) (add-one k)

pub cut_low : (d : List ℕ) (a v n i : ℕ) → i + v < n → get_or d (a + (i + v)) 0 ≡ cut d a v n i
unfolding cut
cut_low d a v n i l = rw (lt-ltb (i + v) n l) refl

pub cut_high : (d : List ℕ) (a v n i : ℕ) → n ≤ i + v → 0 ≡ cut d a v n i
unfolding cut
cut_high d a v n i l = rw (le-ltb (i + v) n l) refl

-- the front of the run is copied from place v of the other on, and its last v numbers are cleared
pub stripped : {d e f : List ℕ} (a b v n : ℕ) → v ≤ n → Changed (λ i. get_or d (a + v + i) 0) b (n - v) d e → Changed (λ i. 0) (b + (n - v)) v e f →
    Changed (cut d a v n) b n d f
stripped {d} {e} {f} a b v n l copied cleared = record {
  len = cleared.len ∙ copied.len;
  new = λ k m. ⊎_elim (front k) (behind k m) (lt_or_ge k (n - v));
  low = λ k m. cleared.low k (omega arith) ∙ copied.low k m;
  high = λ k m. cleared.high k (omega arith) ∙ copied.high k (omega arith);
}
  where
    front : (k : ℕ) → k < n - v → get_or f (b + k) 0 ≡ cut d a v n k
    front k m =
        let q : a + v + k ≡ a + (k + v) = omega arith in
        cleared.low (b + k) (omega arith) ∙ copied.new k m ∙ ap (λ (i : ℕ). get_or d i 0) q ∙ cut_low d a v n k (omega arith)

    behind : (k : ℕ) → k < n → n - v ≤ k → get_or f (b + k) 0 ≡ cut d a v n k
    behind k m o =
        let q : b + k ≡ b + (n - v) + (k - (n - v)) = omega arith in
        ap (λ (i : ℕ). get_or f i 0) q ∙ cleared.new (k - (n - v)) (omega arith) ∙ cut_high d a v n k (omega arith)
