-- What is written to the lent front of a buffer stands over what the buffer held, and is found there again.
use mathlib.Core.Path.{◌≡◌, sym, ap, ◌∙◌}
use mathlib.Core.List.{List, ◌++◌}
use Prim.Native.Nat.{ℕ, ◌≤◌}
use lib.ListN.{length, take, drop, replicate, length-replicate}
use lib.Seq.{take_at}
use Rattle.std.proofs.lemmas.List.{length-take-le}
use Rattle.rules.specs.Setting.{Setting, curve_length}
use Rattle.rules.specs.Outcome.{over, cleared, used}

pub length_front : (n : ℕ) (old : List ℕ) → n ≤ length old → n ≡ length (take n old)
length_front n old fits = sym (length-take-le n old fits)

pub over_front : (n : ℕ) (old new : List ℕ) → length new ≡ n → new ++ drop n old ≡ over new old
unfolding over
over_front n old new len = ap (λ (k : ℕ). new ++ drop k old) (sym len)

-- a curve that is written over a buffer is the one used
pub used_over : (S : Setting) (Q curve : List ℕ) → length Q ≡ curve_length S → used S (over Q curve) ≡ Q
unfolding over
used_over S Q curve e = take_at Q (drop (length Q) curve) (curve_length S) e

-- a lent front that comes back clear
pub cleared_front : (n : ℕ) (work : List ℕ) → n ≤ length work → {front : List ℕ} → front ≡ replicate (length (take n work)) 0
    → front ++ drop n work ≡ cleared n work
unfolding cleared
cleared_front n work fits {front} e =
    let clear = e ∙ ap (λ (m : ℕ). replicate m 0) (sym (length_front n work fits)) in
    over_front n work front (ap length clear ∙ length-replicate n 0) ∙ ap (λ new. over new work) clear
