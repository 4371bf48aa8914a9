-- Runs of k numbers one after the other: cut from a buffer and put together again, and written over a buffer one by one.
use mathlib.Core.Path.{◌≡◌, refl, sym, ap, ap₂, ◌∙◌}
use mathlib.Core.Bool.{Bool, true, false, cond}
use mathlib.Core.List.{List, [], ◌∷◌, ◌++◌, flatten, append_assoc}
use Prim.Native.Nat.{ℕ, zero, suc, ◌+◌, ◌-◌, ◌*◌, ◌≤◌}
use native.Mathlib.Nat.{suc-mul}
use native.Mathlib.Omega.{arith}
use lib.ListN.{length, take, drop, length-append, length-drop}
use lib.Seq.{take_at, drop_at, drop-drop, length-take-le}
use borrow.Rule.Slice.PartMut.{put_mid}
use Rattle.rules.specs.Lists.{keep}
use Rattle.rules.specs.Field.{ops}
use Rattle.rules.specs.Code.{messages, sifted, scoring, readings}
use Rattle.rules.specs.Search.{rows}
use Rattle.rules.specs.Outcome.{over}
use Rattle.algebra.proofs.Complete.{All, messages_long}

-- the part of n numbers from a on, with the end as the code has it
pub run_is : (a n : ℕ) (xs : List ℕ) → take (a + n - a) (drop a xs) ≡ take n (drop a xs)
run_is a n xs = let e : a + n - a ≡ n = omega arith in ap (λ (k : ℕ). take k (drop a xs)) e

pub run_long : (a n : ℕ) (xs : List ℕ) → a + n ≤ length xs → length (take (a + n - a) (drop a xs)) ≡ n
run_long a n xs l = ap length (run_is a n xs) ∙ length-take-le n (drop a xs) (simp length-drop (omega arith))

-- each of k numbers
abbrev pub Long : ℕ → List (List ℕ) → Type 0
Long k fs = All (λ f. length f ≡ k) fs

pub keep_long : (k : ℕ) (test : List ℕ → Bool) (fs : List (List ℕ)) → Long k fs → Long k (keep test fs)
unfolding keep
keep_long k test [] a = tt
keep_long k test (f ∷ fs) a = go (test f) (keep_long k test fs a.1)
  where
    go : (b : Bool) → Long k (keep test fs) → Long k (cond b (f ∷ keep test fs) (keep test fs))
    go true r = (a.0, r)
    go false r = r

pub readings_long : (q k m : ℕ) (points word : List ℕ) → Long k (readings (ops q) k m points word)
unfolding readings scoring sifted
readings_long q k m points word = keep_long k _ (messages (ops q) k) (messages_long (ops q) k)

pub flat_length : (k : ℕ) (fs : List (List ℕ)) → Long k fs → length (flatten fs) ≡ length fs * k
unfolding flatten
flat_length k [] a = omega arith
flat_length k (f ∷ fs) a = length-append f (flatten fs) ∙ omega (arith, a.0, flat_length k fs a.1, suc-mul (length fs) k)

pub flat_append : (fs gs : List (List ℕ)) → flatten (fs ++ gs) ≡ flatten fs ++ flatten gs
unfolding flatten
flat_append [] gs = refl
flat_append (f ∷ fs) gs = ap (◌++◌ f) (flat_append fs gs) ∙ sym (append_assoc f (flatten fs) (flatten gs))

pub rows_long : (k n : ℕ) (xs : List ℕ) → n * k ≤ length xs → Long k (rows k n xs)
unfolding rows
rows_long k zero xs l = tt
rows_long k (suc n) xs l =
    (length-take-le k xs (omega (arith, suc-mul n k)), rows_long k n (drop k xs) (simp length-drop (omega (arith, suc-mul n k))))

-- one run more
pub rows_more : (k i : ℕ) (xs : List ℕ) → rows k (suc i) xs ≡ rows k i xs ++ (take k (drop (i * k) xs) ∷ [])
unfolding rows
rows_more k zero xs = let e : 0 * k ≡ 0 = omega arith in rw e refl
rows_more k (suc i) xs =
    let e : k + i * k ≡ suc i * k = omega (arith, suc-mul i k) in
    let next = drop-drop (i * k) k xs ∙ ap (λ (n : ℕ). drop n xs) e in
    ap (◌∷◌ (take k xs)) (rows_more k i (drop k xs) ∙ ap (λ ys. rows k i (drop k xs) ++ (take k ys ∷ [])) next)

-- runs that stand at the front are cut as they were
pub rows_flat : (k : ℕ) (fs : List (List ℕ)) (rest : List ℕ) → Long k fs → rows k (length fs) (flatten fs ++ rest) ≡ fs
unfolding rows flatten
rows_flat k [] rest a = refl
rows_flat k (f ∷ fs) rest a =
    let e = append_assoc f (flatten fs) rest in
    ap₂ ◌∷◌ (ap (take k) e ∙ take_at f (flatten fs ++ rest) k a.0)
    (ap (λ xs. rows k (length fs) (drop k xs)) e
    ∙ ap (rows k (length fs)) (drop_at f (flatten fs ++ rest) k a.0)
    ∙ rows_flat k fs rest a.1)

-- what is put behind what was written over a buffer is written over it too
pub over_more : (new f old : List ℕ) {a k : ℕ} → length new ≡ a → length f ≡ k → put_mid a k (over new old) f ≡ over (new ++ f) old
unfolding over
over_more new f old {a} {k} e g =
    let long = sym (length-append new f ∙ ap (λ (n : ℕ). length new + n) g) in
    ap₂ (λ xs ys. xs ++ (f ++ drop k ys)) (take_at new (drop (length new) old) a e) (drop_at new (drop (length new) old) a e)
    ∙ ap (λ ys. new ++ (f ++ ys)) (drop-drop k (length new) old ∙ ap (λ (n : ℕ). drop n old) long)
    ∙ sym (append_assoc new f _)
