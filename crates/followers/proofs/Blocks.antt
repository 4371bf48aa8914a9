-- The symbols that may follow, block by block: what stands in the list after each store and after each block.
use mathlib.Core.Bool.{Bool, true, false, cond}
use mathlib.Core.Path.{◌≡◌, refl, sym, ap, ap₂, subst, ◌∙◌}
use mathlib.Core.List.{List, [], ◌∷◌, ◌++◌, append-nil}
use Prim.Native.Nat.{ℕ, zero, suc, ◌+◌, ◌-◌, ◌*◌, ◌<◌, ◌≤◌}
use native.Mathlib.Omega.{arith}
use borrow.Author.Tests.{eq-eqb, ne_eqb}
use lib.Dec.{T, eqb}
use lib.ListN.{length, get_or, set, take, drop, replicate, length-append}
use lib.Seq.{get_or-take}
use Rattle.std.proofs.lemmas.List.{length-take-le, get_or-replicate}
use Rattle.rules.specs.Code.{eval}
use Rattle.rules.specs.Field.{ops, modulus}
use Rattle.rules.specs.Lists.{from, below, keep}
use Rattle.rules.specs.Search.{firsts, follows}
use Rattle.algebra.proofs.Search.{keep_append}
use Rattle.buffers.specs.Change.{Changed}
use Rattle.buffers.proofs.Change.{changed_none, changed_more, changed_front}
use Rattle.followers.specs.Slot.{curve}
use Rattle.followers.specs.Followers.{horner_at, BlockValues, zeros_from, following, followers_at, Appended}
use Rattle.followers.proofs.Heads.{heads_none, heads_more, heads_test}
use Rattle.followers.proofs.Written.{written_append}

from_append : (a m n : ℕ) → from a (m + n) ≡ from a m ++ from (a + m) n
unfolding from
from_append a zero n =
    let e : 0 + n ≡ n = omega arith in
    let f : a ≡ a + 0 = omega arith in
    ap (from a) e ∙ ap (λ (b : ℕ). from b n) f
from_append a (suc m) n =
    let e : suc m + n ≡ suc (m + n) = omega arith in
    let f : suc a + m ≡ a + suc m = omega arith in
    ap (from a) e ∙ ap (◌∷◌ a) (from_append (suc a) m n ∙ ap (λ (b : ℕ). from (suc a) m ++ from b n) f)

module _ (test : ℕ → Bool) where
  kept_append : (a m n : ℕ) → keep test (from a (m + n)) ≡ keep test (from a m) ++ keep test (from (a + m) n)
  kept_append a m n = ap (keep test) (from_append a m n) ∙ keep_append test (from a m) (from (a + m) n)

  kept_one : (a : ℕ) → keep test (from a 1) ≡ cond (test a) (a ∷ []) []
  unfolding keep from
  kept_one a = refl

  kept_more : (a n : ℕ) (b : Bool) → test (a + n) ≡ b → keep test (from a (n + 1)) ≡ keep test (from a n) ++ cond b ((a + n) ∷ []) []
  kept_more a n b e = kept_append a n 1 ∙ ap (◌++◌ (keep test (from a n))) (kept_one (a + n) ∙ ap (λ (c : Bool). cond c ((a + n) ∷ []) []) e)

  kept_most : (a i n : ℕ) → i ≤ n → length (keep test (from a i)) ≤ length (keep test (from a n))
  kept_most a i n l =
      let e : i + (n - i) ≡ n = omega arith in
      rw (← e) (omega (arith, ap length (kept_append a i (n - i)), length-append (keep test (from a i)) (keep test (from (a + i) (n - i)))))

kept_same : (s t : ℕ → Bool) (a n : ℕ) → ((j : ℕ) → j < n → s (a + j) ≡ t (a + j)) → keep s (from a n) ≡ keep t (from a n)
unfolding keep from
kept_same s t a zero h = refl
kept_same s t a (suc n) h =
    let z : a + 0 ≡ a = omega arith in
    let first : s a ≡ t a = ap s (sym z) ∙ h 0 (omega arith) ∙ ap t z in
    ap₂ (λ (b : Bool) (xs : List ℕ). cond b (a ∷ xs) xs) first
    (kept_same s t (suc a) n (λ j l. let e : a + suc j ≡ suc a + j = omega arith in ap s (sym e) ∙ h (suc j) (omega arith) ∙ ap t e))

pub appended_none : (a : ℕ) (d : List ℕ) → Appended [] a d d a
appended_none a d = record { count = omega arith; list = changed_none _ a d }

pub appended_to : {xs ys : List ℕ} {a r : ℕ} {d e : List ℕ} → Appended xs a d e r → xs ≡ ys → Appended ys a d e r
appended_to h e = rw e at h

appended_append : {xs ys : List ℕ} {a b r : ℕ} {d e e' : List ℕ} → Appended xs a d e b → Appended ys b e e' r → Appended (xs ++ ys) a d e' r
appended_append {xs} {ys} h k = record { count = omega (arith, h.count, k.count, length-append xs ys); list = written_append xs ys h.list k.list h.count }

appended_one : (v r : ℕ) (d : List ℕ) → r < length d → Appended (v ∷ []) r d (set d r v) (r + 1)
appended_one v r d l = record { count = omega arith; list = changed_more r v (changed_none _ r d) (omega arith) l refl }

-- one symbol more of the block
module _ (g : ℕ) (d : List ℕ) (i : ℕ) {a r : ℕ} {out₀ out : List ℕ} (h : Appended (zeros_from g i d) a out₀ out r) where
  test_at : (b : Bool) → eqb (get_or d i 0) 0 ≡ b → eqb (get_or d (g + i - g) 0) 0 ≡ b
  test_at b e = let f : g + i - g ≡ i = omega arith in ap (λ (j : ℕ). eqb (get_or d j 0) 0) f ∙ e

  pub room : get_or d i 0 ≡ 0 → i < length d → a + length (zeros_from g (length d) d) ≤ length out₀ → r < length out
  room z l m = omega (
    arith,
    h.count,
    h.list.len,
    ap length (kept_more (λ x. eqb (get_or d (x - g) 0) 0) g i true (test_at true (eq-eqb _ 0 z))),
    length-append (zeros_from g i d) ((g + i) ∷ []),
    kept_most (λ x. eqb (get_or d (x - g) 0) 0) g (i + 1) (length d) (omega arith),
  )

  pub collect_hit : get_or d i 0 ≡ 0 → i < length d → a + length (zeros_from g (length d) d) ≤ length out₀ →
      Appended (zeros_from g (i + 1) d) a out₀ (set out r (g + i)) (r + 1)
  collect_hit z l m = appended_to (appended_append h (appended_one (g + i) r out (room z l m)))
      (sym (kept_more (λ x. eqb (get_or d (x - g) 0) 0) g i true (test_at true (eq-eqb _ 0 z))))

  pub collect_miss : ¬ (get_or d i 0 ≡ 0) → Appended (zeros_from g (i + 1) d) a out₀ out r
  collect_miss z = appended_to h (sym (kept_more (λ x. eqb (get_or d (x - g) 0) 0) g i false (test_at false (ne_eqb _ 0 z)) ∙ append-nil (zeros_from g i d)))

pub zeros_none : (g a : ℕ) (d out : List ℕ) → Appended (zeros_from g 0 d) a out out a
unfolding keep from
zeros_none g a d out = appended_none a out

-- a block holds the values of what the rows from t on begin with
pub record Partly (q first w l b t : ℕ) (work acc : List ℕ) : Type 0 where
  pub long : length acc ≡ 32
  pub each : (i : ℕ) → i < 32 → get_or acc i 0 ≡ eval (ops q) (drop t (firsts (ops q) (curve w l b work))) (first + i)

pub partly_none : (q first w l b : ℕ) (work : List ℕ) → Partly q first w l b (l + 1) work (replicate 32 0)
partly_none q first w l b work = record { long = refl; each = λ i k. get_or-replicate 32 i 0 0 k ∙ heads_none q w l (first + i) _ }

module _ {q first w l b t : ℕ} {work acc : List ℕ} (h : Partly q first w l b t work acc) where
  pub partly_more : {acc' : List ℕ} → 0 < w → 0 < t → t ≤ l + 1 → Changed (horner_at q first (get_or work (b + (t - 1) * w) 0) acc) 0 32 acc acc' →
      Partly q first w l b (t - 1) work acc'
  partly_more o p m k = record { long = k.len ∙ h.long; each = λ i u. changed_front k i u ∙ heads_more q w l (first + i) b work t _ o p m (h.each i u) }

  pub partly_all : t ≡ 0 → BlockValues q first w l b work acc
  partly_all z = record { long = h.long; each = rw z at h.each }

-- a block of n symbols more, and room for it
module _ {q first w l b : ℕ} {work values : List ℕ} (m : T (modulus q)) (v : BlockValues q first w l b work values) (n : ℕ) (fits : n ≤ 32) where
  pub block_length : length (take n values) ≡ n
  block_length = length-take-le n values (omega (arith, v.long))

  abbrev Q : List (List ℕ)
  Q = curve w l b work

  module _ {out₀ out : List ℕ} {r : ℕ} (h : Appended (following q (curve w l b work) first) 0 out₀ out r) where
    abbrev xs : List ℕ
    xs = take n values

    same : keep (follows (ops q) Q) (from (0 + first) (length xs)) ≡ zeros_from first (length xs) xs
    same =
        let z : 0 + first ≡ first = omega arith in
        ap (λ (a : ℕ). keep (follows (ops q) Q) (from a (length xs))) z
        ∙ kept_same (follows (ops q) Q) (λ x. eqb (get_or xs (x - first) 0) 0) first (length xs)
        (λ j x. let f : first + j - first ≡ j = omega arith in
        let k : j < n = omega (arith, block_length) in
        sym (heads_test q w l (first + j) m Q (get_or xs (first + j - first) 0)
        (ap (λ (i : ℕ). get_or xs i 0) f ∙ get_or-take n values j 0 k ∙ v.each j (omega arith))))

    more : following q Q (first + length xs) ≡ following q Q first ++ zeros_from first (length xs) xs
    unfolding below
    more = kept_append (follows (ops q) Q) 0 first (length xs) ∙ ap (◌++◌ (keep (follows (ops q) Q) (from 0 first))) same

    pub block : {r' next : ℕ} {out' : List ℕ} → Appended (zeros_from first (length xs) xs) r out out' r' → first + n ≡ next → Appended (following q Q next) 0 out₀ out' r'
    block k e = appended_to (appended_append h k) (sym more ∙ ap (following q Q) (ap (◌+◌ first) block_length ∙ e))

    pub block_room : first + n ≤ q → length (followers_at q w l b work) ≤ length out₀ → r + length (zeros_from first (length xs) xs) ≤ length out
    unfolding below
    block_room x y = omega (
      arith,
      h.count,
      h.list.len,
      ap length more,
      length-append (following q Q first) (zeros_from first (length xs) xs),
      kept_most (follows (ops q) Q) 0 (first + length xs) q (omega (arith, block_length)),
    )

pub following_none : (q : ℕ) (Q : List (List ℕ)) (out : List ℕ) → Appended (following q Q 0) 0 out out 0
unfolding keep below from
following_none q Q out = appended_none 0 out

-- each symbol that is kept is one of those asked, and passes the test
kept_each : (P : ℕ → Type 0) (test : ℕ → Bool) (a n : ℕ) → ((j : ℕ) → j < n → test (a + j) ≡ true → P (a + j)) →
    (i : ℕ) → i < length (keep test (from a n)) → P (get_or (keep test (from a n)) i 0)
unfolding keep from
kept_each P test a zero h i l = absurd (omega arith)
kept_each P test a (suc n) h i l = go (test a) refl
    (kept_each P test (suc a) n (λ j m e. let f : a + suc j ≡ suc a + j = omega arith in subst P f (h (suc j) (omega arith) (ap test f ∙ e)))) i l
  where
    go : (b : Bool) → test a ≡ b → ((i : ℕ) → i < length (keep test (from (suc a) n)) → P (get_or (keep test (from (suc a) n)) i 0)) →
        (i : ℕ) → i < length (cond b (a ∷ keep test (from (suc a) n)) (keep test (from (suc a) n))) →
        P (get_or (cond b (a ∷ keep test (from (suc a) n)) (keep test (from (suc a) n))) i 0)
    go true e ih zero l = let z : a + 0 ≡ a = omega arith in subst P z (h 0 (omega arith) (ap test z ∙ e))
    go true e ih (suc i) l = ih i (omega arith)
    go false e ih i l = ih i l

module _ (q : ℕ) (Q : List (List ℕ)) (i : ℕ) (l : i < length (following q Q q)) where
  pub following_each : (follows (ops q) Q (get_or (following q Q q) i 0) ≡ true) × (get_or (following q Q q) i 0 < q)
  unfolding below
  following_each = kept_each (λ x. (follows (ops q) Q x ≡ true) × (x < q)) (follows (ops q) Q) 0 q (λ j m e. (e, omega arith)) i l
