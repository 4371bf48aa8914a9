-- The order of terms: the number rank stays shut, and these facts say all that is used of it.
use mathlib.Core.Path.{◌≡◌, sym, ◌∙◌, ap}
use mathlib.Core.Logic.{◌⊎◌, inl, inr}
use Prim.Native.Nat.{ℕ, suc, ◌<◌, ◌≤◌, ◌+◌, ◌*◌, ◌-◌, ◌/◌, ◌%◌}
use native.Mathlib.Omega.{arith}
use native.Mathlib.Nat.{suc-mul, mul-le-mul_right, div-add-mod', mod-lt}
use native.Mathlib.Decide.{dec_le}
use Rattle.algebra.specs.Space.{Space, In, rank}

pub digit_lt : (n w t w' t' : ℕ) → t < n → w < w' → w * n + t < w' * n + t'
digit_lt n w t w' t' h l = omega (arith, suc-mul w n, mul-le-mul_right n l)

pub digit_le : (n w t w' t' : ℕ) → t' < n → w * n + t ≤ w' * n + t' → w ≤ w'
digit_le n w t w' t' h l = go (dec_le w w')
  where
    go : Dec (w ≤ w') → w ≤ w'
    go (yes e) = e
    go (no e) = absurd (let f = digit_lt n w' t' w t h (omega arith) in omega arith)

pub digit_eq : (n w t w' t' : ℕ) → t < n → t' < n → w * n + t ≡ w' * n + t' → (w ≡ w') × (t ≡ t')
digit_eq n w t w' t' h h' e =
    let l = digit_le n w t w' t' h' (omega arith) in
    let m = digit_le n w' t' w t h (omega arith) in
    let q : w ≡ w' = omega arith in
    (q, omega (arith, ap (λ x. x * n) q))

module _ (S : Space) where
  pub rank_suc : (i t : ℕ) → rank S (suc i) t ≡ rank S i t + suc S.top
  unfolding rank
  rank_suc i t =
      let e : suc i + S.off t ≡ suc (i + S.off t) = omega arith in
      rw (e, suc-mul) (omega arith)

  -- a greater weight is a greater rank
  pub rank_lt : (a j i t : ℕ) → j ≤ S.top → a + S.off j < i + S.off t → rank S a j < rank S i t
  unfolding rank
  rank_lt a j i t h l = digit_lt (suc S.top) (a + S.off j) j (i + S.off t) t (omega arith) l

  -- at no greater weight and no greater degree in y no greater rank: a scan upwards in t may keep the first
  pub rank_scan : (a j i t : ℕ) → j ≤ t → a + S.off j ≤ i + S.off t → rank S a j ≤ rank S i t
  unfolding rank
  rank_scan a j i t h l = omega (arith, mul-le-mul_right (suc S.top) l)

  pub rank_eq : (a j i t : ℕ) → j ≤ S.top → t ≤ S.top → rank S a j ≡ rank S i t → (a ≡ i) × (j ≡ t)
  unfolding rank
  rank_eq a j i t hj ht e =
      let d = digit_eq (suc S.top) (a + S.off j) j (i + S.off t) t (omega arith) (omega arith) e in
      (omega (arith, d.0, ap S.off d.1), d.1)

  pub rank_bound : (i t : ℕ) → In S i t → rank S i t < S.wide * suc S.top
  unfolding rank
  rank_bound i t h = omega (arith, suc-mul (i + S.off t) (suc S.top), mul-le-mul_right (suc S.top) h.inside)

  pub rank_find : (r : ℕ) → ((i : ℕ) × (t : ℕ) × (t ≤ S.top) × (rank S i t ≡ r)) ⊎ ((i t : ℕ) → t ≤ S.top → ¬ (rank S i t ≡ r))
  unfolding rank
  rank_find r = go (dec_le (S.off t) m)
    where
      n : ℕ
      n = suc S.top

      t : ℕ
      t = r % n

      m : ℕ
      m = r / n

      small : t < n
      small = mod-lt r (omega arith)

      whole : m * n + t ≡ r
      whole = div-add-mod' r n

      go : Dec (S.off t ≤ m) → ((i : ℕ) × (t : ℕ) × (t ≤ S.top) × (rank S i t ≡ r)) ⊎ ((i t : ℕ) → t ≤ S.top → ¬ (rank S i t ≡ r))
      go (yes h) = inl (m - S.off t, t, omega (arith, small), (let e : m - S.off t + S.off t ≡ m = omega arith in rw e whole))
      go (no h) = inr (λ i u hu e. let d = digit_eq n (i + S.off u) u m t (omega arith) small (e ∙ sym whole) in h (omega (arith, d.0, ap S.off d.1)))
