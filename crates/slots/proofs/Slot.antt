-- How a slot is treated row by row.
use mathlib.Core.Path.{◌≡◌, refl, ap, ap₂, ◌∙◌}
use mathlib.Core.Logic.{⊎_elim, by_cases}
use mathlib.Core.List.{List}
use Prim.Native.Nat.{ℕ, zero, suc, ◌+◌, ◌-◌, ◌*◌, ◌<◌, ◌≤◌}
use native.Mathlib.Decide.{ℕ_discrete}
use native.Mathlib.Omega.{arith}
use lib.ListN.{get_or}
use lib.Arith.{digits_lt}
use Rattle.rules.specs.Field.{plus, times}
use Rattle.buffers.specs.Change.{Changed}
use Rattle.buffers.proofs.Change.{lt_or_ge}
use Rattle.buffers.proofs.Rows.{row_fits}
use Rattle.within.specs.Runs.{RunsApart, added, moved, shifted}
use Rattle.slots.specs.Slot.{slot, place, mixed_at, raised_at, Treated}

module _ {f : ℕ → ℕ → ℕ} {at k w n : ℕ} {d e : List ℕ} (h : Treated f at k w n d e) where
  -- a place that no earlier row has is still the old
  pub treated_next : (i : ℕ) → get_or e (at + place w n i) 0 ≡ get_or d (at + place w n i) 0
  treated_next i = h.keep _ (λ t u l v q. let z = digits_lt {q = t} {m = n} {r = u} {c = w} l (omega arith) in omega arith)

  pub treated_away : {l from : ℕ} → n ≤ l → RunsApart from at (slot w l) → (i : ℕ) → i < w → get_or e (from + place w n i) 0 ≡ get_or d (from + place w n i) 0
  treated_away {l} {from} u p i v = h.keep _ (λ t j a b q.
      let z = digits_lt {q = t} {m = n} {r = j} {c = w} a (omega arith) in
      let r = row_fits {t = n} {n = l + 1} w (omega arith) in
      ⊎_elim (λ x. omega arith) (λ x. omega arith) p)

  -- one more row
  pub treated_more : {g : ℕ → ℕ} {e' : List ℕ} → Changed g (at + n * w) (w - n * (k - 1)) e e' → ((i : ℕ) → i + n * (k - 1) < w → g i ≡ f n i) →
      Treated f at k w (n + 1) d e'
  treated_more {g} {e'} C same = record {
    len = C.len ∙ h.len;
    new = λ t i l v. by_cases (ℕ_discrete t n)
        (λ z. rw z (let x : at + place w n i ≡ at + n * w + i = omega arith in let v' : i + n * (k - 1) < w = rw z at v in
        ap (λ (x : ℕ). get_or e' x 0) x ∙ C.new i (omega arith) ∙ same i v'))
        (λ z. let y = digits_lt {q = t} {m = n} {r = i} {c = w} (omega arith) (omega arith) in C.low _ (omega arith) ∙ h.new t i (omega arith) v);
    keep = λ x u. aside x u ∙ h.keep x (λ t i l v. u t i (omega arith) v);
  }
    where
      aside : (x : ℕ) → ((t i : ℕ) → t < n + 1 → i + t * (k - 1) < w → ¬ (x ≡ at + place w t i)) → get_or e' x 0 ≡ get_or e x 0
      aside x u =
          ⊎_elim (λ b. C.low x b)
          (λ b. ⊎_elim (λ c. absurd (u n (x - (at + n * w)) (omega arith) (omega arith) (omega arith))) (λ c. C.high x (omega arith))
          (lt_or_ge (x - (at + n * w)) (w - n * (k - 1))))
          (lt_or_ge x (at + n * w))

-- a row of the curve from `to` on, plus c times that from `from` on
pub reduce_more : (q c k w l from to n : ℕ) {d e e' : List ℕ} → RunsApart from to (slot w l) → n ≤ l →
    Treated (mixed_at q c w d from to) to k w n d e →
    Changed (added q c e (from + n * w) (to + n * w)) (to + n * w) (w - n * (k - 1)) e e' →
    Treated (mixed_at q c w d from to) to k w (n + 1) d e'
reduce_more q c k w l from to n {d} {e} p u T C = treated_more T C λ i v.
    let a : to + n * w + i ≡ to + place w n i = omega arith in
    let b : from + n * w + i ≡ from + place w n i = omega arith in
    ap₂ (λ (x y : ℕ). plus q x (times q c y)) (ap (λ (x : ℕ). get_or e x 0) a ∙ treated_next T i)
    (ap (λ (x : ℕ). get_or e x 0) b ∙ treated_away T u p i (omega arith))

-- a row of the curve from `at` on, times x + c
pub raise_more : (q c k w at n : ℕ) {d e e' : List ℕ} → Treated (raised_at q c w d at) at k w n d e →
    Changed (shifted q c e (at + n * w) (at + n * w)) (at + n * w) (w - n * (k - 1)) e e' → Treated (raised_at q c w d at) at k w (n + 1) d e'
unfolding moved
raise_more q c k w at n {d} {e} T C = treated_more T C λ i v. ap₂ (λ (x y : ℕ). plus q x (times q c y)) (last i) (here i)
  where
    here : (i : ℕ) → get_or e (at + n * w + i) 0 ≡ get_or d (at + n * w + i) 0
    here i =
        let a : at + n * w + i ≡ at + place w n i = omega arith in
        rw a (treated_next T i)

    last : (i : ℕ) → moved e (at + n * w) i ≡ moved d (at + n * w) i
    last zero = refl
    last (suc i) = here i
