-- What a reading counts is small: its messages stand in the output, and its beginnings are within demand 3's bound. A refused one counts nothing.
use mathlib.Core.Path.{◌≡◌, ap, ◌∙◌}
use mathlib.Core.List.{List, flatten}
use Prim.Native.Nat.{ℕ, ◌+◌, ◌-◌, ◌*◌, ◌≤◌, ◌<◌}
use native.Mathlib.Nat.{zero-mul, le-mul_of_pos_right}
use native.Mathlib.Decide.{ℕ_discrete}
use native.Mathlib.Omega.{arith}
use lib.ListN.{length, drop, length-append}
use Rattle.rules.specs.Field.{ops}
use Rattle.rules.specs.Code.{readings}
use Rattle.rules.specs.Setting.{Setting, ℓ}
use Rattle.rules.specs.Outcome.{Reading, Reads, over}
use Rattle.demands.proofs.Runs.{Long, flat_length, readings_long}
use Rattle.reader.proofs.Decided.{read_decided}
use Rattle.reader.proofs.Readings.{read_reads}

-- messages of k numbers, written over a buffer, are within what it then holds
within : (k : ℕ) (fs : List (List ℕ)) → Long k fs → (output : List ℕ) {found : ℕ} {output' : List ℕ}
    → found ≡ length fs → output' ≡ over (flatten fs) output → found * k ≤ length output'
unfolding over
within k fs long output e w =
    omega (
      arith,
      ap (λ (n : ℕ). n * k) e,
      flat_length k fs long,
      ap length w,
      length-append (flatten fs) (drop (length (flatten fs)) output),
    )

module _ (S : Setting) (points word output curve work : List ℕ) (o : Reading) (h : Reads S points word output curve work o) where
  nothing : ¬ (o.refusal ≡ 0) → (o.found ≡ 0) × (o.tried ≡ 0)
  nothing n =
      let d = read_decided S points word output curve work h in
      let is = d.refused (λ z. n (d.is_number ∙ z)) in
      (ap (λ (x : Reading). x.found) is, ap (λ (x : Reading). x.tried) is)

  pub found_within : o.found * S.k ≤ length o.output
  found_within = go (ℕ_discrete o.refusal 0)
    where
      go : Dec (o.refusal ≡ 0) → o.found * S.k ≤ length o.output
      go (yes z) =
          let d = read_reads S points word output curve work o h z in
          let m = S.n - S.τ in
          within S.k (readings (ops S.p) S.k m points word) (readings_long S.p S.k m points word) output d.list d.written
      go (no n) = omega (arith, ap (λ (found : ℕ). found * S.k) (nothing n).0, zero-mul S.k)

  pub found_few : 0 < S.k → o.found ≤ length o.output
  found_few some = omega (arith, le-mul_of_pos_right {m = S.k} o.found some, found_within)

  pub tried_few : o.tried ≤ 1 + ℓ S * S.k
  tried_few = go (ℕ_discrete o.refusal 0)
    where
      go : Dec (o.refusal ≡ 0) → o.tried ≤ 1 + ℓ S * S.k
      go (yes z) = (read_reads S points word output curve work o h z).few
      go (no n) = omega (arith, (nothing n).1)
