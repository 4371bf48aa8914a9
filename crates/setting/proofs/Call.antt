-- The setting call's answer in each of its five cases.
use mathlib.Core.Path.{◌≡◌, ap, ap₂, ◌∙◌}
use mathlib.Core.Bool.{true, false}
use Prim.Native.Nat.{ℕ, ◌+◌, ◌-◌, ◌*◌, ◌/◌, ◌≤◌, ◌<◌}
use native.Mathlib.Omega.{arith}
use borrow.Author.Tests.{le-leb, lt-leb, lt-ltb, le-ltb}
use Rattle.rules.specs.Lists.{below, sum}
use Rattle.rules.specs.Field.{modulus}
use Rattle.rules.specs.Setting.{Setting, ranges, W, ℓ, C, U, R}
use Rattle.rules.specs.Refusal.{lowest, setting_causes, setting_refusal}
use Rattle.rules.specs.Outcome.{setting_call}
use Rattle.setting.specs.Call.{refusing}
use Rattle.setting.specs.Sized.{Bound, Power}
use Rattle.setting.specs.Accepted.{Ranged}
use Rattle.setting.proofs.Tests.{ranged_true}

-- w, l, c and u are the setting's derived numbers
pub record Numbers (S : Setting) (w l c u : ℕ) : Type 0 where
  pub is_W : w ≡ W S
  pub is_ℓ : l ≡ ℓ S
  pub is_C : c ≡ C S
  pub is_U : u ≡ U S

module _ (S : Setting) where
  open S use {p, n, k, s, τ}

  pub case_1 : modulus p ≡ false → refusing 1 ≡ setting_call S
  unfolding setting_call setting_refusal setting_causes lowest
  case_1 a = simp a

  pub case_2 : modulus p ≡ true → ranges S ≡ false → refusing 2 ≡ setting_call S
  unfolding setting_call setting_refusal setting_causes lowest
  case_2 a b = simp (a, b)

  pub numbers_are : {w l c u : ℕ} → Bound n s τ w → Power w k l → c ≡ n * s * (s + 1) / 2 → u ≡ sum (λ t. w - t * (k - 1)) (below (l + 1)) → Numbers S w l c u
  unfolding W ℓ C U
  numbers_are {w} {l} b q is_C is_sum =
      let is_ℓ : l ≡ ℓ S = q.is ∙ ap (λ x. (x - 1) / (k - 1)) b.is in
      record {
        is_W = b.is;
        is_ℓ = is_ℓ;
        is_C = is_C;
        is_U = is_sum ∙ ap₂ (λ x y. sum (λ t. x - t * (k - 1)) (below (y + 1))) b.is is_ℓ;
      }

  module _ {w l c u : ℕ} (a : modulus p ≡ true) (r : Ranged n k s τ) (z : Numbers S w l c u) where
    pub case_3 : u ≤ c → refusing 3 ≡ setting_call S
    unfolding setting_call setting_refusal setting_causes lowest
    case_3 few = simp (a, ranged_true S r, le-leb (U S) (C S) (omega arith))

    pub case_4 : c < u → 24 < l → refusing 4 ≡ setting_call S
    unfolding setting_call setting_refusal setting_causes lowest
    case_4 enough long = simp (a, ranged_true S r, lt-leb (U S) (C S) (omega arith), lt-ltb 24 (ℓ S) (omega arith))

    pub case_0 : c < u → l ≤ 24 → {room : ℕ} → room ≡ (l + k + 4) * (l + 1) * w
        → record { refusal = 0; W = w; ℓ = l; C = c; U = u; R = room } ≡ setting_call S
    unfolding setting_call setting_refusal setting_causes lowest R
    case_0 enough short is_room = simp (a, ranged_true S r, lt-leb (U S) (C S) (omega arith), le-ltb 24 (ℓ S) (omega arith)) cc
