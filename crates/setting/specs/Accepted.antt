-- What holds of every accepted setting: the bounds on which rooms, slots and casts of the later crates rest.
use Rattle.std.specs.Prelude.{◌≡◌, ℕ, ◌+◌, ◌-◌, ◌*◌, ◌^◌, ◌≤◌, ◌<◌, T}
use Rattle.rules.specs.Field.{modulus}
use Rattle.rules.specs.Setting.{Setting, W, ℓ, C, U, curve_length, R}
use Rattle.setting.specs.declared.Derived.{Derived}

-- "n is 2 to 64, k is 2 to n"
pub record Coded (n k : ℕ) : Type 0 where
  pub n_least : 2 ≤ n
  pub n_most : n ≤ 64
  pub k_least : 2 ≤ k
  pub k_most : k ≤ n

-- ".. s (multiplicity) is 1 to 4, τ is 0 to n−1"
pub record Ranged (n k s τ : ℕ) : Type 0 where
  pub code : Coded n k
  pub s_least : 1 ≤ s
  pub s_most : s ≤ 4
  pub τ_most : τ < n

-- what the four tests ask, as facts
pub record Passed (S : Setting) : Type 0 where
  pub prime : T (modulus S.p)
  pub ranged : Ranged S.n S.k S.s S.τ
  pub enough : C S < U S
  pub ℓ_most : ℓ S ≤ 24

-- "A setting is accepted when U > C and ℓ ≤ 24": these, and what follows from them
pub record Accepted (S : Setting) : Type 0 where
  pub passed : Passed S
  -- "Every accepted setting then has n−τ ≥ k."
  pub agreeing : S.k ≤ S.n - S.τ
  pub ℓ_least : S.s ≤ ℓ S
  pub W_least : S.k ≤ W S
  pub W_most : W S ≤ 256
  -- the last row has a place, and no row more would have one
  pub last_row : ℓ S * (S.k - 1) < W S
  pub no_more : W S ≤ (ℓ S + 1) * (S.k - 1)
  pub curve_most : curve_length S ≤ 6400
  pub output_most : ℓ S * S.k ≤ 1536
  -- R is ℓ + k + 4 slots, each of a curve
  pub slots : (ℓ S + S.k + 4) * curve_length S ≡ R S
  pub one_slot : curve_length S ≤ R S
  pub R_most : R S < 2 ^ 20

-- S is accepted, and d has its numbers: what a caller of the setting call has where it does not refuse
pub record Taken (S : Setting) (d : Derived) : Type 0 where
  pub accepted : Accepted S
  pub is_W : d.w ≡ W S
  pub is_ℓ : d.l ≡ ℓ S
  pub is_C : d.c ≡ C S
  pub is_U : d.u ≡ U S
  pub is_R : d.r ≡ R S
