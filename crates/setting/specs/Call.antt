-- The setting call's argument and its answer, as crate rules has them.
use Rattle.std.specs.Prelude.{ℕ, Result, Ok, Err}
use Rattle.rules.specs.Setting.{Setting as Asked}
use Rattle.rules.specs.Outcome.{Derived as Outcome}
use Rattle.causes.specs.declared.Refusal.{Refusal}
use Rattle.causes.specs.Number.{number}
use Rattle.setting.specs.declared.Setting.{Setting}
use Rattle.setting.specs.declared.Derived.{Derived}

-- the struct that is taken, as rules' setting
abbrev pub asked : Setting → Asked
asked setting = record { p = setting.p; n = setting.n; k = setting.k; s = setting.s; τ = setting.tau }

-- "setting call: every derived number 0"
abbrev pub refusing : ℕ → Outcome
refusing number = record { refusal = number; W = 0; ℓ = 0; C = 0; U = 0; R = 0 }

-- what is returned, as rules' outcome
abbrev pub outcome : Result Derived Refusal → Outcome
outcome (Ok d) = record { refusal = 0; W = d.w; ℓ = d.l; C = d.c; U = d.u; R = d.r }
outcome (Err cause) = refusing (number cause)
