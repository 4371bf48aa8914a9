-- What the engine is told of a setting: the number that it is refused with, and where it is accepted its numbers.
use Rattle.std.specs.Prelude.{◌≡◌, ◌*◌, Result, IfOk}
use Rattle.rules.specs.Setting.{Setting, W, ℓ, curve_length, R}
use Rattle.rules.specs.Refusal.{setting_refusal}
use Rattle.causes.specs.declared.Refusal.{Refusal}
use Rattle.causes.specs.Number.{refused}
use Rattle.setting.specs.Accepted.{Accepted}
use Rattle.terms.specs.declared.Terms.{Terms}

-- S is accepted, and t has its numbers
pub record Settled (S : Setting) (t : Terms) : Type 0 where
  pub accepted : Accepted S
  pub is_p : t.shape.field.q ≡ S.p
  pub is_k : t.shape.k ≡ S.k
  pub is_s : t.s ≡ S.s
  pub is_W : t.shape.w ≡ W S
  pub is_ℓ : t.shape.l ≡ ℓ S
  pub is_size : t.size ≡ curve_length S
  pub is_list : t.list ≡ ℓ S * S.k
  pub is_R : t.room ≡ R S

-- the number is the setting's, and where it is not refused so are the others
pub record Posed (S : Setting) (r : Result Terms Refusal) : Type 0 where
  pub refusal : refused r ≡ setting_refusal S
  pub settled : IfOk r (λ t. Settled S t)
