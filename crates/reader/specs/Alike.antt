-- What any two allowed outcomes of finding or of reading have in common, whatever their curves.
-- "Known exception ..: the curve found, and so its beginnings, may differ; both must pass." Nothing else differs.
use Rattle.std.specs.Prelude.{◌≡◌, List, ℕ, ◌*◌, length, take, drop}
use Rattle.rules.specs.Setting.{Setting, curve_length}
use Rattle.rules.specs.Outcome.{Finding, Reading}

-- two curve buffers behind the curve's (ℓ+1)·W numbers: they are of one length and hold the same
pub record SameBehind (S : Setting) (c c' : List ℕ) : Type 0 where
  pub long : length c ≡ length c'
  pub numbers : drop (curve_length S) c ≡ drop (curve_length S) c'

pub record AlikeFound (S : Setting) (o o' : Finding) : Type 0 where
  pub refusal : o.refusal ≡ o'.refusal
  pub found : o.found ≡ o'.found
  pub tried : o.tried ≡ o'.tried
  pub behind : SameBehind S o.curve o'.curve
  pub work : o.work ≡ o'.work
  pub refused : ¬ (o.refusal ≡ 0) → o ≡ o'

-- what two readings leave, also where the curve buffers that they were lent are the same only behind the curve
pub record AlikeLeft (S : Setting) (o o' : Reading) : Type 0 where
  pub refusal : o.refusal ≡ o'.refusal
  pub found : o.found ≡ o'.found
  pub output : o.output ≡ o'.output
  pub behind : SameBehind S o.curve o'.curve
  pub work : o.work ≡ o'.work

pub record AlikeRead (S : Setting) (o o' : Reading) : Type 0 where
  pub refusal : o.refusal ≡ o'.refusal
  pub found : o.found ≡ o'.found
  pub output : o.output ≡ o'.output
  pub behind : SameBehind S o.curve o'.curve
  pub work : o.work ≡ o'.work
  pub refused : ¬ (o.refusal ≡ 0) → o ≡ o'

-- .. and two readings whose lent buffers held other numbers: the refusal, the list length and the list, found · k numbers of the output
pub record SameList (k : ℕ) (o o' : Reading) : Type 0 where
  pub refusal : o.refusal ≡ o'.refusal
  pub found : o.found ≡ o'.found
  pub list : take (o.found * k) o.output ≡ take (o'.found * k) o'.output
