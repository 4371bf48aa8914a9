-- What any two allowed outcomes of an exported finding or reading have in common, whatever their curves.
-- r, r' are the refusal numbers, out, c, w the output, the curve buffer and the work, and t, t' the answers.
use Rattle.std.specs.Prelude.{◌≡◌, List, ℕ, length, take, drop}
use Rattle.rules.specs.Setting.{Setting}
use Rattle.reader.specs.Alike.{SameBehind}

pub record AlikeFindTold (S : Setting) (r r' : ℕ) (c c' w w' : List ℕ) : Type 0 where
  pub refusal : r ≡ r'
  pub behind : SameBehind S c c'
  pub work : w ≡ w'
  pub refused : ¬ (r ≡ 0) → c ≡ c'

-- two answers of reading: their length, the list length at place 0 and all from place 2 on are equal; place 1 has the beginnings
pub record AlikeAnswer (t t' : List ℕ) : Type 0 where
  pub long : length t ≡ length t'
  pub found : take 1 t ≡ take 1 t'
  pub further : drop 2 t ≡ drop 2 t'

pub record AlikeReadTold (S : Setting) (r r' : ℕ) (out out' c c' w w' t t' : List ℕ) : Type 0 where
  pub refusal : r ≡ r'
  pub output : out ≡ out'
  pub behind : SameBehind S c c'
  pub work : w ≡ w'
  pub answer : AlikeAnswer t t'
  pub refused : ¬ (r ≡ 0) → (c ≡ c') × (t ≡ t')
