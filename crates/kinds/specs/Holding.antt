-- What the enum of this crate holds, as crate rules has it, and what the program can hold.
use Rattle.std.specs.Prelude.{◌≡◌, Bool, true, ◌&&◌, List, ◌++◌, ℕ, ◌-◌, T, eqb, length, take, replicate}
use Rattle.rules.specs.Patch.{Held, nothing, set, ready, setting_record_refusal, points_refusal}
use Rattle.setting.specs.declared.Setting.{Setting}
use Rattle.bodies.specs.Setting.{setting_of, struct_of}
use Rattle.kinds.specs.declared.Stock.{Stock}
use Rattle.kinds.specs.declared.Stock.TheVariants.{Nothing, Set, Ready}

abbrev pub held_of : Stock → Held
held_of Nothing = nothing
held_of (Set s) = set (setting_of s)
held_of (Ready s points) = ready (setting_of s) (take s.n points)

-- a setting with the points in front of this array
abbrev pub with_array : Setting → List ℕ → Stock
with_array s points = Ready s points

-- what holds this, every number of it, with zeros behind the points
unfoldable pub stock : Held → Stock
stock nothing = Nothing
stock (set S) = Set (struct_of S)
stock (ready S points) = with_array (struct_of S) (points ++ replicate (64 - length points) 0)

-- what the program can hold: what it accepted
unfoldable pub possible : Held → Bool
possible nothing = true
possible (set S) = eqb (setting_record_refusal S) 0
possible (ready S points) = eqb (setting_record_refusal S) 0 && eqb (points_refusal S points) 0

-- zeros stand behind the points
abbrev pub Clean : Stock → Type 0
Clean h = h ≡ stock (held_of h)

-- what a record needs of what is held, and leaves
pub record Sound (h : Stock) : Type 0 where
  pub accepted : T (possible (held_of h))
  pub clean : Clean h
