-- The values of a condition at the curves of the slots.
use Rattle.std.specs.Prelude.{cond, List, ℕ, ◌+◌, ◌-◌, ◌*◌, ltb, get_or}
use Rattle.weights.specs.Value.{pairing}
use Rattle.slots.specs.Slot.{curve_at}

-- the value of curve j, where it is alive: x and y are the weights of the condition
abbrev pub valued : ℕ → ℕ → ℕ → ℕ → List ℕ → List ℕ → List ℕ → List ℕ → ℕ → ℕ
valued q k w l x y leads work j = cond (ltb (get_or leads j 0 + j * (k - 1)) w) (pairing q k w l x y (curve_at w l work j)) 0
