-- Curves in one buffer. Curve j stands in slot j; a slot has (ℓ+1)·W numbers, and the coefficient of x^i·y^t stands at place t·W + i of it.
use Rattle.std.specs.Prelude.{◌≡◌, List, ℕ, ◌+◌, ◌-◌, ◌*◌, ◌<◌, length, get_or, take, drop}
use Rattle.rules.specs.Field.{minus, times, plus}
use Rattle.within.specs.Runs.{shifted}

-- the numbers of a curve
abbrev pub slot : ℕ → ℕ → ℕ
slot w l = (l + 1) * w

-- where the coefficient of x^i·y^t stands in a curve's numbers
abbrev pub place : ℕ → ℕ → ℕ → ℕ
place w t i = t * w + i

-- e is d but for the terms of the space in the first n rows of the slot that begins at `at`: number i of row t is f t i
pub record Treated (f : ℕ → ℕ → ℕ) (at k w n : ℕ) (d e : List ℕ) : Type 0 where
  pub len : length e ≡ length d
  pub new : (t i : ℕ) → t < n → i + t * (k - 1) < w → get_or e (at + place w t i) 0 ≡ f t i
  pub keep : (m : ℕ) → ((t i : ℕ) → t < n → i + t * (k - 1) < w → ¬ (m ≡ at + place w t i)) → get_or e m 0 ≡ get_or d m 0

-- the curve at `to` plus c times the curve at `from`
abbrev pub mixed_at : ℕ → ℕ → ℕ → List ℕ → ℕ → ℕ → ℕ → ℕ → ℕ
mixed_at q c w d from to t i = plus q (get_or d (to + place w t i) 0) (times q c (get_or d (from + place w t i) 0))

-- the curve at `at` times x + c
abbrev pub raised_at : ℕ → ℕ → ℕ → List ℕ → ℕ → ℕ → ℕ → ℕ
raised_at q c w d at t i = shifted q c d (at + t * w) (at + t * w) i

-- curve j is y^j, for each j up to ℓ
pub record Started (w l : ℕ) (e : List ℕ) : Type 0 where
  pub one : (j : ℕ) → j < l + 1 → get_or e (j * slot w l + place w j 0) 0 ≡ 1
  pub none : (m : ℕ) → m < (l + 1) * slot w l → ((j : ℕ) → j < l + 1 → ¬ (m ≡ j * slot w l + place w j 0)) → get_or e m 0 ≡ 0

-- v times minus `over`: where `over` is the inverse of a curve's value, so much of that curve takes the value v to zero
abbrev pub ratio : ℕ → ℕ → ℕ → ℕ
ratio q over v = times q v (minus q 0 over)

-- e is d but for the terms of the space in those of the first n curves whose value is not zero: these lose their value times `over` of curve p
pub record Swept (q k w l p over : ℕ) (values : List ℕ) (n : ℕ) (d e : List ℕ) : Type 0 where
  pub len : length e ≡ length d
  pub new : (j t i : ℕ) → j < n → ¬ (get_or values j 0 ≡ 0) → t < l + 1 → i + t * (k - 1) < w →
      get_or e (j * slot w l + place w t i) 0 ≡ mixed_at q (ratio q over (get_or values j 0)) w d (p * slot w l) (j * slot w l) t i
  pub keep : (m : ℕ) → ((j t i : ℕ) → j < n → ¬ (get_or values j 0 ≡ 0) → t < l + 1 → i + t * (k - 1) < w → ¬ (m ≡ j * slot w l + place w t i)) →
      get_or e m 0 ≡ get_or d m 0

-- the numbers of curve j
abbrev pub curve_at : ℕ → ℕ → List ℕ → ℕ → List ℕ
curve_at w l work j = take (slot w l) (drop (j * slot w l) work)
