-- want: a record has as many bytes more as its length says, where that fits.
use mathlib.Core.Path.{ap, ◌∙◌}
use Prim.Native.Nat.{◌+◌}
use native.Mathlib.Omega.{arith}
use Rattle.parsing.proofs.Shape.{size_fits, size_unfit, fits_bounds}
use Rattle.parsing.proofs.want.Goals as goal

pub returns-in-Some : goal.returns-in-Some
returns-in-Some c = let h = c.in-Some.ensures in (ap (λ x. 2 + x) c.from.ensures ∙ size_fits _ h.0 h.1, omega (arith, fits_bounds c.in-Some.n h.1))

pub returns-in-None : goal.returns-in-None
returns-in-None c = (size_unfit _ c.in-None.ensures, omega arith)
