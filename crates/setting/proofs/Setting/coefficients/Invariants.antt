-- `coefficients` is U. The invariant: off is t·(k−1), and u the sum of the first t rows, where t turns were made.
use mathlib.Core.Path.{◌≡◌}
use Prim.Native.Nat.{◌-◌, ◌*◌, ◌≤◌}
use Rattle.rules.specs.Lists.{below, sum}
use Rattle.setting.proofs.Setting.coefficients.Given as goal

abbrev pub invariant-loop : goal.invariant-loop
invariant-loop l = (l.off ≡ l.counter * (l.self.k - 1)) × (l.u ≡ sum (λ i. l.w - i * (l.self.k - 1)) (below l.counter)) × (l.u ≤ l.counter * 256)
