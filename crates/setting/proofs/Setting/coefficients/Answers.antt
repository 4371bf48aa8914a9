-- The goals of `coefficients` that the search leaves: before the first row there is no sum, and each turn adds its row to it.
use mathlib.Core.Path.{refl}
use Prim.Native.Nat.{◌-◌, ◌*◌}
use native.Mathlib.Nat.{add-mul}
use native.Mathlib.Omega.{arith}
use borrow.Author.Rules.{rules}
use Rattle.rules.specs.Lists.{from, below, sum}
use Rattle.setting.proofs.Arith.{sum_below}
use Rattle.setting.proofs.Setting.coefficients.Goals as goal

pub loop-init : goal.loop-init
unfolding sum below from
loop-init c = (search rules, refl, search rules)

pub loop-preserved : goal.loop-preserved
loop-preserved c =
    (omega (arith, add-mul c.loop.counter 1 (c.args.self.k - 1)), omega (arith, sum_below (λ i. c.args.w - i * (c.args.self.k - 1)) c.loop.counter), search rules)
