-- share: symbols below q are the same where they are equal.
use mathlib.Core.Path.{sym, ◌∙◌}
use Prim.Native.Nat.{ℕ}
use Rattle.rules.specs.Code.{Triple}
use Rattle.sift.proofs.Scoring.{meets_it, misses_it}
use native.Mathlib.Omega.{arith}
use Rattle.sift.proofs.share.Goals as goal

pub returns-then-eval-symbol : goal.returns-then-eval-symbol
returns-then-eval-symbol c =
    let f = c.args.field in
    let z : Triple ℕ = record { point = c.args.point; symbol = c.args.symbol; times = c.args.times } in
    (simp (meets_it f.q f.is_modulus c.args.message.now z (sym c.eval.ensures ∙ c.if-eval-symbol.true)) c.from.ensures, omega arith)

pub returns-else-eval-symbol : goal.returns-else-eval-symbol
returns-else-eval-symbol c =
    let f = c.args.field in
    let z : Triple ℕ = record { point = c.args.point; symbol = c.args.symbol; times = c.args.times } in
    (simp (misses_it f.q f.is_modulus c.args.message.now z c.requires (λ e. c.if-eval-symbol.false (c.eval.ensures ∙ e))), omega arith)
