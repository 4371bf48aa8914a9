-- is_clear: each row is asked.
use mathlib.Core.Path.{refl}
use Rattle.std.proofs.Common.{rules, tests, arith, ◌+◌, ◌*◌, ◌≤◌}
use Rattle.buffers.proofs.Rows.{row_fits}
use Rattle.std.proofs.lemmas.Iterator.{YieldsList-from_range, cases_from_all, serves_from_Range}
use Rattle.lengthening.proofs.Columns.{Zero, tells}
use Rattle.lengthening.proofs.is_clear.Goals as goal

pub all-requires-clause-callable : goal.all-requires-clause-callable
all-requires-clause-callable c =
    serves_from_Range (λ t q k. search rules)
    (λ t low high. let f : t * c.args.w + c.args.w ≤ (c.args.l + 1) * c.args.w = row_fits c.args.w high in grind arith)

pub returns : goal.returns
returns c =
    let x = c.args in
    tells x.w x.l x.i x.work.now _ (cases_from_all _ _ _ (Zero x.w x.l x.i x.work.now) (λ t. ¬ Zero x.w x.l x.i x.work.now t) c.all.ensures.ran
    (YieldsList-from_range 0 (x.l + 1) (x.l + 1) refl (omega arith)) (λ t q k. search (rules, tests)) (λ t q k. search (rules, tests)))
