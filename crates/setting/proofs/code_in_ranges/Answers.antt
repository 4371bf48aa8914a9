-- `code_in_ranges` is the definition's test, by way of two ranges.
use Rattle.std.proofs.Common.{rules}
use Rattle.setting.proofs.Tests.{coded_both, not_coded}
use Rattle.setting.proofs.code_in_ranges.Goals as goal

pub returns-then-contains : goal.returns-then-contains
returns-then-contains c = coded_both c.args.n c.args.k {a = c.contains.result} (search rules) (search rules) c.if-contains.true

pub returns-else-contains : goal.returns-else-contains
returns-else-contains c = not_coded c.args.n c.args.k (search rules) c.if-contains.false
