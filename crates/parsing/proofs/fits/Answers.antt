-- fits: between the bounds the last test decides.
use Rattle.std.proofs.Common.{◌∙◌, rules}
use Rattle.parsing.proofs.Shape.{outside, even_fits}
use Rattle.parsing.proofs.fits.Goals as goal

pub returns-then-contains : goal.returns-then-contains
returns-then-contains c = even_fits c.args.n (search rules) (search rules)

pub returns-else-contains : goal.returns-else-contains
returns-else-contains c = c.if-contains.false ∙ outside c.args.n (search rules)
