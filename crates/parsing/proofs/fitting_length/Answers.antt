-- fitting_length: the first number, if it is there and fits.
use Rattle.parsing.proofs.Shape.{none_stated, first_fitting}
use Rattle.parsing.proofs.fitting_length.Goals as goal

pub returns-then-bytes-lt2 : goal.returns-then-bytes-lt2
returns-then-bytes-lt2 c = none_stated _ c.if-bytes-lt2.true

pub returns : goal.returns
returns c = rw c.then_some.ensures (first_fitting _ _ c.pair-n.ensures c.fits.ensures)
