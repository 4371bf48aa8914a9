-- new: every curve leads with its first column, which fits.
use Rattle.condition.proofs.Start.{nils_fit}
use Rattle.condition.proofs.Basis.new.Goals as goal

pub invariant_of-result-clause-fit : goal.invariant_of-result-clause-fit
invariant_of-result-clause-fit c = nils_fit c.args.shape.shaped
