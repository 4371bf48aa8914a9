-- meet: what is said of any weights holds of those made here.
use Rattle.triple.proofs.meet.Goals as goal

pub returns-clause-grown : goal.returns-clause-grown
returns-clause-grown c = c.by_weights.ensures.grown c.args.symbol c.weigh_all.ensures c.weigh_all-2.ensures
