-- step: what the turn leaves can be held, and has the number of the turn.
use Rattle.std.proofs.Common.{refl}
use Rattle.kinds.proofs.Holding.{sound}
use Rattle.records.proofs.Steps.{turn_possible}
use Rattle.records.proofs.step.Goals as goal

pub returns-clause-stepped : goal.returns-clause-stepped
returns-clause-stepped c =
    let did = c.by_kind-turned.ensures.did in
    record { sound = sound _ did.held (turn_possible _ _ _ c.requires.0.accepted); counted = refl; did = did }
