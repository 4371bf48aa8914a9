-- read_held: the reading call refuses nothing but the word, since the rest was accepted before; its list is the readings.
use Rattle.std.proofs.Common.{arith}
use Rattle.causes.proofs.Number.{passed_on}
use Rattle.bodies.specs.Setting.{setting_of}
use Rattle.bodies.proofs.Hearing.{known, heard}
use Rattle.bodies.proofs.read_held.Goals as goal

pub returns-in_err-tally-clause-heard : goal.returns-in_err-tally-clause-heard
returns-in_err-tally-clause-heard c =
    let k = known (setting_of c.args.setting) c.args.points.now c.requires.0 c.requires.1 in
    rw (passed_on _ c.from_residual.ensures.1) (heard _ _ _ k _ _ _ _ c.in_err-tally.ensures (omega arith) (omega arith) (omega arith) (omega arith))

pub returns-clause-heard : goal.returns-clause-heard
returns-clause-heard c =
    let k = known (setting_of c.args.setting) c.args.points.now c.requires.0 c.requires.1 in
    heard _ _ _ k _ _ _ _ c.in_ok-tally.ensures (omega arith) (omega arith) (omega arith) (omega arith)
