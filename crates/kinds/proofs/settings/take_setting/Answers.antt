-- take_setting: a refused setting leaves nothing held.
use Rattle.std.proofs.Common.{ap}
use Rattle.causes.specs.Number.{refused}
use Rattle.kinds.proofs.Holding.{nothing_clean, set_clean}
use Rattle.kinds.proofs.Turns.{told_did, some_number, set_taken, set_refused}
use Rattle.kinds.proofs.settings.take_setting.Goals as goal
use Rattle.kinds.proofs.settings.take_setting.Goals.{in-Ok, in-Err}

pub told-requires : goal.told-requires
told-requires c = elim c.match-refusal.branch [
  | in-Ok w ↦ (rw w.stock-is (set_clean _), c.requires.1)
  | in-Err w ↦ (rw w.stock-is nothing_clean, c.requires.1)
]

pub returns : goal.returns
returns c =
    let is = c.read_setting-setting.ensures in
    let e = c.setting_refusal-refusal.ensures in
    elim c.match-refusal.branch [
      | in-Ok w ↦ told_did _ 1 _ w.stock-is (set_taken _ _ is e (ap refused w.in-Ok.is)) c.told.ensures
      | in-Err w ↦ told_did _ 1 _ w.stock-is (set_refused _ _ is e (some_number w.in-Err.is)) c.told.ensures
    ]
