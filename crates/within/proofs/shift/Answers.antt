-- shift: the run is copied one place on, and its first place is cleared.
use Rattle.std.proofs.Common.{◌+◌, ◌-◌, get_or, rules}
use Rattle.buffers.specs.Change.{Changed}
use Rattle.within.proofs.Read.{moved_on}
use Rattle.within.proofs.shift.Goals as goal

pub returns-then-n-gt0 : goal.returns-then-n-gt0
returns-then-n-gt0 c =
    let x = c.args in
    let copied : Changed (λ i. get_or x.work.now (x.b + i) 0) (x.b + 1) (x.n - 1) x.work.now c.copy_within.new.self = search rules in
    moved_on x.b x.n c.if-n-gt0.true c.requires copied
