-- The end of write_patch: j is the number of points then.
use Rattle.std.proofs.Common.{arith}
use Rattle.writing.proofs.Patch.{patch_is}
use Rattle.writing.proofs.write_patch.Goals as goal

pub returns : goal.returns
returns c = patch_is c.args.field.q c.args.points.now c.args.message.now c.loop-j.j c.loop-j.invariant (omega arith) c.requires
