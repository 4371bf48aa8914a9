-- encode: what it refuses decides, and the patch is written at the front of the output.
use mathlib.Core.Path.{◌∙◌}
use native.Mathlib.Omega.{arith}
use lib.ListN.{length}
use Rattle.prime.proofs.Below.{modulus_small}
use Rattle.causes.proofs.Number.{passed_on}
use Rattle.reader.proofs.Front.{length_front}
use Rattle.reader.proofs.Encoding.{Encodes, encodes, encode_refused, encode_accepted}
use Rattle.reader.proofs.encode.Goals as goal
use Rattle.reader.proofs.encode.Goals.{In_ok-of_encode}

-- where nothing was refused
known : (c : In_ok-of_encode) → Encodes c.args.p c.args.n c.args.k c.args.points.now c.args.message.now (length c.args.output.now)
known c = encodes _ _ _ _ _ _ c.in_ok-of_encode.ensures

pub returns-in_err-of_encode : goal.returns-in_err-of_encode
returns-in_err-of_encode c = encode_refused _ _ _ _ _ _ (passed_on _ c.from_residual.ensures.1) c.in_err-of_encode.ensures

pub overflow_cast-p : goal.overflow_cast-p
overflow_cast-p c = omega (arith, modulus_small _ (known (goal.at.overflow_cast-p c).In_ok-of_encode).field)

pub new-requires : goal.new-requires
new-requires c = (known (goal.at.new-requires c).In_ok-of_encode).field

pub slice_bounds-write_patch-end : goal.slice_bounds-write_patch-end
slice_bounds-write_patch-end c = (known (goal.at.slice_bounds-write_patch-end c).In_ok-of_encode).fits

pub slice_bounds-write_patch-end-2 : goal.slice_bounds-write_patch-end-2
slice_bounds-write_patch-end-2 c = length_front _ _ (known (goal.at.slice_bounds-write_patch-end-2 c).In_ok-of_encode).fits

pub write_patch-requires : goal.write_patch-requires
write_patch-requires c =
    let h = known (goal.at.write_patch-requires c).In_ok-of_encode in
    h.given.points_long ∙ length_front _ _ h.fits

pub returns : goal.returns
returns c =
    encode_accepted _ _ _ _ _ _ {A = Unit {0}} tt c.in_ok-of_encode.ensures (rw (← c.new.ensures) c.write_patch.ensures)
    (known (goal.at.returns c).In_ok-of_encode).given.points_long
