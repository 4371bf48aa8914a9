-- value: the goals that the search leaves, by the lemmas of Rows and Pairing.
use mathlib.Core.Path.{◌∙◌}
use native.Mathlib.Omega.{arith}
use Rattle.weights.proofs.Pairing.{row_inside, pairing_none, pairing_more, pairing_all}
use Rattle.weights.proofs.value.Goals as goal

pub loop-t-init : goal.loop-t-init
loop-t-init c =
    let x = c.args in
    let shape = x.curve.shape in
    pairing_none shape.field.q shape.k shape.w x.x.now x.y.now x.curve.numbers.now

pub loop-t-preserved : goal.loop-t-preserved
loop-t-preserved c =
    let x = c.args in
    let shape = x.curve.shape in
    let l = c.loop-t in
    let h = row_inside shape.k shape.w shape.l l.t shape.shaped.fits (omega arith) in
    c.mul_add-sum.ensures
    ∙ pairing_more shape.field.q shape.k shape.w x.x.now x.y.now x.curve.numbers.now l.t c.row-n.ensures (omega arith) (omega arith) l.invariant c.dot-part.ensures

pub returns : goal.returns
returns c =
    let x = c.args in
    let shape = x.curve.shape in
    c.loop-t.invariant ∙ pairing_all shape.field.q shape.k shape.w x.x.now x.y.now x.curve.numbers.now _ shape.l (omega arith)
