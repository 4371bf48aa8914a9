-- sweep: the goals that the search leaves, by the lemmas of Rows and Swept.
use mathlib.Core.Path.{◌≡◌, ◌∙◌, ap}
use Prim.Native.Nat.{ℕ, ◌+◌, ◌*◌, ◌<◌}
use lib.ListN.{get_or, take}
use lib.Seq.{get_or-take, length-take-le}
use Rattle.buffers.proofs.Rows.{row_fits}
use Rattle.rules.specs.Field.{times}
use Rattle.slots.specs.Slot.{slot}
use Rattle.slots.proofs.Swept.{slots_apart, swept_skip, swept_more}
use native.Mathlib.Omega.{arith}
use Rattle.slots.proofs.sweep.Goals as goal
use Rattle.slots.proofs.sweep.Goals.{then-v-ne0, else-v-ne0}

pub reduce-requires : goal.reduce-requires
reduce-requires c =
    let a = c.args in
    let o = c.loop-j in
    let s = slot a.shape.w a.shape.l in
    let u : o.j < a.shape.l + 1 = omega (arith, length-take-le (a.shape.l + 1) a.values.now (omega arith)) in
    let n : ¬ (o.j ≡ a.p) = λ z. c.if-v-ne0.true (get_or-take (a.shape.l + 1) a.values.now o.j 0 u ∙ ap (λ (j : ℕ). get_or a.values.now j 0) z ∙ c.requires.2) in
    let f = row_fits {t = a.p} {n = a.shape.l + 1} s (omega arith) in
    let g = row_fits {t = o.j} {n = a.shape.l + 1} s u in
    rw c.size-size.ensures (slots_apart s n, omega (arith, o.invariant.len), omega (arith, o.invariant.len))

pub loop-j-preserved : goal.loop-j-preserved
loop-j-preserved c =
    let a = c.args in
    let o = c.loop-j in
    let u : o.j < a.shape.l + 1 = omega (arith, length-take-le (a.shape.l + 1) a.values.now (omega arith)) in
    let v : get_or (take (a.shape.l + 1) a.values.now) o.j 0 ≡ get_or a.values.now o.j 0 = get_or-take (a.shape.l + 1) a.values.now o.j 0 u in
    elim c.if-v-ne0.branch [
      | then-v-ne0 w ↦ rw w.work-is (swept_more _ _ _ _ _ _ _ _ o.invariant _ (ap (λ (x : ℕ). a.p * x) c.size-size.ensures) (ap (λ (x : ℕ). o.j * x) c.size-size.ensures) c.requires.2
          (rw v at w.if-v-ne0.true) (rw v at w.mul-c.ensures ∙ ap (times a.shape.field.q (get_or a.values.now o.j 0)) c.sub-less.ensures) w.reduce.ensures)
      | else-v-ne0 w ↦ rw w.work-is (swept_skip _ _ _ _ _ _ _ _ o.invariant (rw v at w.if-v-ne0.false))
    ]

pub returns : goal.returns
returns c =
    let o = c.loop-j in
    let a = c.args in
    let z : o.j ≡ a.shape.l + 1 = omega (arith, length-take-le (a.shape.l + 1) a.values.now (omega arith)) in
    rw z at o.invariant
