-- lengthen: the slot is copied to the spare, stepped there, and stripped into the slot after it.
use Rattle.std.proofs.lemmas.Grind.{common_steps}
use native.Mathlib.Omega.{arith}
use Rattle.lengthening.proofs.Lengthened.{lengthened}
use Rattle.lengthening.proofs.lengthen.Goals as goal

pub returns : goal.returns
returns c =
    let x = c.args in
    let p = c.requires in
    lengthened x.rows.field.q x.rows.field.is_modulus x.g p.0 x.rows.w x.rows.l x.a x.rows.wide _ _ _ _ p.1 p.2 p.3 (grind (arith, common_steps))
    c.substitute.ensures (rw c.size-size.ensures at c.strip.ensures)
