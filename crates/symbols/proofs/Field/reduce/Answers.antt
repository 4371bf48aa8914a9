-- Field::reduce: one subtraction of q is enough, since the quotient is at most one too low.
use Rattle.std.proofs.Common.{arith}
use Rattle.prime.proofs.Below.{modulus_two}
use Rattle.symbols.proofs.Quotient.{low, once, none}
use Rattle.symbols.proofs.Field.reduce.Goals as goal

pub overflow_sub-rest : goal.overflow_sub-rest
overflow_sub-rest c =
    let f = c.args.self in
    rw (c.from.ensures, c.from-2.ensures, c.from-q.ensures) (low _ f.q _ (modulus_two f.q f.is_modulus) f.is_reciprocal c.ranges.x.fits)

pub overflow_cast-result : goal.overflow_cast-result
overflow_cast-result c =
    let f = c.args.self in
    let h = once _ f.q _ (modulus_two f.q f.is_modulus) f.is_reciprocal c.ranges.x.fits (rw (c.from.ensures, c.from-2.ensures, c.from-q.ensures) at c.if-rest-q.true) in
    rw (c.from.ensures, c.from-2.ensures, c.from-q.ensures) (omega arith)

pub returns-then-rest-q : goal.returns-then-rest-q
returns-then-rest-q c =
    let f = c.args.self in
    rw (c.from.ensures, c.from-2.ensures, c.from-q.ensures)
    (once _ f.q _ (modulus_two f.q f.is_modulus) f.is_reciprocal c.ranges.x.fits (rw (c.from.ensures, c.from-2.ensures, c.from-q.ensures) at c.if-rest-q.true)).1

pub returns-else-rest-q : goal.returns-else-rest-q
returns-else-rest-q c =
    let f = c.args.self in
    rw (c.from.ensures, c.from-2.ensures, c.from-q.ensures)
    (none _ f.q _ (modulus_two f.q f.is_modulus) f.is_reciprocal c.ranges.x.fits (rw (c.from.ensures, c.from-2.ensures, c.from-q.ensures) at c.if-rest-q.false))
