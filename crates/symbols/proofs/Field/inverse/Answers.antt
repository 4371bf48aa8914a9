-- Field::inverse: what euclid finds is the only inverse.
use Rattle.std.proofs.Common.{arith}
use Rattle.symbols.proofs.Factors.{starts, found, none}
use Rattle.symbols.proofs.Field.inverse.Goals as goal

pub returns-then-a-eq0 : goal.returns-then-a-eq0
returns-then-a-eq0 c = none _ _ c.args.self.is_modulus c.requires c.if-a-eq0.true

pub euclid-requires : goal.euclid-requires
euclid-requires c = starts _ _ c.args.self.is_modulus c.requires (omega (arith, c.if-a-eq0.false))

pub returns : goal.returns
returns c = found _ _ c.args.self.is_modulus c.requires (omega (arith, c.if-a-eq0.false)) c.euclid.ensures
