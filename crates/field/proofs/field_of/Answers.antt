-- field_of: each test that fails is the cause of its number.
use mathlib.Core.Path.{sym, ◌∙◌}
use native.Mathlib.Omega.{arith}
use Rattle.prime.proofs.Below.{modulus_small}
use Rattle.field.proofs.Refuses.{refuses_modulus, refuses_first, refuses_second, refuses_none, accepted}
use Rattle.field.proofs.field_of.Goals as goal
use Rattle.field.proofs.field_of.Goals.{then-from-p-via-then-from-p, then-from-p-via-else-from-p+then-from-p-2}

pub returns-then-not-is_modulus-clause-number : goal.returns-then-not-is_modulus-clause-number
returns-then-not-is_modulus-clause-number c = refuses_modulus _ _ _ (sym c.is_modulus.ensures ∙ c.if-not-is_modulus.true)

pub returns-then-from-p-clause-number : goal.returns-then-from-p-clause-number
returns-then-from-p-clause-number c =
    let prime = sym c.is_modulus.ensures ∙ c.if-not-is_modulus.false in
    elim c.then-from-p.branch [
      | then-from-p-via-then-from-p w ↦ refuses_first _ _ _ prime (omega arith)
      | then-from-p-via-else-from-p+then-from-p-2 w ↦ refuses_second _ _ _ prime (omega arith) (omega arith)
    ]

pub overflow_cast-p : goal.overflow_cast-p
overflow_cast-p c =
    let none = refuses_none c.args.p c.args.a c.args.b (sym c.is_modulus.ensures ∙ c.if-not-is_modulus.false) (omega arith) (omega arith) in
    omega (arith, modulus_small c.args.p (accepted _ _ _ none).field)

pub returns-clause-number : goal.returns-clause-number
returns-clause-number c = refuses_none _ _ _ (sym c.is_modulus.ensures ∙ c.if-not-is_modulus.false) (omega arith) (omega arith)
