-- is_modulus: outside 2 to 929 there is no prime that names a field, and within it the trial division decides.
use Rattle.std.proofs.Common.{rules, tests, ◌*◌, ◌%◌, not, eqb, leb, ◌∙◌, refl}
use Rattle.std.proofs.lemmas.Iterator.{YieldsList-from_range}
use Rattle.std.proofs.lemmas.Iterator.Search.{all_from_yields_List, YieldsList-from_take_while}
use Rattle.field.proofs.Modulus.{trial, outside}
use native.Mathlib.Omega.{arith}
use Rattle.field.proofs.is_modulus.Goals as goal

pub returns-then-contains : goal.returns-then-contains
returns-then-contains c =
    let p = c.args.p in
    all_from_yields_List (λ d. not (eqb (p % d) 0)) _ _ _ c.all.ensures.ran
    (YieldsList-from_take_while _ (λ d. leb (d * d) p) (YieldsList-from_range 2 31 29 c.take_while.ensures.source refl) c.take_while.ensures.closure c.take_while.ensures.done (λ x b q k. search (rules, tests)))
    (λ x b q k. search (rules, tests))
    ∙ trial (search rules) (search rules) 2 29 refl (omega arith) (λ k lt l. absurd (omega arith))

pub returns-else-contains : goal.returns-else-contains
returns-else-contains c = c.if-contains.false ∙ outside (search rules)
