-- by_kind: the end of the input and refusal 10 first, and then by the kind.
use Rattle.std.proofs.Common.{refl, sym, ◌∙◌, arith, rules}
use Rattle.rules.specs.Patch.{kind}
use Rattle.parsing.proofs.Shape.{whole_long, whole_five}
use Rattle.text.proofs.Written.{wrote_none}
use Rattle.kinds.proofs.Turns.{did_as}
use Rattle.records.proofs.Steps.{turn_end, turn_broken, turn_setting, turn_points, turn_word, turn_other}
use Rattle.records.proofs.by_kind.Goals as goal

pub returns-then-is_empty-clause-did : goal.returns-then-is_empty-clause-did
returns-then-is_empty-clause-did c =
    did_as (record { held = c.requires.0.clean; text = wrote_none _ _; more = refl; within = omega arith }) (turn_end _ _ _ (search rules))

pub returns-then-is_broken-clause-did : goal.returns-then-is_broken-clause-did
returns-then-is_broken-clause-did c = did_as c.told.ensures (turn_broken _ _ _ (search rules) (sym c.is_broken.ensures ∙ c.if-is_broken.true))

pub invariant_of-given-clause-whole : goal.invariant_of-given-clause-whole
invariant_of-given-clause-whole c =
    let w = whole_long c.args.bytes.now (sym c.is_broken.ensures ∙ c.if-is_broken.false) in omega arith

pub take_setting-requires : goal.take_setting-requires
unfolding kind
take_setting-requires c =
    let whole = sym c.is_broken.ensures ∙ c.if-is_broken.false in
    let w = whole_long c.args.bytes.now whole in
    let f = whole_five c.args.bytes.now whole (sym c.kind.ensures ∙ c.in-1.is) in
    (omega arith, c.requires.2)

pub returns-in-1-clause-did : goal.returns-in-1-clause-did
returns-in-1-clause-did c =
    did_as c.take_setting.ensures
    (turn_setting _ _ _ (search rules) (sym c.is_broken.ensures ∙ c.if-is_broken.false) c.kind.ensures c.in-1.is)

pub returns-in-2-clause-did : goal.returns-in-2-clause-did
returns-in-2-clause-did c =
    did_as c.take_points.ensures
    (turn_points _ _ _ (search rules) (sym c.is_broken.ensures ∙ c.if-is_broken.false) c.kind.ensures c.in-2.is)

pub returns-in-3-clause-did : goal.returns-in-3-clause-did
returns-in-3-clause-did c =
    did_as c.take_word.ensures.did
    (turn_word _ _ _ (search rules) (sym c.is_broken.ensures ∙ c.if-is_broken.false) c.kind.ensures c.in-3.is)

pub returns-in_default-clause-did : goal.returns-in_default-clause-did
returns-in_default-clause-did c = did_as c.told-in_default.ensures
    (turn_other _ _ _ (search rules) (sym c.is_broken.ensures ∙ c.if-is_broken.false) c.kind.ensures (search rules) (search rules) (search rules))
