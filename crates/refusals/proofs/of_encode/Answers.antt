-- of_encode: the first test that fails is the cause of its number; what points, message and room are refused for comes behind.
use mathlib.Core.Path.{sym, ◌∙◌}
use Rattle.rules.proofs.Given.{point_named}
use Rattle.causes.proofs.Number.{passed_on}
use Rattle.refusals.proofs.Rooms.{refused_before, eight_behind}
use Rattle.refusals.proofs.Encoding.{encode_refuses_1, encode_refuses_2, encode_rest}
use Rattle.refusals.proofs.of_encode.Goals as goal

pub returns-then-not-is_modulus : goal.returns-then-not-is_modulus
returns-then-not-is_modulus c = encode_refuses_1 _ _ _ _ _ _ (sym c.is_modulus.ensures ∙ c.if-not-is_modulus.true)

pub returns-then-not-code_in_ranges : goal.returns-then-not-code_in_ranges
returns-then-not-code_in_ranges c =
    encode_refuses_2 _ _ _ _ _ _ (sym c.is_modulus.ensures ∙ c.if-not-is_modulus.false)
    (sym c.code_in_ranges.ensures ∙ c.if-not-code_in_ranges.true)

pub returns-in_err-of_pair : goal.returns-in_err-of_pair
returns-in_err-of_pair c =
    refused_before _ _ (passed_on _ c.from_residual.ensures.1) c.in_err-of_pair.ensures
    ∙ encode_rest _ _ _ _ _ _ (sym c.is_modulus.ensures ∙ c.if-not-is_modulus.false)
    (sym c.code_in_ranges.ensures ∙ c.if-not-code_in_ranges.false)

pub returns : goal.returns
returns c =
    eight_behind _ (point_named _ _ _ _) _ c.in_ok-of_pair.ensures c.of_rooms.ensures
    ∙ encode_rest _ _ _ _ _ _ (sym c.is_modulus.ensures ∙ c.if-not-is_modulus.false)
    (sym c.code_in_ranges.ensures ∙ c.if-not-code_in_ranges.false)
