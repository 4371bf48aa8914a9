-- of_setting: what the setting call derives fits, and is what the definitions name.
use mathlib.Core.Path.{◌≡◌, refl}
use Prim.Native.Nat.{◌+◌, ◌*◌}
use native.Mathlib.Omega.{arith}
use Rattle.std.specs.Prelude.{Ok, Err}
use Rattle.prime.proofs.Below.{modulus_small}
use Rattle.rules.specs.Setting.{Setting, curve_length}
use Rattle.causes.proofs.Number.{passed_on}
use Rattle.setting.specs.declared.Derived.{Derived}
use Rattle.setting.specs.Call.{asked}
use Rattle.setting.specs.Accepted.{Taken}
use Rattle.setting.proofs.Taken.{refusal_is, taken}
use Rattle.terms.proofs.Shaped.{shaped}
use Rattle.terms.proofs.of_setting.Goals as goal
use Rattle.terms.proofs.of_setting.Goals.{In_ok-derived}

-- where the setting is accepted
known : (c : In_ok-derived) → Taken (asked c.args.setting) c.in_ok-derived.derived
known c = taken (asked c.args.setting) c.in_ok-derived.derived c.in_ok-derived.ensures

size_is : {S : Setting} (d : Derived) → Taken S d → (d.l + 1) * d.w ≡ curve_length S
unfolding curve_length
size_is d h = rw (h.is_W, h.is_ℓ) refl

pub returns-in_err-derived : goal.returns-in_err-derived
returns-in_err-derived c =
    rw (passed_on _ c.from_residual.ensures.1)
    (record { refusal = refusal_is (asked c.args.setting) (Err c.in_err-derived.field-0.0) c.in_err-derived.ensures; settled = tt })

pub overflow_cast-setting : goal.overflow_cast-setting
overflow_cast-setting c =
    let h = known (goal.at.overflow_cast-setting c).In_ok-derived in
    omega (arith, modulus_small _ h.accepted.passed.prime)

pub new-requires : goal.new-requires
new-requires c = (known (goal.at.new-requires c).In_ok-derived).accepted.passed.prime

pub overflow_cast-result : goal.overflow_cast-result
overflow_cast-result c =
    let h = known (goal.at.overflow_cast-result c).In_ok-derived in
    omega (arith, h.accepted.passed.ranged.s_most)

pub overflow_add-result : goal.overflow_add-result
overflow_add-result c =
    let h = known (goal.at.overflow_add-result c).In_ok-derived in
    omega (arith, h.is_ℓ, h.accepted.passed.ℓ_most)

pub overflow_mul-result : goal.overflow_mul-result
overflow_mul-result c =
    let h = known (goal.at.overflow_mul-result c).In_ok-derived in
    omega (arith, size_is _ h, h.accepted.curve_most)

pub overflow_mul-result-2 : goal.overflow_mul-result-2
overflow_mul-result-2 c =
    let h = known (goal.at.overflow_mul-result-2 c).In_ok-derived in
    rw h.is_ℓ (omega (arith, h.accepted.output_most))

pub invariant_of-result : goal.invariant_of-result
invariant_of-result c =
    let h = known (goal.at.invariant_of-result c).In_ok-derived in
    record { shaped = rw (c.new.ensures, h.is_W, h.is_ℓ) (shaped h.accepted) }

pub returns : goal.returns
returns c =
    let h = known (goal.at.returns c).In_ok-derived in
    record {
      refusal = refusal_is (asked c.args.setting) (Ok c.in_ok-derived.derived) c.in_ok-derived.ensures;
      settled = record {
        accepted = h.accepted;
        is_p = c.new.ensures;
        is_k = refl;
        is_s = refl;
        is_W = h.is_W;
        is_ℓ = h.is_ℓ;
        is_size = size_is _ h;
        is_list = rw h.is_ℓ refl;
        is_R = h.is_R;
      };
    }
