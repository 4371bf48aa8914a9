-- What a caller of `derive` learns from its contract: the refusal is the definition's, and where there is none the setting is accepted and the numbers are its own.
use mathlib.Core.Path.{◌≡◌, refl, ap, sym, ◌∙◌}
use mathlib.Core.Bool.{Bool, true, false, cond}
use Prim.Native.Nat.{ℕ}
use lib.Dec.{eqb}
use borrow.Author.Tests.{eqb-true, eq-eqb}
use Rattle.rules.specs.Setting.{Setting, W, ℓ, C, U, R}
use Rattle.rules.specs.Refusal.{setting_refusal}
use Rattle.rules.specs.Outcome.{Derived as Outcome, setting_call}
use Rattle.std.specs.Prelude.{Result, Ok, Err}
use Rattle.causes.specs.declared.Refusal.{Refusal}
use Rattle.causes.specs.Number.{refused}
use Rattle.setting.specs.declared.Derived.{Derived}
use Rattle.setting.specs.Call.{outcome, refusing}
use Rattle.setting.specs.Accepted.{Taken}
use Rattle.setting.proofs.Accepted.{accepted}

number_kept : (m : ℕ) (o : Outcome) → o.refusal ≡ 0 → (cond (eqb m 0) o (refusing m)).refusal ≡ m
number_kept m o e = go (eqb m 0) refl
  where
    go : (b : Bool) → eqb m 0 ≡ b → (cond b o (refusing m)).refusal ≡ m
    go true t = e ∙ sym (eqb-true m 0 t)
    go false t = refl

module _ (S : Setting) where
  pub refusal_is : (r : Result Derived Refusal) → outcome r ≡ setting_call S → refused r ≡ setting_refusal S
  unfolding setting_call
  refusal_is r e = told r ∙ ap (λ (o : Outcome). o.refusal) e ∙ number_kept (setting_refusal S) _ refl
    where
      told : (r : Result Derived Refusal) → refused r ≡ (outcome r).refusal
      told (Ok d) = refl
      told (Err cause) = refl

  pub taken : (d : Derived) → outcome (Ok d) ≡ setting_call S → Taken S d
  unfolding setting_call
  taken d e =
      let none : setting_refusal S ≡ 0 = sym (refusal_is (Ok d) e) in
      let own : outcome (Ok d) ≡ record { refusal = 0; W = W S; ℓ = ℓ S; C = C S; U = U S; R = R S } = e ∙ simp (eq-eqb (setting_refusal S) 0 none) in
      record {
        accepted = accepted S none;
        is_W = ap (λ (o : Outcome). o.W) own;
        is_ℓ = ap (λ (o : Outcome). o.ℓ) own;
        is_C = ap (λ (o : Outcome). o.C) own;
        is_U = ap (λ (o : Outcome). o.U) own;
        is_R = ap (λ (o : Outcome). o.R) own;
      }
