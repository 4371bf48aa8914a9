-- read_all: what the turns went through, Runs.antt says of each of them.
use mathlib.Core.Path.{◌≡◌, ap, subst}
use mathlib.Core.Bool.{not}
use native.Mathlib.Omega.{arith}
use borrow.Author.Tests.{not-true, not-false}
use Rattle.rules.specs.Patch.{nothing}
use Rattle.kinds.specs.Holding.{possible}
use Rattle.kinds.proofs.Holding.{sound}
use Rattle.records.specs.declared.Held.{Held}
use Rattle.patch.specs.Completed.{Completed}
use Rattle.patch.proofs.Runs.{last, before, not_full, went_sound, went_turns}
use Rattle.patch.proofs.read_all.Goals as goal

pub loop-held-init : goal.loop-held-init
unfolding possible
loop-held-init c =
    let is = c.start-held.ensures in
    let none : c.start-held.result.turns ≡ 0 = ap (λ (h : Held). h.turns) is in record {
      sound = sound nothing (ap (λ (h : Held). h.stock) is) tt;
      counted = omega arith;
      completes = λ l. subst (λ h. Completed h l) is;
    }

pub returns-then-not-left : goal.returns-then-not-left
returns-then-not-left c = c.loop-held.invariant.completes _ (last c.in_ok-left.ensures (not-true _ c.if-not-left.true))

pub loop-held-preserved : goal.loop-held-preserved
loop-held-preserved c =
    let inv = c.loop-held.invariant in
    let went = c.in_ok-left.ensures in record {
      sound = went_sound went;
      counted = omega (arith, went_turns went, not_full c.is_full.ensures (ap not c.loop-held-test.true) inv.counted);
      completes = λ l done. inv.completes l (before went (not-false _ c.if-not-left.false) done);
    }
