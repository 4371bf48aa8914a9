-- check: what the setting is refused for decides, then what the slices are, and then whether the curve passes.
use mathlib.Core.Path.{refl}
use Rattle.causes.proofs.Number.{passed_on}
use Rattle.setting.specs.Call.{asked}
use Rattle.reader.proofs.Settled.{checkable}
use Rattle.reader.proofs.Checking.{CheckTested, check_unsettled, check_tested, check_refused, check_accepted}
use Rattle.reader.proofs.check.Goals as goal
use Rattle.reader.proofs.check.Goals.{In_ok-of_proposed}

-- where nothing was refused
known : (c : In_ok-of_proposed) → CheckTested (asked c.args.setting) c.in_ok-terms.terms c.args.points.now c.args.word.now c.args.curve.now 0
known c = check_tested _ _ _ c.in_ok-terms.ensures c.in_ok-of_proposed.ensures

pub returns-in_err-terms : goal.returns-in_err-terms
returns-in_err-terms c = check_unsettled _ _ _ (passed_on _ c.from_residual.ensures.1) c.in_err-terms.ensures

pub returns-in_err-of_proposed : goal.returns-in_err-of_proposed
returns-in_err-of_proposed c =
    check_refused (passed_on _ c.from_residual-in_err-of_proposed.ensures.1)
    (check_tested _ _ _ c.in_ok-terms.ensures c.in_err-of_proposed.ensures)

pub fits-requires : goal.fits-requires
fits-requires c = let h = known (goal.at.fits-requires c).In_ok-of_proposed in checkable h.settled (h.granted refl)

pub returns : goal.returns
returns c = check_accepted (known (goal.at.returns c).In_ok-of_proposed) c.fits.ensures
