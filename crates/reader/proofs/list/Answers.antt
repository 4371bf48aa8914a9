-- list: what the setting is refused for decides, then what the slices and the rooms are, then whether the curve passes.
-- Where it does, its roots that score enough are listed.
use mathlib.Core.Path.{refl}
use Rattle.causes.proofs.Number.{passed_on}
use Rattle.setting.specs.Call.{asked}
use Rattle.reader.proofs.Front.{length_front}
use Rattle.reader.proofs.Settled.{checkable}
use Rattle.reader.proofs.Listing.{ListTested, list_unsettled, list_tested, list_refused, list_fails, listable, list_accepted}
use Rattle.reader.proofs.list.Goals as goal
use Rattle.reader.proofs.list.Goals.{In_ok-of_listing}

-- where 5 to 8 do not apply
known : (c : In_ok-of_listing)
    → ListTested (asked c.args.setting) c.in_ok-terms.terms c.args.points.now c.args.word.now c.args.curve.now c.args.output.now c.args.work.now 0
known c = list_tested _ _ _ _ _ c.in_ok-terms.ensures c.any_short-short.ensures c.in_ok-of_listing.ensures

pub returns-in_err-terms : goal.returns-in_err-terms
returns-in_err-terms c = list_unsettled _ _ _ _ _ (passed_on _ c.from_residual.ensures.1) c.in_err-terms.ensures

pub returns-in_err-of_listing : goal.returns-in_err-of_listing
returns-in_err-of_listing c =
    list_refused _ _ _ _ _ (passed_on _ c.from_residual-in_err-of_listing.ensures.1)
    (list_tested _ _ _ _ _ c.in_ok-terms.ensures c.any_short-short.ensures c.in_err-of_listing.ensures)

pub fits-requires : goal.fits-requires
fits-requires c = let h = known (goal.at.fits-requires c).In_ok-of_listing in checkable h.settled (h.granted refl).given

pub returns-then-not-fits : goal.returns-then-not-fits
returns-then-not-fits c = list_fails (known (goal.at.returns-then-not-fits c).In_ok-of_listing) c.fits.ensures c.if-not-fits.true

pub slice_bounds-list-end : goal.slice_bounds-list-end
slice_bounds-list-end c = ((known (goal.at.slice_bounds-list-end c).In_ok-of_listing).granted refl).work_fits

pub slice_bounds-list-end-2 : goal.slice_bounds-list-end-2
slice_bounds-list-end-2 c = length_front _ _ ((known (goal.at.slice_bounds-list-end-2 c).In_ok-of_listing).granted refl).work_fits

pub list-requires : goal.list-requires
list-requires c = listable (known (goal.at.list-requires c).In_ok-of_listing) c.fits.ensures c.if-not-fits.false

pub returns : goal.returns
returns c = list_accepted (known (goal.at.returns c).In_ok-of_listing) c.fits.ensures c.if-not-fits.false c.list.ensures
