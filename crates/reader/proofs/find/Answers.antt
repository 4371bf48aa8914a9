-- find: what the setting is refused for decides, then what the slices and the rooms are; and a curve of symbols that passes is left.
use mathlib.Core.Path.{refl}
use Rattle.causes.proofs.Number.{passed_on}
use Rattle.setting.specs.Call.{asked}
use Rattle.reader.proofs.Front.{length_front}
use Rattle.reader.proofs.Finding.{FindTested, find_unsettled, find_tested, find_refused, findable, find_accepted}
use Rattle.reader.proofs.find.Goals as goal
use Rattle.reader.proofs.find.Goals.{In_ok-of_word}

-- where nothing was refused
known : (c : In_ok-of_word) → FindTested (asked c.args.setting) c.in_ok-terms.terms c.args.points.now c.args.word.now c.args.curve.now c.args.work.now 0
known c = find_tested _ _ _ _ c.in_ok-terms.ensures c.any_short-short.ensures c.in_ok-of_word.ensures

pub returns-in_err-terms : goal.returns-in_err-terms
returns-in_err-terms c = find_unsettled _ _ _ _ (passed_on _ c.from_residual.ensures.1) c.in_err-terms.ensures

pub returns-in_err-of_word : goal.returns-in_err-of_word
returns-in_err-of_word c =
    find_refused _ _ _ _ (passed_on _ c.from_residual-in_err-of_word.ensures.1)
    (find_tested _ _ _ _ c.in_ok-terms.ensures c.any_short-short.ensures c.in_err-of_word.ensures)

pub slice_bounds-find-end : goal.slice_bounds-find-end
slice_bounds-find-end c = ((known (goal.at.slice_bounds-find-end c).In_ok-of_word).granted refl).curve_fits

pub slice_bounds-find-end-2 : goal.slice_bounds-find-end-2
slice_bounds-find-end-2 c = length_front _ _ ((known (goal.at.slice_bounds-find-end-2 c).In_ok-of_word).granted refl).curve_fits

pub slice_bounds-find-end-3 : goal.slice_bounds-find-end-3
slice_bounds-find-end-3 c = ((known (goal.at.slice_bounds-find-end-3 c).In_ok-of_word).granted refl).work_fits

pub slice_bounds-find-end-4 : goal.slice_bounds-find-end-4
slice_bounds-find-end-4 c = length_front _ _ ((known (goal.at.slice_bounds-find-end-4 c).In_ok-of_word).granted refl).work_fits

pub find-requires : goal.find-requires
find-requires c = findable (known (goal.at.find-requires c).In_ok-of_word)

pub returns : goal.returns
returns c = find_accepted (known (goal.at.returns c).In_ok-of_word) {A = Unit {0}} tt c.find.ensures
