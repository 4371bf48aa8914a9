-- told: the line is the report, and what is held is kept.
use Rattle.std.proofs.Common.{refl, ap, arith, rules, ◌∷◌, [], ℕ}
use Rattle.rules.specs.Patch.{digits, line, report}
use Rattle.text.proofs.Written.{wrote_first, wrote_as}
use Rattle.kinds.specs.Did.{Did}
use Rattle.kinds.proofs.Turns.{did_in}
use Rattle.kinds.proofs.told.Goals as goal

pub returns : goal.returns
unfolding report
returns c =
    let w = c.numbered_line.ensures in
    let l = c.new-lines.ensures in
    let did : Did _ _ c.numbered_line.new.self.out.now _ = record {
      held = c.requires.0;
      text = wrote_as (wrote_first l.out l.none w.1) (ap (λ (n : ℕ). line (digits c.args.number) (c.args.kind ∷ n ∷ [])) c.number_of.ensures);
      more = refl;
      within = omega (arith, w.0, l.none);
    } in
    did_in did (search rules)
