-- Any two outcomes that the contract of a step allows are equal: every number of what is held, the bytes written, and whether the program goes on.
use mathlib.Core.Path.{◌≡◌, refl, sym, ◌∙◌}
use mathlib.Core.List.{List}
use Prim.Native.Nat.{ℕ}
use Rattle.records.specs.declared.Held.{Held}
use Rattle.records.specs.declared.Done.{Done}
use Rattle.records.specs.Stepped.{Stepped}

pub one_outcome : {held : Held} {bytes d e e' : List ℕ} {r r' : Done} → Stepped held bytes d e r → Stepped held bytes d e' r' →
    (r ≡ r') × (e ≡ e')
one_outcome {r = r} {r' = r'} h g =
    let turns = h.counted ∙ sym g.counted in
    let stock = h.did.held ∙ sym g.did.held in
    let wrote = h.did.text.next ∙ sym g.did.text.next in
    let more = h.did.more ∙ sym g.did.more in
    (rw (turns, stock, wrote, more) refl, h.did.text.out ∙ sym g.did.text.out)
