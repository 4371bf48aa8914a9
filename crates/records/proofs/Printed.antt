-- Taking the records of an input by step, from the start, writes what crate rules says is printed.
use mathlib.Core.Path.{◌≡◌, refl, sym, ap, ap₂, ◌∙◌}
use mathlib.Core.Bool.{Bool, true, false, cond}
use mathlib.Core.List.{List, [], ◌∷◌, ◌++◌, flat_map}
use Prim.Native.Nat.{ℕ, zero, suc, ◌+◌, ◌<◌, ◌≤◌}
use native.Mathlib.Omega.{arith}
use lib.ListN.{length, take, drop, replicate, length-take, length-drop, length-replicate}
use lib.Seq.{sets, sets-eq, take_at}
use Rattle.rules.specs.Patch.{Held as Holding, nothing, Turn, size, turn, printed_from, printed}
use Rattle.rules.proofs.Film.{two_size}
use Rattle.parsing.proofs.Shape.{whole_long}
use Rattle.text.specs.Wrote.{Wrote}
use Rattle.kinds.specs.Holding.{held_of, possible, Sound}
use Rattle.kinds.specs.Did.{Did}
use Rattle.kinds.proofs.Holding.{none_kept, kept, sound}
use Rattle.records.specs.declared.Held.{Held}
use Rattle.records.specs.declared.Done.{Done}
use Rattle.records.specs.Stepped.{holding, Stepped}
use Rattle.records.specs.Takes.{Call, Either, Takes, written}
use Rattle.records.proofs.Steps.{turn_possible, goes_on}

-- the text at the front of the buffer
text_of : {t d e : List ℕ} {w : ℕ} → Wrote t 0 d e w → w ≤ length d → take w e ≡ t
text_of {t} {d} {e} {w} h l =
    let fits : 0 + length t ≤ length d = omega (arith, h.next) in
    let long : length t ≡ w = omega (arith, h.next) in
    ap (take w) (h.out ∙ sets-eq t d 0 fits) ∙ take_at t _ w long

-- what is held after a call
held_next : {held : Held} {bytes d e : List ℕ} {r : Done} → Stepped held bytes d e r → Sound held.stock →
    held_of r.held.stock ≡ (turn (held.turns + 1) (held_of held.stock) bytes).held
held_next {held} {bytes} g s = ap held_of g.did.held ∙ kept _ (turn_possible (held.turns + 1) (held_of held.stock) bytes s.accepted)

-- behind a turn that goes on less is left
shorter : (f i : ℕ) (held : Holding) (input : List ℕ) → length input < suc f → (turn i held (take (size input) input)).more ≡ true →
    length (drop (size input) input) < f
shorter f i held input l go =
    let whole = whole_long (take (size input) input) (goes_on i held _ go) in
    omega (arith, whole, length-take (size input) input, two_size input, length-drop (size input) input)

taken_from : (f : ℕ) (held : Held) (input : List ℕ) (calls : List Call) → Sound held.stock → length input < f → Takes held input calls →
    written calls ≡ printed_from f (held.turns + 1) (held_of held.stock) input
unfolding written printed_from flat_map
taken_from zero held input calls s l t = absurd (omega arith)
taken_from (suc f) held input [] s l t = absurd t
taken_from (suc f) held input (c ∷ calls) s l t = ap₂ ◌++◌ (text_of did.text did.within)
    (behind (λ less u. taken_from f c.done.held rest calls t.0.sound less u) c.done.more refl t.1)
  where
    i : ℕ
    i = held.turns + 1

    here : Turn
    here = turn i (held_of held.stock) (take (size input) input)

    did : Did here c.before c.after (record { stock = c.done.held.stock; wrote = c.done.wrote; more = c.done.more })
    did = t.0.did

    rest : List ℕ
    rest = drop (size input) input

    behind : (length rest < f → Takes c.done.held rest calls → written calls ≡ printed_from f (c.done.held.turns + 1) (held_of c.done.held.stock) rest) →
        (more : Bool) → c.done.more ≡ more → Either more (Takes c.done.held rest calls) (calls ≡ []) →
        written calls ≡ cond here.more (printed_from f (suc i) here.held rest) []
    behind others true e u =
        let go : here.more ≡ true = sym did.more ∙ e in
        let less = shorter f i (held_of held.stock) input l go in
        let next : c.done.held.turns + 1 ≡ suc i = omega (arith, t.0.counted) in
        others less u ∙ rw (go, next, held_next t.0 s) refl
    behind others false e u = let stop : here.more ≡ false = sym did.more ∙ e in rw (stop, u) refl

pub taken_printed : (held : Held) (input : List ℕ) (calls : List Call) → held ≡ holding 0 nothing → Takes held input calls → written calls ≡ printed input
unfolding printed possible
taken_printed held input calls e t =
    taken_from (suc (length input)) held input calls (sound nothing (ap (λ (h : Held). h.stock) e) tt) (omega arith) t
    ∙ ap (λ (h : Held). printed_from (suc (length input)) (h.turns + 1) (held_of h.stock) input) e ∙ rw none_kept refl

-- For any input there are such calls: each answers as the contract of step says.

abbrev answering : Held → List ℕ → Call
answering held bytes =
    let t = turn (held.turns + 1) (held_of held.stock) bytes in
    let room = replicate {A = ℕ} (length t.text) 0 in
    record { before = room; after = sets room 0 t.text; done = record { held = holding (held.turns + 1) t.held; wrote = length t.text; more = t.more } }

answers : (held : Held) (bytes : List ℕ) → Sound held.stock → let c = answering held bytes in Stepped held bytes c.before c.after c.done
answers held bytes s =
    let t = turn (held.turns + 1) (held_of held.stock) bytes in
    let long = length-replicate {A = ℕ} (length t.text) 0 in
    record {
      sound = sound _ refl (turn_possible (held.turns + 1) (held_of held.stock) bytes s.accepted);
      counted = refl;
      did = record { held = refl; text = record { next = omega arith; out = refl }; more = refl; within = omega (arith, long) };
    }

takes_from : (f : ℕ) (held : Held) (input : List ℕ) → Sound held.stock → length input < f → (calls : List Call) × Takes held input calls
takes_from zero held input s l = absurd (omega arith)
takes_from (suc f) held input s l =
    behind (λ less. takes_from f c.done.held rest g.sound less) c.done.more refl
  where
    c : Call
    c = answering held (take (size input) input)

    g : Stepped held (take (size input) input) c.before c.after c.done
    g = answers held (take (size input) input) s

    rest : List ℕ
    rest = drop (size input) input

    behind : (length rest < f → (calls : List Call) × Takes c.done.held rest calls) → (more : Bool) → c.done.more ≡ more →
        (calls : List Call) × Takes held input calls
    behind others true e =
        let r = others (shorter f (held.turns + 1) (held_of held.stock) input l e) in (c ∷ r.0, (g, rw e r.1))
    behind others false e = (c ∷ [], (g, rw e refl))

pub taken_exists : (input : List ℕ) → (calls : List Call) × Takes (holding 0 nothing) input calls
unfolding possible
taken_exists input = takes_from (suc (length input)) (holding 0 nothing) input (sound _ refl tt) (omega arith)
