-- Of the exported finding and reading only the curve, and so its beginnings, is free: any two allowed outcomes are equal in all else.
use mathlib.Core.Path.{refl, sym, ap, subst₂, ◌∙◌}
use mathlib.Core.List.{List, [], ◌∷◌}
use Prim.Native.Nat.{ℕ}
use Rattle.rules.specs.Setting.{Setting}
use Rattle.rules.specs.Outcome.{Finding, Reading, Finds}
use Rattle.whitebeamish.specs.Numbers.{finding}
use Rattle.reader.proofs.Alike.{find_alike, read_alike}
use Rattle.answer.specs.Told.{told}
use Rattle.whitebeamish.specs.Told.{ReadTold}
use Rattle.whitebeamish.specs.Alike.{AlikeFindTold, AlikeAnswer, AlikeReadTold}

pub find_told_alike : (S : Setting) (points word curve work : List ℕ) (r r' : ℕ) (c c' w w' : List ℕ)
    → Finds S points word curve work (finding r 0 0 c w) → Finds S points word curve work (finding r' 0 0 c' w') → AlikeFindTold S r r' c c' w w'
find_told_alike S points word curve work r r' c c' w w' h h' =
    let a = find_alike S points word curve work _ _ h h' in
    record {
      refusal = a.refusal;
      behind = a.behind;
      work = a.work;
      refused = λ n. ap (λ (o : Finding). o.curve) (a.refused n);
    }

-- answers that tell the same list length f
told_alike : (answer : List ℕ) (f b b' : ℕ) → AlikeAnswer (told (f ∷ b ∷ []) answer) (told (f ∷ b' ∷ []) answer)
unfolding told
told_alike [] f b b' = record { long = refl; found = refl; further = refl }
told_alike (_ ∷ []) f b b' = record { long = refl; found = refl; further = refl }
told_alike (_ ∷ _ ∷ answer) f b b' = record { long = refl; found = refl; further = refl }

pub read_told_alike : (S : Setting) (points word output curve work answer : List ℕ) (r r' : ℕ) (out out' c c' w w' t t' : List ℕ)
    → ReadTold S points word output curve work answer r out c w t → ReadTold S points word output curve work answer r' out' c' w' t'
    → AlikeReadTold S r r' out out' c c' w w' t t'
read_told_alike S points word output curve work answer r r' out out' c c' w w' t t' h h' =
    let a = read_alike S points word output curve work _ _ h.reads h'.reads in
    let told' = h'.tells ∙ ap (λ (f : ℕ). told (f ∷ h'.tried ∷ []) answer) (sym a.found) in
    record {
      refusal = a.refusal;
      output = a.output;
      behind = a.behind;
      work = a.work;
      answer = subst₂ AlikeAnswer (sym h.tells) (sym told') (told_alike answer h.found h.tried h'.tried);
      refused = λ n. let same = a.refused n in (
        ap (λ (o : Reading). o.curve) same,
        h.tells ∙ ap (λ (o : Reading). told (o.found ∷ o.tried ∷ []) answer) same ∙ sym h'.tells,
      );
    }
