-- Of finding and reading only the curve, and so its beginnings, is free: any two allowed outcomes are equal in all else.
use mathlib.Core.Path.{◌≡◌, refl, sym, ap, subst, subst₂, ◌∙◌}
use mathlib.Core.List.{List, flatten}
use Prim.Native.Nat.{ℕ, ◌+◌}
use native.Mathlib.Decide.{ℕ_discrete}
use lib.Dec.{T}
use lib.ListN.{length, drop, length-append}
use lib.Seq.{drop_at}
use Rattle.rules.specs.Setting.{Setting, curve_length}
use Rattle.rules.specs.Refusal.{read_refusal}
use Rattle.rules.specs.Outcome.{Finding, Finds, Reading, Reads, over, usable}
use Rattle.reader.specs.Alike.{SameBehind, AlikeFound, AlikeLeft, AlikeRead}
use Rattle.reader.proofs.Decided.{find_number, find_decided, read_number, read_decided}
use Rattle.reader.proofs.Readings.{passing_readings, usable_parts, read_passing}

-- a buffer keeps what it held behind a curve that is written over it, and its length follows from that
module _ (S : Setting) (curve Q : List ℕ) (whole : length Q ≡ curve_length S) where
  behind_is : drop (curve_length S) (over Q curve) ≡ drop (curve_length S) curve
  unfolding over
  behind_is = drop_at Q (drop (length Q) curve) _ whole ∙ ap (λ (n : ℕ). drop n curve) whole

  long_is : length (over Q curve) ≡ curve_length S + length (drop (curve_length S) curve)
  unfolding over
  long_is = length-append Q (drop (length Q) curve) ∙ ap (λ (n : ℕ). n + length (drop n curve)) whole

-- curves that may be used, written over buffers that are the same behind them
same_over : (S : Setting) (points word : List ℕ) {curve curve' : List ℕ} → SameBehind S curve curve'
    → (Q Q' : List ℕ) → T (usable S points word Q) → T (usable S points word Q') → SameBehind S (over Q curve) (over Q' curve')
same_over S points word {curve} {curve'} same Q Q' u u' =
    let e = (usable_parts S points word Q u).0 in
    let e' = (usable_parts S points word Q' u').0 in
    record {
      long = long_is S curve Q e ∙ ap (λ xs. curve_length S + length xs) same.numbers ∙ sym (long_is S curve' Q' e');
      numbers = behind_is S curve Q e ∙ same.numbers ∙ sym (behind_is S curve' Q' e');
    }

same_itself : (S : Setting) (curve : List ℕ) → SameBehind S curve curve
same_itself S curve = record { long = refl; numbers = refl }

module _ (S : Setting) (points word curve work : List ℕ) (o o' : Finding) where
  pub find_alike : Finds S points word curve work o → Finds S points word curve work o' → AlikeFound S o o'
  find_alike h h' = go (ℕ_discrete (find_number S points word curve work) 0)
    where
      go : Dec (find_number S points word curve work ≡ 0) → AlikeFound S o o'
      go (yes z) =
          let d = find_decided S points word curve work h in
          let d' = find_decided S points word curve work h' in
          let u = h.passes (d.is_number ∙ z) in
          let u' = h'.passes (d'.is_number ∙ z) in
          subst₂ (AlikeFound S) (sym (d.accepted z)) (sym (d'.accepted z)) (record {
            refusal = refl;
            found = refl;
            tried = refl;
            behind = same_over S points word (same_itself S curve) _ _ u u';
            work = refl;
            refused = λ n. absurd (n refl);
          })
      go (no n) =
          let same = (find_decided S points word curve work h).refused n ∙ sym ((find_decided S points word curve work h').refused n) in
          subst (AlikeFound S o) same (record {
            refusal = refl;
            found = refl;
            tried = refl;
            behind = same_itself S _;
            work = refl;
            refused = λ _. refl;
          })

module _ (S : Setting) (points word output work : List ℕ) {curve curve' : List ℕ} (same : SameBehind S curve curve') (o o' : Reading)
    (h : Reads S points word output curve work o) (h' : Reads S points word output curve' work o') where
  numbers : read_number S points word output curve work ≡ read_number S points word output curve' work
  numbers = ap (λ (n : ℕ). read_refusal S points word (length output) n (length work)) same.long

  pub read_left : AlikeLeft S o o'
  read_left = go (ℕ_discrete (read_number S points word output curve work) 0)
    where
      go : Dec (read_number S points word output curve work ≡ 0) → AlikeLeft S o o'
      go (yes z) =
          let d = read_decided S points word output curve work h in
          let d' = read_decided S points word output curve' work h' in
          let z' = sym numbers ∙ z in
          let u = h.passes (d.is_number ∙ z) in
          let u' = h'.passes (d'.is_number ∙ z') in
          let list = passing_readings S points word _ (read_passing S points word output curve work z _ u) in
          let list' = passing_readings S points word _ (read_passing S points word output curve' work z' _ u') in
          subst₂ (AlikeLeft S) (sym (d.accepted z)) (sym (d'.accepted z')) (record {
            refusal = refl;
            found = ap length (list ∙ sym list');
            output = ap (λ fs. over (flatten fs) output) (list ∙ sym list');
            behind = same_over S points word same _ _ u u';
            work = refl;
          })
      go (no n) =
          let d = read_decided S points word output curve work h in
          let d' = read_decided S points word output curve' work h' in
          subst₂ (AlikeLeft S) (sym (d.refused n)) (sym (d'.refused (λ z. n (numbers ∙ z))))
          (record { refusal = numbers; found = refl; output = refl; behind = same; work = refl })

pub read_alike : (S : Setting) (points word output curve work : List ℕ) (o o' : Reading)
    → Reads S points word output curve work o → Reads S points word output curve work o' → AlikeRead S o o'
read_alike S points word output curve work o o' h h' =
    let d = read_decided S points word output curve work h in
    let d' = read_decided S points word output curve work h' in
    let left = read_left S points word output work (same_itself S curve) o o' h h' in
    record {
      refusal = left.refusal;
      found = left.found;
      output = left.output;
      behind = left.behind;
      work = left.work;
      refused = λ r. let n : ¬ (read_number S points word output curve work ≡ 0) = λ z. r (d.is_number ∙ z) in d.refused n ∙ sym (d'.refused n);
    }
