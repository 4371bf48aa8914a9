-- Text after text, and the fields of a line one by one.
use mathlib.Core.Path.{◌≡◌, refl, sym, ap, ◌∙◌}
use mathlib.Core.List.{List, [], ◌∷◌, ◌++◌, flat_map, append_assoc, append-nil}
use Prim.Native.Nat.{ℕ, suc, ◌+◌, ◌<◌, ◌≤◌}
use native.Mathlib.Nat.{add-zero, add-suc, suc-add}
use native.Mathlib.Numerals.{add-one}
use native.Mathlib.Omega.{arith}
use lib.ListN.{length, get_or, take, drop, length-append}
use lib.Seq.{sets, sets-eq, length-sets, take-suc}
use borrow.Rule.Slice.PartMut.{put_mid}
use Rattle.std.proofs.lemmas.List.Edits.{paste_all}
use Rattle.std.proofs.lemmas.Slice.{put_mid-paste}
use Rattle.rules.specs.Patch.{digits, spaced}
use Rattle.text.specs.declared.Lines.{Lines}
use Rattle.text.specs.Wrote.{Wrote}
use Rattle.text.specs.Lines.{Writes}

pub sets_then : (t u d : List ℕ) (at : ℕ) → sets (sets d at t) (at + length t) u ≡ sets d at (t ++ u)
sets_then [] u d at = ap (λ (k : ℕ). sets d k u) (add-zero at)
sets_then (a ∷ t) u d at = ap (λ (k : ℕ). sets (sets d at (a ∷ t)) k u) (add-suc at (length t) ∙ sym (suc-add at (length t))) ∙ sets_then t u _ (suc at)

pub wrote_none : (d : List ℕ) (at : ℕ) → Wrote [] at d d at
wrote_none d at = record { next = sym (add-zero at); out = refl }

pub wrote_then : {t u d e e' : List ℕ} {at m r : ℕ} → Wrote t at d e m → Wrote u m e e' r → Wrote (t ++ u) at d e' r
wrote_then {t} {u} {d} {e} {e'} {at} {m} {r} h g = record {
  next = simp length-append (omega (arith, h.next, g.next));
  out = g.out ∙ ap (λ (k : ℕ). sets e k u) h.next ∙ ap (λ (x : List ℕ). sets x (at + length t) u) h.out ∙ sets_then t u d at;
}

-- a text that was copied behind the others
pub wrote_copy : (t u d : List ℕ) (at k : ℕ) → u ≡ t → k ≡ length t → at + length t ≤ length d → Wrote t at d (put_mid at k d u) (at + length t)
wrote_copy t u d at k e n l = record {
  next = refl;
  out = put_mid-paste at k d u t (length t) e (sym n) refl ∙ paste_all d at t (length t) refl ∙ sym (append_assoc (take at d) t (drop (at + length t) d)) ∙ sym (sets-eq t d at l);
}

pub wrote_len : {t d e : List ℕ} {at r : ℕ} → Wrote t at d e r → length e ≡ length d
wrote_len {t} {d} {e} {at} h = ap length h.out ∙ length-sets d at t

pub wrote_as : {t u d e : List ℕ} {at r : ℕ} → Wrote t at d e r → t ≡ u → Wrote u at d e r
wrote_as h q = rw q at h

-- one more at the end
pub flat_snoc : {A : Type 0} (f : A → List ℕ) (xs : List A) (x : A) → flat_map f (xs ++ (x ∷ [])) ≡ flat_map f xs ++ f x
unfolding flat_map
flat_snoc f [] x = append-nil (f x)
flat_snoc f (y ∷ xs) x = rw (flat_snoc f xs x) (sym (append_assoc (f y) (flat_map f xs) (f x)))

pub spaced_none : [] ≡ spaced []
unfolding spaced flat_map
spaced_none = refl

-- one field more
pub spaced_more : (xs : List ℕ) (i x : ℕ) → i < length xs → x ≡ get_or xs i 0 → spaced (take i xs) ++ (32 ∷ digits x) ≡ spaced (take (i + 1) xs)
unfolding spaced
spaced_more xs i x l e = rw e (sym (ap spaced (rw add-one (take-suc xs i 0 l)) ∙ flat_snoc (λ y. 32 ∷ digits y) (take i xs) (get_or xs i 0)))

-- the same of a call that writes lines
pub writes_none : (l : Lines) → Writes [] l l
writes_none l = record { same = refl; wrote = wrote_none l.out.now l.len }

pub writes_then : {t u : List ℕ} {l m n : Lines} → Writes t l m → Writes u m n → Writes (t ++ u) l n
writes_then h g = record { same = g.same ∙ h.same; wrote = wrote_then h.wrote g.wrote }

pub writes_as : {t u : List ℕ} {l m : Lines} → Writes t l m → t ≡ u → Writes u l m
writes_as h q = rw q at h

pub writes_room : {t : List ℕ} {l m : Lines} → Writes t l m → length m.out.now ≡ length l.out.now
writes_room h = wrote_len h.wrote

-- lines that were written into an empty buffer stand at its front
pub wrote_first : {t d : List ℕ} {l m : Lines} → l.out.now ≡ d → l.len ≡ 0 → Writes t l m → Wrote t 0 d m.out.now m.len
wrote_first {t} {d} {l} {m} o z h = rw (← o, ← z) h.wrote
