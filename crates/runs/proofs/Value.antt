-- A polynomial's value, from its last coefficient on.
use mathlib.Core.Path.{◌≡◌, refl, sym, ap, ◌∙◌}
use mathlib.Core.List.{List, [], ◌∷◌, reverse}
use Prim.Native.Nat.{ℕ, suc, ◌-◌, ◌<◌, ◌≤◌}
use native.Mathlib.Omega.{arith}
use lib.ListN.{length, get_or, drop}
use lib.Seq.{drop-cons, drop-length}
use Rattle.std.specs.List.{fold}
use Rattle.std.proofs.lemmas.Grind.{common_steps}
use Rattle.rules.specs.Code.{eval}
use Rattle.rules.specs.Field.{ops, plus, times}

module _ (q : ℕ) (f : List ℕ) (x : ℕ) where
  pub eval_none : 0 ≡ eval (ops q) (drop (length f) f) x
  unfolding eval
  eval_none = rw (drop-length f) refl

  -- the number before those that are in the value already
  pub eval_more : (i : ℕ) → 0 < i → i ≤ length f → plus q (get_or f (i - 1) 0) (times q x (eval (ops q) (drop i f) x)) ≡ eval (ops q) (drop (i - 1) f) x
  unfolding eval
  eval_more i l m =
      let e : suc (i - 1) ≡ i = omega arith in
      ap (λ (n : ℕ). plus q (get_or f (i - 1) 0) (times q x (eval (ops q) (drop n f) x))) (sym e)
      ∙ sym (ap (λ (l : List ℕ). eval (ops q) l x) (drop-cons f (i - 1) 0 (omega arith)))

module _ (q x : ℕ) where
  -- one step of Horner's rule
  abbrev pub horner : ℕ → ℕ → ℕ
  horner sum c = plus q c (times q x sum)

  pub fold_back : (f : List ℕ) → fold horner 0 (reverse f) ≡ eval (ops q) f x
  unfolding eval
  fold_back [] = refl
  fold_back (c ∷ f) = grind (arith, common_steps, fold_back f)
