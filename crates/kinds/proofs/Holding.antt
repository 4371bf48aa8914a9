-- The enum that holds what crate rules says is held: what was put there is found there.
use mathlib.Core.Path.{◌≡◌, refl, sym, ap, ◌∙◌, subst}
use mathlib.Core.List.{List, ◌++◌}
use Prim.Native.Nat.{ℕ, zero, suc, ◌+◌, ◌-◌, ◌≤◌}
use native.Mathlib.Omega.{arith}
use lib.Dec.{T, eqb, eqb→eq}
use lib.ListN.{length, drop, replicate}
use lib.Seq.{sets-eq, take_at}
use Rattle.rules.specs.Setting.{Setting}
use Rattle.rules.specs.Patch.{Held, nothing, set, ready, setting_record_refusal, points_refusal}
use Rattle.rules.proofs.Tests.{both}
use Rattle.parsing.specs.Body.{Bodied}
use Rattle.bodies.proofs.Refused.{points_given}
use Rattle.setting.specs.declared.Setting.{Setting as Struct}
use Rattle.kinds.specs.declared.Stock.{Stock}
use Rattle.kinds.specs.declared.Stock.TheVariants.{Nothing, Set}
use Rattle.kinds.specs.Holding.{held_of, stock, possible, Clean, Sound}

pub none_kept : held_of (stock nothing) ≡ nothing
unfolding stock
none_kept = refl

pub set_kept : (S : Setting) → held_of (stock (set S)) ≡ set S
unfolding stock
set_kept S = refl

pub ready_kept : (S : Setting) (points : List ℕ) → length points ≡ S.n → held_of (stock (ready S points)) ≡ ready S points
unfolding stock
ready_kept S points l = ap (ready S) (take_at points (replicate (64 - length points) 0) S.n l)

-- both numbers of what was accepted are 0
pub ready_accepted : (S : Setting) (points : List ℕ) → T (possible (ready S points)) → (setting_record_refusal S ≡ 0) × (points_refusal S points ≡ 0)
unfolding possible
ready_accepted S points h =
    let t = both (eqb (setting_record_refusal S) 0) (eqb (points_refusal S points) 0) h in
    (eqb→eq (setting_record_refusal S) 0 t.0, eqb→eq (points_refusal S points) 0 t.1)

pub kept : (held : Held) → T (possible held) → held_of (stock held) ≡ held
kept nothing h = none_kept
kept (set S) h = set_kept S
kept (ready S points) h = ready_kept S points (points_given S points (ready_accepted S points h).1).points_long

stock_clean : (held : Held) → held_of (stock held) ≡ held → Clean (stock held)
unfolding stock
stock_clean nothing e = refl
stock_clean (set S) e = refl
stock_clean (ready S points) e = ap stock (sym e)

pub nothing_clean : Clean Nothing
unfolding stock
nothing_clean = refl

pub set_clean : (s : Struct) → Clean (Set s)
unfolding stock
set_clean s = refl

module _ (held : Held) {h : Stock} (is : h ≡ stock held) where
  pub clean : held_of (stock held) ≡ held → Clean h
  clean e = subst Clean (sym is) (stock_clean held e)

  pub sound : T (possible held) → Sound h
  sound p = record { accepted = rw (ap held_of is ∙ kept held p) p; clean = clean (kept held p) }

drop_replicate : (n m : ℕ) → drop {A = ℕ} n (replicate m 0) ≡ replicate (m - n) 0
drop_replicate zero m = let e : m - 0 ≡ m = omega arith in ap (λ k. replicate k 0) (sym e)
drop_replicate (suc n) zero = let e : 0 - suc n ≡ 0 = omega arith in ap (λ k. replicate k 0) (sym e)
drop_replicate (suc n) (suc m) = let e : suc m - suc n ≡ m - n = omega arith in drop_replicate n m ∙ ap (λ k. replicate k 0) (sym e)

-- a body that was read into zeros
pub body_array : {numbers e : List ℕ} {m : ℕ} → Bodied numbers (replicate 64 0) e m → e ≡ numbers ++ replicate (64 - length numbers) 0
body_array {numbers} h =
    let q : 0 + length numbers ≤ 64 = omega (arith, h.count, h.most) in
    let z : 0 + length numbers ≡ length numbers = omega arith in
    h.out ∙ sets-eq numbers (replicate 64 0) 0 q ∙ ap (λ k. numbers ++ drop k (replicate 64 0)) z ∙ ap (λ x. numbers ++ x) (drop_replicate (length numbers) 64)
