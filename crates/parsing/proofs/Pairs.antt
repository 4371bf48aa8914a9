-- Numbers of two bytes: which bytes number j has, and how many numbers there are.
use mathlib.Core.Path.{◌≡◌, sym, ap, ◌∙◌}
use mathlib.Core.List.{List, [], ◌∷◌, ◌++◌}
use Prim.Native.Nat.{ℕ, zero, suc, ◌+◌, ◌-◌, ◌*◌, ◌/◌, ◌<◌}
use native.Mathlib.Omega.{arith}
use native.Mathlib.Numerals.{add-one}
use lib.ListN.{length, get_or, take, set, length-drop}
use lib.Seq.{sets, get_or-drop, take-suc, length-take-le}
use Rattle.text.proofs.Written.{sets_then}
use Rattle.rules.specs.Patch.{pairs, body}

-- number j is made of bytes 2·j and 2·j + 1
pub pair_at : (b : List ℕ) (j : ℕ) → 2 * j + 1 < length b → get_or b (2 * j) 0 + get_or b (2 * j + 1) 0 * 256 ≡ get_or (pairs b) j 0
unfolding pairs
pair_at [] j l = absurd (omega arith)
pair_at (low ∷ []) j l = absurd (omega arith)
pair_at (low ∷ high ∷ b) zero l = omega arith
pair_at (low ∷ high ∷ b) (suc j) l = let q : 2 * suc j ≡ suc (suc (2 * j)) = omega arith in let r : 2 * suc j + 1 ≡ suc (suc (2 * j + 1)) = omega arith in
    rw (r, q) (pair_at b j (omega arith))

pub pairs_count : (b : List ℕ) → length (pairs b) ≡ length b / 2
unfolding pairs
pairs_count [] = omega arith
pairs_count (low ∷ []) = omega arith
pairs_count (low ∷ high ∷ b) = omega (arith, pairs_count b)

-- the body has all numbers but the first two
pub body_count : (b : List ℕ) → length (body b) ≡ length b / 2 - 2
unfolding body
body_count b = simp length-drop (omega (arith, pairs_count b))

-- one number of the body more
pub body_more : (b d e : List ℕ) (i v : ℕ) → e ≡ sets d 0 (take i (body b)) → i < length (body b) → v ≡ get_or (pairs b) (i + 2) 0 →
    set e i v ≡ sets d 0 (take (i + 1) (body b))
unfolding body
body_more b d e i v h l q =
    let t = take i (body b) in
    let z : i ≡ 0 + length t = omega (arith, length-take-le i (body b) (omega arith)) in
    let own : v ≡ get_or (body b) i 0 = q ∙ ap (λ k. get_or (pairs b) k 0) (omega arith) ∙ sym (get_or-drop 2 (pairs b) i 0) in
    ap (λ (k : ℕ). set e k v) z ∙ ap (λ (x : List ℕ). set x (0 + length t) v) h ∙ sets_then t (v ∷ []) d 0
    ∙ ap (λ x. sets d 0 (t ++ (x ∷ []))) own ∙ ap (λ x. sets d 0 x) (sym (take-suc (body b) i 0 l) ∙ ap (λ k. take k (body b)) (sym (add-one i)))
