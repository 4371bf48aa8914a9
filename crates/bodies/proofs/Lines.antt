-- Messages that stand one after the other, and their lines.
use mathlib.Core.Path.{◌≡◌, refl, sym, ap, ◌∙◌}
use mathlib.Core.List.{List, [], ◌∷◌, ◌++◌, flat_map}
use Prim.Native.Nat.{ℕ, ◌+◌, ◌*◌}
use native.Mathlib.Nat.{mul-add, mul_assoc}
use native.Mathlib.Numerals.{add-one}
use lib.ListN.{take, drop}
use Rattle.rules.specs.Search.{rows}
use Rattle.rules.specs.Patch.{line}
use Rattle.text.proofs.Written.{flat_snoc}
use Rattle.demands.proofs.Runs.{rows_more}

abbrev pub plus_lines : List (List ℕ) → List ℕ
plus_lines ms = flat_map (line (43 ∷ [])) ms

pub lines_none : (k : ℕ) (xs : List ℕ) → [] ≡ plus_lines (rows k 0 xs)
unfolding rows flat_map
lines_none k xs = refl

-- one line more, of the next k numbers
pub lines_more : (k j n : ℕ) (xs : List ℕ) → n ≡ k →
    plus_lines (rows k j xs) ++ line (43 ∷ []) (take n (drop (j * k) xs)) ≡ plus_lines (rows k (j + 1) xs)
lines_more k j n xs w =
    ap (λ m. plus_lines (rows k j xs) ++ line (43 ∷ []) (take m (drop (j * k) xs))) w
    ∙ sym (flat_snoc (line (43 ∷ [])) (rows k j xs) (take k (drop (j * k) xs)))
    ∙ ap plus_lines (sym (rows_more k j xs) ∙ ap (λ n. rows k n xs) (sym (add-one j)))

-- the bytes that the lines need at most
pub lines_room : (found k : ℕ) → found * (k * 6 + 2) ≡ found * k * 6 + found * 2
lines_room found k = mul-add found (k * 6) 2 ∙ ap (λ x. x + found * 2) (sym (mul_assoc found k 6))
