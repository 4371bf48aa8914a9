-- The leading terms before any condition.
use mathlib.Core.List.{List}
use Prim.Native.Nat.{ℕ}
use native.Mathlib.Omega.{arith}
use lib.ListN.{replicate, get_or-replicate}
use Rattle.weights.specs.Shape.{Shaped}
use Rattle.weights.proofs.Pairing.{row_inside}
use Rattle.condition.specs.Kept.{Fit}

-- those of the 25 curves that there are at most
abbrev pub nils : List ℕ
nils = replicate 25 0

pub nils_fit : {q k w l : ℕ} → Shaped q k w l → Fit k w l nils
nils_fit {q} {k} {w} {l} s j u = rw (get_or-replicate {A = ℕ} 25 j 0 0 (omega (arith, s.few))) (omega (arith, (row_inside k w l j s.fits u).0))
