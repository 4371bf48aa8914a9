-- What a curve that passes is, whatever the triples: not zero, and its terms are within their bound.
use mathlib.Core.Bool.{not, ◌&&◌}
use mathlib.Core.List.{List}
use Prim.Native.Nat.{ℕ}
use lib.Dec.{T}
use Rattle.rules.specs.Lists.{all}
use Rattle.rules.specs.Field.{ops}
use Rattle.rules.specs.Code.{Triple, zeros}
use Rattle.rules.specs.Curve.{weighted, through, passes}
use Rattle.rules.proofs.Tests.{both}

pub passing_parts : (q k w l : ℕ) (zs : List (Triple ℕ)) (Q : List ℕ) → T (passes (ops q) k w l zs Q)
    → T (not (zeros (ops q) Q)) × T (weighted (ops q) k w l Q)
unfolding passes
passing_parts q k w l zs Q t =
    let first = both (not (zeros (ops q) Q) && weighted (ops q) k w l Q) (all (through (ops q) w l Q) zs) t in
    both (not (zeros (ops q) Q)) (weighted (ops q) k w l Q) first.0
