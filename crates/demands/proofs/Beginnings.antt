-- Demand 3 of the numbers in slices: for every curve that is not zero, at most ℓ beginnings of each length from 1 on are alive.
use mathlib.Core.Path.{◌≡◌, ◌∙◌, subst}
use mathlib.Core.Bool.{not}
use mathlib.Core.List.{List, map}
use Prim.Native.Nat.{ℕ, suc, ◌+◌, ◌*◌, ◌≤◌, ◌<◌}
use lib.Dec.{T}
use lib.ListN.{length, length-map}
use Rattle.rules.specs.Field.{ops, modulus}
use Rattle.rules.specs.Code.{zeros}
use Rattle.rules.specs.Search.{rows, stripped, alive}
use Rattle.algebra.proofs.Lists.{map_rows}
use Rattle.algebra.proofs.Bridge.{zeros_hom, stripped_hom, alive_hom}
use Rattle.algebra.proofs.Alive.{curve_headed, alive_few}
use Rattle.prime.specs.Field.{elt, field}
use Rattle.prime.proofs.Below.{modulus_two}
use Rattle.prime.proofs.Laws.{laws}
use Rattle.demands.proofs.Link.{elt_hom}

pub few_alive : (q : ℕ) (m : T (modulus q)) (W ℓ L : ℕ) (Q : List ℕ) → 0 < W → length Q ≡ (ℓ + 1) * W → T (not (zeros (ops q) Q)) →
    alive (ops q) (suc L) (stripped (ops q) (rows W (ℓ + 1) Q)) ≤ ℓ
few_alive q m W ℓ L Q w n t =
    let h = modulus_two q m in
    let F = field q h in
    let e = elt q h in
    let H = elt_hom q m h in
    rw (alive_hom (ops q) F e H (suc L) (stripped (ops q) (rows W (ℓ + 1) Q)), stripped_hom (ops q) F e H (rows W (ℓ + 1) Q), map_rows e W (ℓ + 1) Q)
    (alive_few F (laws q m h) L _ ℓ (curve_headed F (laws q m h) W ℓ (map e Q) w (length-map Q e ∙ n) (subst (λ b. T (not b)) (zeros_hom (ops q) F e H Q) t)))
