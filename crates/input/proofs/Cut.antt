-- What is read behind a record's first two bytes does not change its size.
use mathlib.Core.Path.{◌≡◌, sym, ap, ◌∙◌}
use mathlib.Core.Logic.{◌⊎◌, inl, inr}
use mathlib.Core.List.{List, ◌++◌}
use Prim.Native.Nat.{ℕ, ◌+◌, ◌<◌, ◌≤◌}
use native.Mathlib.Omega.{arith}
use lib.ListN.{length, take}
use lib.Seq.{length-take-le, take-append-add}
use borrow.Rule.Slice.PartMut.{post_of, put_mid}
use Rattle.buffers.proofs.Change.{lt_or_ge}
use Rattle.rules.specs.Patch.{size}
use Rattle.rules.proofs.Film.{two_size}
use Rattle.parsing.proofs.Shape.{none_stated, size_unfit, size_front}

-- what was read is no more than the record, by its first two bytes
module _ (all part : List ℕ) (n begun want rest : ℕ) where
  pub record_cut : 2 ≤ length all → begun ≤ 2 → 2 + want ≡ size (take begun all) → rest ≤ want →
      begun + rest ≤ size (take (begun + rest) (put_mid 2 n all part))
  record_cut l b w r = go (lt_or_ge begun 2)
    where
      go : (begun < 2) ⊎ (2 ≤ begun) → begun + rest ≤ size (take (begun + rest) (put_mid 2 n all part))
      go (inl few) =
          let short : length (take begun all) < 2 = omega (arith, length-take-le begun all (omega arith)) in
          let none = size_unfit (take begun all) (none_stated (take begun all) short) in
          omega (arith, two_size (take (begun + rest) (put_mid 2 n all part)))
      go (inr both) =
          let is : begun ≡ 2 = omega arith in
          let two : length (take 2 all) ≡ 2 = length-take-le 2 all l in
          let front = take-append-add (take 2 all) (part ++ post_of 2 n all) rest in
          let same = ap (λ k. size (take (k + rest) (put_mid 2 n all part))) (is ∙ sym two) ∙ ap size front in
          let decides = size_front (take 2 all) (take rest (part ++ post_of 2 n all)) (omega arith) in
          omega (arith, same, decides, ap (λ k. size (take k all)) is)
