-- Roots of a polynomial with their multiplicities, and triples that differ.
use Rattle.std.specs.Prelude.{◌≡◌, List, [], ◌∷◌, ℕ, ◌+◌}
use Rattle.rules.specs.Field.{Ops}
use Rattle.rules.specs.Code.{Triple}
use Rattle.algebra.specs.Poly.{Val, taylor}

module _ (O : Ops) where
  open O use {Symbol}

  abbrev pub Away : Symbol → List Symbol → Type 0
  Away α [] = Unit {0}
  Away α (c ∷ cs) = ¬ (c ≡ α) × Away α cs

  -- no two are equal
  abbrev pub Distinct : List Symbol → Type 0
  Distinct [] = Unit {0}
  Distinct (c ∷ cs) = Away c cs × Distinct cs

  -- a place, and how often it is a root
  pub record Root : Type 0 where
    pub place : Symbol
    pub times : ℕ

  abbrev pub places : List Root → List Symbol
  places [] = []
  places (r ∷ rs) = r.place ∷ places rs

  -- the multiplicities, added up
  abbrev pub count : List Root → ℕ
  count [] = 0
  count (r ∷ rs) = r.times + count rs

  -- each is a root of q as often as it says
  abbrev pub Roots : List Symbol → List Root → Type 0
  Roots q [] = Unit {0}
  Roots q (r ∷ rs) = Val O r.times (taylor O r.place q) × Roots q rs

  abbrev pub Apart : Triple Symbol → List (Triple Symbol) → Type 0
  Apart z [] = Unit {0}
  Apart z (w ∷ zs) = (w.point ≡ z.point → ¬ (w.symbol ≡ z.symbol)) × Apart z zs

  -- no two triples agree in point and symbol; their points may be equal
  abbrev pub Differ : List (Triple Symbol) → Type 0
  Differ [] = Unit {0}
  Differ (z ∷ zs) = Apart z zs × Differ zs
