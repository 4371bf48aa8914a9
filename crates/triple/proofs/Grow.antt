-- The conditions so far grow by one, by those of one order in y, and by those of one triple.
use mathlib.Core.Path.{◌≡◌, refl, sym, ap, subst, ◌∙◌}
use mathlib.Core.List.{List, [], ◌++◌, map, flat_map, append-nil, append_assoc}
use Prim.Native.Nat.{ℕ, ◌+◌, ◌-◌, ◌*◌, ◌<◌, ◌≤◌, Fin}
use native.Mathlib.Numerals.{add-one}
use native.Mathlib.Omega.{arith}
use lib.ListN.{take, drop}
use Rattle.rules.specs.Lists.{from, below}
use Rattle.algebra.specs.Conditions.{Condition, condition, conditions_along, conditions_at}
use Rattle.algebra.proofs.Plan.{map_more, flat_more, ready}
use Rattle.buffers.proofs.Part.{at_mid}
use Rattle.weights.specs.Weights.{Weights}
use Rattle.condition.specs.Kept.{Row, Kept, Met}
use Rattle.triple.specs.Grown.{Grown, triple}

-- a row of weights, as `row` gives it
pub row_part : {q α m n : ℕ} {ws out : List ℕ} (a : ℕ) → out ≡ take n (drop (a * 256) ws) → Weights q α m n ws → a < m → a < 4 → n ≤ 256 → Row q α a n out
row_part {n = n} {ws = ws} a e W u v b i c = rw e (at_mid (a * 256) n ws (omega (arith, W.len)) i c ∙ W.row a u i c)

module _ (q k w l : ℕ) where
  pub grown_none : (more : 1 < q → List (Condition (Fin q))) (leads work : List ℕ) → ((h : 1 < q) → more h ≡ []) → Grown q k w l more leads leads work work
  grown_none more leads work e = record { keeps = λ h cs K. subst (λ ds. Kept q h k w l ds leads work) (sym (append-nil cs) ∙ ap (◌++◌ cs) (sym (e h))) K }

  pub grown_then : {A B : 1 < q → List (Condition (Fin q))} {leads leads' leads'' work work' work'' : List ℕ} (more : 1 < q → List (Condition (Fin q))) →
      Grown q k w l A leads leads' work work' → Grown q k w l B leads' leads'' work' work'' → ((h : 1 < q) → more h ≡ A h ++ B h) →
      Grown q k w l more leads leads'' work work''
  grown_then {A} {B} {leads'' = leads''} {work'' = work''} more f g e = record {
    keeps = λ h cs K. subst (λ ds. Kept q h k w l ds leads'' work'') (append_assoc cs (A h) (B h) ∙ ap (◌++◌ cs) (sym (e h)))
        (g.keeps h (cs ++ A h) (f.keeps h cs K));
  }

  -- the conditions of one order b in y
  module _ (α r m b : ℕ) where
    pub along_none : (leads work : List ℕ) → Grown q k w l (λ h. map (condition (triple q h α r m) b) (below 0)) leads leads work work
    unfolding below from
    along_none leads work = grown_none (λ h. map (condition (triple q h α r m) b) (below 0)) leads work (λ h. refl)

    pub along_more : (a : ℕ) {x y leads leads' leads'' work work' work'' : List ℕ} →
        Grown q k w l (λ h. map (condition (triple q h α r m) b) (below a)) leads leads' work work' →
        Met q k w l α x y leads' leads'' work' work'' → Row q α a w x → Row q r b (l + 1) y →
        Grown q k w l (λ h. map (condition (triple q h α r m) b) (below (a + 1))) leads leads'' work work''
    unfolding condition
    along_more a {leads'' = leads''} {work'' = work''} G M X Y = record {
      keeps = λ h cs K. rw add-one (subst (λ ds. Kept q h k w l ds leads'' work'') (sym (map_more cs (condition (triple q h α r m) b) a))
          (M.keeps r a b X Y h _ (ready cs (triple q h α r m) b a) (G.keeps h cs K)));
    }

  -- the conditions of a triple
  module _ (α r m : ℕ) where
    pub orders_none : (leads work : List ℕ) → Grown q k w l (λ h. flat_map (conditions_along (triple q h α r m)) (below 0)) leads leads work work
    unfolding below from flat_map
    orders_none leads work = grown_none (λ h. flat_map (conditions_along (triple q h α r m)) (below 0)) leads work (λ h. refl)

    pub orders_more : (b : ℕ) {leads leads' leads'' work work' work'' : List ℕ} →
        Grown q k w l (λ h. flat_map (conditions_along (triple q h α r m)) (below b)) leads leads' work work' →
        Grown q k w l (λ h. map (condition (triple q h α r m) b) (below (m - b))) leads' leads'' work' work'' →
        Grown q k w l (λ h. flat_map (conditions_along (triple q h α r m)) (below (b + 1))) leads leads'' work work''
    unfolding conditions_along
    orders_more b G N = grown_then (λ h. flat_map (conditions_along (triple q h α r m)) (below (b + 1))) G N
        (λ h. rw add-one (flat_more [] (conditions_along (triple q h α r m)) b))

    pub orders_all : {leads leads' work work' : List ℕ} → Grown q k w l (λ h. flat_map (conditions_along (triple q h α r m)) (below m)) leads leads' work work' →
        Grown q k w l (λ h. conditions_at (triple q h α r m)) leads leads' work work'
    unfolding conditions_at
    orders_all G = G
