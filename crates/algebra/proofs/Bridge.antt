-- Each definition that the check and the search rest on commutes with a map between two instances that keeps the operations: one lemma for each.
use mathlib.Core.Path.{◌≡◌, refl, sym, ◌∙◌, ap, ap₂, fun_ext}
use mathlib.Core.Bool.{not, ◌&&◌}
use mathlib.Core.List.{List, [], ◌∷◌, map, flat_map, zip_with}
use Prim.Native.Nat.{ℕ, zero, suc, ◌+◌, ◌-◌, ◌*◌}
use lib.ListN.{get_or, get_or-map}
use Rattle.rules.specs.Lists.{all}
use Rattle.rules.specs.Field.{Ops}
use Rattle.rules.specs.Code.{Triple, triples, zeros, eval, meets, score, messages}
use Rattle.rules.specs.Curve.{power, total, coefficient, weighted, hasse, through, passes}
use Rattle.rules.specs.Search.{merge, rest, first, firsts, strip, stripped, scale, step, follows, alive, beginnings, product, along}
use Rattle.algebra.specs.Hom.{Hom, move}
use Rattle.algebra.proofs.Lists.{all_map, sum_map, map_cond, map_merge, map_rest, map_width, map_square, map_flat_map}

pub triples_hom : {A B : Type 0} (φ : A → B) (s : ℕ) (points word : List A) → map (move φ) (triples s points word) ≡ triples s (map φ points) (map φ word)
unfolding triples zip_with
triples_hom φ s [] word = refl
triples_hom φ s (α ∷ points) [] = refl
triples_hom φ s (α ∷ points) (r ∷ word) = ap (◌∷◌ (record { point = φ α; symbol = φ r; times = s })) (triples_hom φ s points word)

module _ (O O' : Ops) (φ : O.Symbol → O'.Symbol) (H : Hom O O' φ) where
  abbrev Symbol : Type 0
  Symbol = O.Symbol

  -- Code

  pub zeros_hom : (q : List Symbol) → zeros O q ≡ zeros O' (map φ q)
  unfolding zeros
  zeros_hom q = simp (all_map, H.same, H.nil)

  pub eval_hom : (f : List Symbol) (x : Symbol) → φ (eval O f x) ≡ eval O' (map φ f) (φ x)
  unfolding eval
  eval_hom [] x = H.nil
  eval_hom (c ∷ f) x = simp (H.add, H.mul, eval_hom f x)

  pub meets_hom : (f : List Symbol) (t : Triple Symbol) → meets O f t ≡ meets O' (map φ f) (move φ t)
  unfolding meets
  meets_hom f t = simp (H.same, eval_hom)

  pub score_hom : (ts : List (Triple Symbol)) (f : List Symbol) → score O ts f ≡ score O' (map (move φ) ts) (map φ f)
  unfolding score
  score_hom ts f = simp (sum_map, meets_hom)

  pub messages_hom : (k : ℕ) → map (map φ) (messages O k) ≡ messages O' k
  unfolding messages
  messages_hom zero = refl
  messages_hom (suc k) = map_flat_map φ (map φ) _ _
      (λ g. map_square (◌∷◌ g) (map φ) (map φ) (◌∷◌ (φ g)) (λ f. refl) (messages O k) ∙ ap (map (◌∷◌ (φ g))) (messages_hom k)) O.symbols
      ∙ ap (flat_map (λ g. map (◌∷◌ g) (messages O' k))) H.symbols

  -- Curve

  pub power_hom : (x : Symbol) (n : ℕ) → φ (power O x n) ≡ power O' (φ x) n
  unfolding power
  power_hom x zero = H.one
  power_hom x (suc n) = simp (H.mul, power_hom x n)

  pub total_hom : (n : ℕ) (f : ℕ → Symbol) → φ (total O n f) ≡ total O' n (λ i. φ (f i))
  unfolding total
  total_hom zero f = H.nil
  total_hom (suc n) f = simp (H.add, total_hom n f)

  pub coefficient_hom : (W : ℕ) (Q : List Symbol) (i t : ℕ) → φ (coefficient O W Q i t) ≡ coefficient O' W (map φ Q) i t
  unfolding coefficient
  coefficient_hom W Q i t = sym (get_or-map φ Q (t * W + i) O.nil) ∙ ap (get_or (map φ Q) (t * W + i)) H.nil

  pub weighted_hom : (k W ℓ : ℕ) (Q : List Symbol) → weighted O k W ℓ Q ≡ weighted O' k W ℓ (map φ Q)
  unfolding weighted
  weighted_hom k W ℓ Q = simp (H.same, H.nil, coefficient_hom)

  pub hasse_hom : (W ℓ : ℕ) (Q : List Symbol) (α r : Symbol) (a b : ℕ) → φ (hasse O W ℓ Q α r a b) ≡ hasse O' W ℓ (map φ Q) (φ α) (φ r) a b
  unfolding hasse
  hasse_hom W ℓ Q α r a b = simp (total_hom, H.mul, H.of_nat, power_hom, coefficient_hom)

  pub through_hom : (W ℓ : ℕ) (Q : List Symbol) (z : Triple Symbol) → through O W ℓ Q z ≡ through O' W ℓ (map φ Q) (move φ z)
  unfolding through
  through_hom W ℓ Q z = simp (H.same, H.nil, hasse_hom)

  pub passes_hom : (k W ℓ : ℕ) (zs : List (Triple Symbol)) (Q : List Symbol) → passes O k W ℓ zs Q ≡ passes O' k W ℓ (map (move φ) zs) (map φ Q)
  unfolding passes
  passes_hom k W ℓ zs Q = simp (zeros_hom, weighted_hom, all_map)
      (ap (λ test. not (zeros O' (map φ Q)) && weighted O' k W ℓ (map φ Q) && all test zs) (fun_ext (through_hom W ℓ Q)))

  -- Search

  pub first_hom : (q : List Symbol) → φ (first O q) ≡ first O' (map φ q)
  unfolding first
  first_hom [] = H.nil
  first_hom (c ∷ q) = refl

  pub firsts_hom : (Q : List (List Symbol)) → map φ (firsts O Q) ≡ firsts O' (map (map φ) Q)
  unfolding firsts
  firsts_hom Q = map_square (first O) φ (map φ) (first O') first_hom Q

  pub strip_hom : (n : ℕ) (Q : List (List Symbol)) → map (map φ) (strip O n Q) ≡ strip O' n (map (map φ) Q)
  unfolding strip
  strip_hom zero Q = refl
  strip_hom (suc n) Q =
      map_cond (map (map φ)) (zeros O (firsts O Q)) _ _ ∙ simp (zeros_hom, firsts_hom, strip_hom n, map_square rest (map φ) (map φ) rest (map_rest φ) Q)

  pub stripped_hom : (Q : List (List Symbol)) → map (map φ) (stripped O Q) ≡ stripped O' (map (map φ) Q)
  unfolding stripped
  stripped_hom Q = simp (strip_hom, map_width)

  pub scale_hom : (c : Symbol) (q : List Symbol) → map φ (scale O c q) ≡ scale O' (φ c) (map φ q)
  unfolding scale
  scale_hom c q = map_square (O.mul c) φ φ (O'.mul (φ c)) (H.mul c) q

  pub plus_hom : (p q : List Symbol) → map φ (merge O.add p q) ≡ merge O'.add (map φ p) (map φ q)
  plus_hom = map_merge φ O.add O'.add H.add

  pub step_hom : (g : Symbol) (Q : List (List Symbol)) → map (map φ) (step O g Q) ≡ step O' (φ g) (map (map φ) Q)
  unfolding step
  step_hom g [] = refl
  step_hom g (q ∷ Q) =
      map_merge (map φ) (merge O.add) (merge O'.add) plus_hom _ _
      ∙ ap₂ (λ s t. merge (merge O'.add) (map φ q ∷ s) t)
      (map_square (◌∷◌ O.nil) (map φ) (map φ) (◌∷◌ O'.nil) (λ p. ap (λ c. c ∷ map φ p) H.nil) (step O g Q) ∙ ap (map (◌∷◌ O'.nil)) (step_hom g Q))
      (map_square (scale O g) (map φ) (map φ) (scale O' (φ g)) (scale_hom g) (step O g Q) ∙ ap (map (scale O' (φ g))) (step_hom g Q))

  pub follows_hom : (Q : List (List Symbol)) (g : Symbol) → follows O Q g ≡ follows O' (map (map φ) Q) (φ g)
  unfolding follows
  follows_hom Q g = simp (H.same, H.nil, eval_hom, firsts_hom)

  pub alive_hom : (L : ℕ) (Q : List (List Symbol)) → alive O L Q ≡ alive O' L (map (map φ) Q)
  unfolding alive
  alive_hom zero Q = refl
  alive_hom (suc L) Q = simp (alive_hom L, stripped_hom, step_hom, follows_hom, ← H.symbols, sum_map)

  pub beginnings_hom : (k : ℕ) (Q : List (List Symbol)) → beginnings O k Q ≡ beginnings O' k (map (map φ) Q)
  unfolding beginnings
  beginnings_hom k Q = simp (alive_hom, stripped_hom)

  pub product_hom : (p q : List Symbol) → map φ (product O p q) ≡ product O' (map φ p) (map φ q)
  unfolding product
  product_hom [] q = refl
  product_hom (a ∷ p) q = simp (plus_hom, scale_hom, product_hom p q, H.nil)

  pub along_hom : (Q : List (List Symbol)) (f : List Symbol) → map φ (along O Q f) ≡ along O' (map (map φ) Q) (map φ f)
  unfolding along
  along_hom [] f = refl
  along_hom (q ∷ Q) f = simp (plus_hom, product_hom, along_hom Q f)
