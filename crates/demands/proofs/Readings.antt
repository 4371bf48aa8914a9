-- The definition `readings` is the list that demand 2 asks for: it sifts the list of all messages, which has each once and in order. By the number of symbols.
use mathlib.Core.Path.{◌≡◌, refl, sym, ap, subst}
use mathlib.Core.Bool.{Bool, true, false, cond}
use mathlib.Core.List.Memᴰ
use mathlib.Core.List.{List, [], ◌∷◌, ◌++◌, map, flat_map, Memᴰ}
use mathlib.Core.Logic.{◌⊎◌, inl, inr, ⊎_elim}
use Prim.Native.Nat.{ℕ, zero, suc, ◌<◌}
use native.Mathlib.Omega.{arith}
use lib.Dec.{T, leb, leb→le, le→leb}
use Rattle.rules.specs.Lists.{from, below, keep}
use Rattle.rules.specs.Field.{ops}
use Rattle.rules.specs.Code.{triples, score, messages, sifted, scoring, readings}
use Rattle.rules.proofs.Tests.{from_mem, mem_from}
use Rattle.demands.specs.Readings.{Message, Before, Ordered, Once, Lists}

-- What stands in a sifted list.
module _ {A : Type 0} (test : A → Bool) (x : A) where
  kept : (xs : List A) → Memᴰ x xs → T (test x) → Memᴰ x (keep test xs)
  unfolding keep
  kept [] i t = elim i [ ]
  kept (z ∷ xs) i t = go (test z) (λ y. y) (Memᴰ.cases_cons i) (λ j. kept xs j t)
    where
      go : (b : Bool) → (T (test z) → T b) → (x ≡ z) ⊎ Memᴰ x xs → (Memᴰ x xs → Memᴰ x (keep test xs)) →
          Memᴰ x (cond b (z ∷ keep test xs) (keep test xs))
      go true h (inl e) below = Memᴰ.head e
      go true h (inr j) below = Memᴰ.tail (below j)
      go false h (inl e) below = absurd (h (subst (λ y. T (test y)) e t))
      go false h (inr j) below = below j

  was : (xs : List A) → Memᴰ x (keep test xs) → Memᴰ x xs × T (test x)
  unfolding keep
  was [] i = elim i [ ]
  was (z ∷ xs) i = go (test z) (λ y. y) i (was xs)
    where
      go : (b : Bool) → (T b → T (test z)) → Memᴰ x (cond b (z ∷ keep test xs) (keep test xs)) →
          (Memᴰ x (keep test xs) → Memᴰ x xs × T (test x)) → Memᴰ x (z ∷ xs) × T (test x)
      go true h i below =
          ⊎_elim (λ e. (Memᴰ.head e, subst (λ y. T (test y)) (sym e) (h tt))) (λ j. (Memᴰ.tail (below j).0, (below j).1)) (Memᴰ.cases_cons i)
      go false h j below = (Memᴰ.tail (below j).0, (below j).1)

-- Lists in order: with a symbol in front of each, one behind the other, and sifted.
led : (g : ℕ) (fs : List (List ℕ)) → Ordered fs → Ordered (map (◌∷◌ g) fs)
led g [] o = tt
led g (f ∷ fs) o =
    (λ h i. let m = Memᴰ.of_map (◌∷◌ g) fs i in subst (Before (g ∷ f)) m.2 (inr (refl, o.0 m.0 m.1)), led g fs o.1)

joined : (fs gs : List (List ℕ)) → Ordered fs → Ordered gs → ((f g : List ℕ) → Memᴰ f fs → Memᴰ g gs → Before f g) → Ordered (fs ++ gs)
joined [] gs o u h = u
joined (f ∷ fs) gs o u h =
    (λ g i. ⊎_elim (o.0 g) (h f g (Memᴰ.head refl)) (Memᴰ.append_cases fs i), joined fs gs o.1 u (λ f' g i. h f' g (Memᴰ.tail i)))

keep_ordered : (test : List ℕ → Bool) (fs : List (List ℕ)) → Ordered fs → Ordered (keep test fs)
unfolding keep
keep_ordered test [] o = tt
keep_ordered test (f ∷ fs) o = go (test f) (keep_ordered test fs o.1)
  where
    go : (b : Bool) → Ordered (keep test fs) → Ordered (cond b (f ∷ keep test fs) (keep test fs))
    go true u = (λ g i. o.0 g (was test g fs i).0, u)
    go false u = u

-- The messages fs, with one symbol more in front: each of the symbols gs.
module _ (fs : List (List ℕ)) where
  abbrev longer : List ℕ → List (List ℕ)
  longer gs = flat_map (λ g. map (◌∷◌ g) fs) gs

  longer_has : (gs : List ℕ) (g : ℕ) (f : List ℕ) → Memᴰ g gs → Memᴰ f fs → Memᴰ (g ∷ f) (longer gs)
  unfolding flat_map
  longer_has [] g f i j = elim i [ ]
  longer_has (c ∷ gs) g f i j =
      ⊎_elim (λ e. Memᴰ.append_left (longer gs) (subst (λ c. Memᴰ (g ∷ f) (map (◌∷◌ c) fs)) e (Memᴰ.map (◌∷◌ g) j)))
      (λ i. Memᴰ.append_right (map (◌∷◌ c) fs) (longer_has gs g f i j)) (Memᴰ.cases_cons i)

  -- f is one of the symbols, and then one of the messages
  record Longer (f gs : List ℕ) : Type 0 where
    first : ℕ
    rest : List ℕ
    symbol : Memᴰ first gs
    message : Memᴰ rest fs
    is : first ∷ rest ≡ f

  longer_only : (f gs : List ℕ) → Memᴰ f (longer gs) → Longer f gs
  unfolding flat_map
  longer_only f [] i = elim i [ ]
  longer_only f (c ∷ gs) i =
      ⊎_elim (λ j. let m = Memᴰ.of_map (◌∷◌ c) fs j in record { first = c; rest = m.0; symbol = Memᴰ.head refl; message = m.1; is = m.2 })
      (λ j. let l = longer_only f gs j in record { first = l.first; rest = l.rest; symbol = Memᴰ.tail l.symbol; message = l.message; is = l.is })
      (Memᴰ.append_cases (map (◌∷◌ c) fs) i)

  longer_ordered : (a n : ℕ) → Ordered fs → Ordered (longer (from a n))
  unfolding from flat_map
  longer_ordered a zero o = tt
  longer_ordered a (suc n) o = joined (map (◌∷◌ a) fs) (longer (from (suc a) n)) (led a fs o) (longer_ordered (suc a) n o) crosses
    where
      crosses : (f g : List ℕ) → Memᴰ f (map (◌∷◌ a) fs) → Memᴰ g (longer (from (suc a) n)) → Before f g
      crosses f g i j =
          let l = Memᴰ.of_map (◌∷◌ a) fs i in
          let m = longer_only g (from (suc a) n) j in
          rw (← l.2, ← m.is) (inl (mem_from m.first (suc a) n m.symbol).0)

-- Of all messages each is there, and they are in order.
module _ (q : ℕ) where
  messages_every : (k : ℕ) (f : List ℕ) → Message q k f → Memᴰ f (messages (ops q) k)
  unfolding messages below
  messages_every zero [] h = Memᴰ.head refl
  messages_every zero (c ∷ f) h = absurd (omega (arith, h.long))
  messages_every (suc k) [] h = absurd (omega (arith, h.long))
  messages_every (suc k) (c ∷ f) h =
      longer_has (messages (ops q) k) (below q) c f (from_mem c 0 q (omega arith) (omega (arith, h.small c (Memᴰ.head refl))))
      (messages_every k f (record { long = omega (arith, h.long); small = λ d i. h.small d (Memᴰ.tail i) }))

  messages_only : (k : ℕ) (f : List ℕ) → Memᴰ f (messages (ops q) k) → Message q k f
  unfolding messages below
  messages_only zero f (Memᴰ.head e) = rw e (record { long = refl; small = λ c i. elim i [ ] })
  messages_only zero f (Memᴰ.tail i) = elim i [ ]
  messages_only (suc k) f i =
      let l = longer_only (messages (ops q) k) f (below q) i in
      let h = messages_only k l.rest l.message in
      let small : (c : ℕ) → (c ≡ l.first) ⊎ Memᴰ c l.rest → c < q =
      λ c. ⊎_elim (λ e. omega (arith, e, (mem_from l.first 0 q l.symbol).1)) (h.small c) in
      rw (← l.is) (record { long = ap suc h.long; small = λ c i. small c (Memᴰ.cases_cons i) })

  messages_ordered : (k : ℕ) → Ordered (messages (ops q) k)
  unfolding messages below
  messages_ordered zero = (λ g i. elim i [ ], tt)
  messages_ordered (suc k) = longer_ordered (messages (ops q) k) 0 q (messages_ordered k)

-- No message is before itself, so that none stands twice in a list in order.
not_before : (f : List ℕ) → ¬ (Before f f)
not_before [] b = absurd b
not_before (a ∷ f) (inl l) = omega arith
not_before (a ∷ f) (inr b) = not_before f b.1

ordered_once : (fs : List (List ℕ)) → Ordered fs → Once fs
ordered_once [] o = tt
ordered_once (f ∷ fs) o = (λ i. not_before f (o.0 f i), ordered_once fs o.1)

module _ (q k m : ℕ) (points word : List ℕ) where
  -- m agreements are enough
  abbrev enough : List ℕ → Bool
  enough f = leb m (score (ops q) (triples 1 points word) f)

  in_order : Ordered (keep enough (messages (ops q) k))
  in_order = keep_ordered enough (messages (ops q) k) (messages_ordered q k)

  pub readings_list : Lists q k m points word (readings (ops q) k m points word)
  unfolding readings scoring sifted
  readings_list = record {
    every = λ f h s. kept enough f (messages (ops q) k) (messages_every q k f h) (le→leb m _ s);
    only = λ f i. let w = was enough f (messages (ops q) k) i in (messages_only q k f w.0, leb→le m _ w.1);
    once = ordered_once (keep enough (messages (ops q) k)) in_order;
    ordered = in_order;
  }
