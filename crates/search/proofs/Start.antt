-- The search of a curve: it starts from the curve stripped, finds its roots and tries its beginnings, at most so many.
use mathlib.Core.Bool.{not}
use mathlib.Core.Path.{◌≡◌, refl, sym, ap, ap₂, ◌∙◌}
use mathlib.Core.List.{List, [], ◌∷◌, ◌++◌, map, flatten}
use Prim.Native.Nat.{ℕ, ◌+◌, ◌-◌, ◌*◌, ◌<◌, ◌≤◌, Fin}
use native.Mathlib.Nat.{zero-add, sub_self, add-mul, mul-le-mul_right}
use native.Mathlib.Omega.{arith}
use lib.Dec.{T}
use Rattle.std.proofs.lemmas.List.{take_at}
use lib.ListN.{length, get_or, take, drop, length-map, length-append, length-drop}
use lib.Seq.{ext_get_or}
use Rattle.rules.specs.Code.{zeros}
use Rattle.rules.specs.Curve.{weighted}
use Rattle.rules.specs.Field.{Ops, ops, modulus}
use Rattle.rules.specs.Outcome.{over}
use Rattle.rules.specs.Search.{rows, stripped, beginnings, roots}
use Rattle.algebra.specs.Search.{found, tried, Within, Headed}
use Rattle.algebra.proofs.Lists.{map_rows}
use Rattle.algebra.proofs.Bridge.{zeros_hom, weighted_hom, stripped_hom, beginnings_hom}
use Rattle.algebra.proofs.Search.{found_hom, tried_hom, found_roots, tried_beginnings}
use Rattle.algebra.proofs.Alive.{curve_headed, roots_few, beginnings_few}
use Rattle.algebra.proofs.Slot.{rows_within}
use Rattle.prime.specs.Field.{value, elt, field}
use Rattle.prime.proofs.Below.{modulus_two}
use Rattle.prime.proofs.Laws.{laws}
use Rattle.demands.proofs.Link.{elt_hom, value_hom}
use Rattle.demands.proofs.Listing.{roots_values}
use Rattle.buffers.specs.Change.{Changed}
use Rattle.buffers.proofs.Change.{changed_list}
use Rattle.buffers.proofs.Part.{len_mid}
use Rattle.roots.specs.declared.sizes.Sizes.{Sizes}
use Rattle.roots.specs.declared.Tally.{Tally}
use Rattle.followers.specs.Slot.{run, curve}
use Rattle.lengthening.specs.Lengthened.{SlotStripped}
use Rattle.roots.specs.Ready.{size, found_at, tried_at, listed, SearchReady}
use Rattle.search.specs.Search.{Asked, CurveSearched, RootsLeft, roots_of, tried_of, none}
use Rattle.beginnings.specs.Searched.{Searched}
use Rattle.followers.proofs.Heads.{run_at, run_front}
use Rattle.lengthening.proofs.Numbers.{rows_values}
use Rattle.lengthening.proofs.Longer.{strip_found, strip_tried, strip_within, strip_live, within_values}
use Rattle.lengthening.proofs.Lengthened.{shifted, strip_low}
use Rattle.followers.proofs.Written.{written_to}
use Rattle.beginnings.proofs.Walked.{long}

listed_empty : (fs : List (List ℕ)) → listed [] fs ≡ flatten fs
unfolding listed flatten
listed_empty [] = refl
listed_empty (f ∷ fs) = ap (◌++◌ f) (listed_empty fs)

-- what the theorems say of the curve c
module _ (q : ℕ) (m : T (modulus q)) (k w l : ℕ) (c : List ℕ) (o : 0 < w) (long : length c ≡ (l + 1) * w)
    (low : (j : ℕ) → j < (l + 1) * w → get_or c j 0 < q) where
  abbrev h : 1 < q
  h = modulus_two q m

  abbrev F : Ops
  F = field q h

  abbrev e : ℕ → Fin q
  e = elt q h

  abbrev Q : List (List ℕ)
  Q = rows w (l + 1) c

  found_all : found (ops q) k (stripped (ops q) Q) ≡ roots (ops q) k Q
  found_all =
      ap (λ (P : List (List ℕ)). found (ops q) k (stripped (ops q) P)) (sym (rows_values q m w (l + 1) c low))
      ∙ ap (found (ops q) k) (sym (stripped_hom F (ops q) value (value_hom q m h) (map (map e) Q)))
      ∙ sym (found_hom F (ops q) value (value_hom q m h) k (stripped F (map (map e) Q)))
      ∙ ap (map (map value)) (found_roots F (laws q m h) k (map (map e) Q))
      ∙ sym (roots_values q m k Q)

  tried_all : tried (ops q) k (stripped (ops q) Q) ≡ beginnings (ops q) k Q
  tried_all =
      tried_hom (ops q) F e (elt_hom q m h) k (stripped (ops q) Q)
      ∙ ap (tried F k) (stripped_hom (ops q) F e (elt_hom q m h) Q)
      ∙ tried_beginnings F (laws q m h) k (map (map e) Q)
      ∙ sym (beginnings_hom (ops q) F e (elt_hom q m h) k Q)

  module _ (live : T (not (zeros (ops q) c))) where
    live_elts : T (not (zeros F (map e c)))
    live_elts = rw (← zeros_hom (ops q) F e (elt_hom q m h) c) live

    headed : Headed F l (stripped F (rows w (l + 1) (map e c)))
    headed = curve_headed F (laws q m h) w l (map e c) o (length-map c e ∙ long) live_elts

    few : 1 ≤ k → length (roots (ops q) k Q) ≤ l
    few s =
        rw (roots_values q m k Q) (rw (length-map (roots F k (map (map e) Q)) (map value))
        (rw (map_rows e w (l + 1) c) (roots_few F (laws q m h) w l (map e c) o (length-map c e ∙ long) live_elts k s)))

    pub bound : beginnings (ops q) k Q ≤ 1 + l * k
    bound =
        rw (beginnings_hom (ops q) F e (elt_hom q m h) k Q)
        (rw (map_rows e w (l + 1) c) (beginnings_few F (laws q m h) w l (map e c) o (length-map c e ∙ long) live_elts k))

  inside : T (weighted (ops q) k w l c) → Within (ops q) (k - 1) w Q
  inside t = within_values q m w (l + 1) (k - 1) c low (rows_within F (laws q m h) k w l (map e c) (rw (← weighted_hom (ops q) F e (elt_hom q m h) k w l c) t))

-- d₁ is the buffer with the curve in its spare, d₂ with the curve stripped behind it
module _ (sizes : Sizes) {c d z : List ℕ} {t : Tally} (asked : Asked sizes.rows.field.q sizes.k sizes.rows.w sizes.rows.l c d z t)
    {d₁ d₂ : List ℕ} (st : SlotStripped sizes.rows.w sizes.rows.l (size sizes) d₁ d₂) (len : length d₁ ≡ length d)
    (copied : (j : ℕ) → j < size sizes → get_or d₁ j 0 ≡ get_or c j 0) where
  abbrev q : ℕ
  q = sizes.rows.field.q

  abbrev k : ℕ
  k = sizes.k

  abbrev w : ℕ
  w = sizes.rows.w

  abbrev l : ℕ
  l = sizes.rows.l

  abbrev S : ℕ
  S = size sizes

  -- what is found from the curve stripped, and how many beginnings are tried
  abbrev fs : List (List ℕ)
  fs = found_at sizes k S d₂

  abbrev ns : ℕ
  ns = tried_at sizes k S d₂

  slots : S + (k * S + S) ≤ length d
  slots = omega (arith, asked.slots, add-mul k 2 S)

  low : (j : ℕ) → j < S → get_or c j 0 < q
  low j m = asked.low j (omega (arith, asked.long))

  spare : run 0 S d₁ ≡ c
  spare = ext_get_or 0 (run 0 S d₁) c (len_mid 0 S d₁ (omega (arith, slots, len)) ∙ sym asked.long) λ j m.
      let n : j < S = omega (arith, len_mid 0 S d₁ (omega (arith, slots, len))) in
      run_front S d₁ j n ∙ copied j n

  low_p : (j : ℕ) → j < S → get_or (run 0 S d₁) j 0 < q
  low_p j m = rw spare (low j m)

  low_r : (j : ℕ) → j < S → get_or (run S S d₂) j 0 < q
  low_r = strip_low w l S d₁ d₂ st q (omega (arith, modulus_two q asked.field)) asked.wide low_p

  is_found : fs ≡ roots_of q k w l c
  is_found =
      strip_found q asked.field w (l + 1) (run 0 S d₁) (run S S d₂) low_p low_r (shifted w l S d₁ d₂ st) k
      ∙ ap (λ (p : List ℕ). found (ops q) k (stripped (ops q) (rows w (l + 1) p))) spare ∙ found_all q asked.field k w l c asked.wide asked.long low

  is_tried : ns ≡ tried_of q k w l c
  is_tried =
      strip_tried q asked.field w (l + 1) (run 0 S d₁) (run S S d₂) low_p low_r (shifted w l S d₁ d₂ st) k
      ∙ ap (λ (p : List ℕ). tried (ops q) k (stripped (ops q) (rows w (l + 1) p))) spare ∙ tried_all q asked.field k w l c asked.wide asked.long low

  few_roots : length (roots_of q k w l c) ≤ l
  few_roots = few q asked.field k w l c asked.wide asked.long low asked.live asked.symbols

  few_tried : tried_of q k w l c ≤ 1 + l * k
  few_tried = bound q asked.field k w l c asked.wide asked.long low asked.live

  pub started : (b : List ℕ) → k ≤ length b → SearchReady sizes k S d₂ b z t fs ns
  started b fits = record {
    placed = omega arith;
    spare = omega arith;
    slots = omega (arith, slots, len, st.moved.len);
    low = λ j m. rw (← run_at S S d₂ j m) (low_r j m);
    within = strip_within q asked.field w (l + 1) (run 0 S d₁) (run S S d₂) low_p low_r (shifted w l S d₁ d₂ st) (k - 1)
        (rw spare (inside q asked.field k w l c asked.wide asked.long low asked.fits));
    live = λ _. strip_live q asked.field w (l + 1) (run 0 S d₁) (run S S d₂) low_p low_r (shifted w l S d₁ d₂ st) l
        (rw spare (headed q asked.field k w l c asked.wide asked.long low asked.live));
    beginning = fits;
    room = omega (
      arith,
      asked.room,
      mul-le-mul_right {m = t.found + length fs} {n = t.found + l} k (omega (arith, ap length is_found, few_roots)),
    );
    count = omega (arith, asked.count, is_tried, few_tried);
  }

  pub given : {d₃ b b' z' : List ℕ} {r : Tally} →
      Searched sizes k S d₂ b z t fs ns d₃ b' z' r → CurveSearched q k w l c d z t d₃ z' r
  given {d₃} {b} {b'} {z'} {r} s = record {
    found = omega (arith, s.found, ap length is_found);
    tried = omega (arith, s.tried, is_tried);
    list = written_to (listed (take (k - k) b) fs) (flatten (roots_of q k w l c)) s.list
        (ap₂ (λ (n : ℕ) (fs : List (List ℕ)). listed (take n b) fs) (sub_self k) is_found ∙ listed_empty (roots_of q k w l c));
    long = ap length (sym (ap flatten is_found) ∙ sym (listed_empty fs)) ∙ long q k (curve w l S d₂) []
        ∙ ap₂ (λ (a b : ℕ). a * b) (ap length is_found) (zero-add k);
    few = few_roots;
    bound = few_tried;
    slots = s.slots ∙ st.moved.len ∙ len;
  }

-- ys, which is the curve, stored over the spare
pub copied_spare : {q k w l : ℕ} {c d z : List ℕ} {t : Tally} (ys : List ℕ) → Asked q k w l c d z t → ys ≡ c →
    (length (ys ++ drop (length c) d) ≡ length d) × (run 0 ((l + 1) * w) (ys ++ drop (length c) d) ≡ c)
copied_spare {q} {k} {w} {l} {c} {d} ys h same =
    let fits : length c ≤ length d = omega (arith, h.long, h.slots, add-mul k 2 ((l + 1) * w)) in (
      omega (arith, ap length same, length-append ys (drop (length c) d), length-drop (length c) d),
      take_at ys (drop (length c) d) ((l + 1) * w) (ap length same ∙ h.long) ∙ same,
    )

-- the roots from the front on
pub roots_front : {q k w l : ℕ} {c d d₁ z d₂ z' : List ℕ} {r : Tally} → Asked q k w l c d z none → length d₁ ≡ length d →
    CurveSearched q k w l c d₁ z none d₂ z' r → RootsLeft q k w l c d z d₂ z' r
unfolding over
roots_front {q} {k} {w} {l} {c} {d} {d₁} {z} {d₂} {z'} {r} a len g = record {
  found = omega (arith, g.found);
  tried = omega (arith, g.tried);
  list = changed_list (flatten (roots_of q k w l c)) (front_written g.list) refl
      (omega (arith, g.long, a.room, mul-le-mul_right {m = length (roots_of q k w l c)} {n = 0 + l} k (omega (arith, g.few)))) (λ j m. refl);
  few = g.few;
  bound = g.bound;
  slots = g.slots ∙ len;
}
  where
    front_written : Changed (λ j. get_or (flatten (roots_of q k w l c)) j 0) (0 * k) (length (flatten (roots_of q k w l c))) z z' →
        Changed (λ j. get_or (flatten (roots_of q k w l c)) j 0) 0 (length (flatten (roots_of q k w l c))) z z'
    front_written h = let e : 0 * k ≡ 0 = omega arith in rw e at h
