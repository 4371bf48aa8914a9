-- The visits of a walk, one for each symbol that may follow: what each is handed, and what it leaves.
-- d, b and z are the slots, the beginning and the roots as the walk begins; d₁, b₁, z₁ and the tally `all` as the symbol is reached.
use mathlib.Core.Bool.{true}
use mathlib.Core.Path.{◌≡◌, refl, sym, ap, ◌∙◌}
use mathlib.Core.List.{List, [], ◌∷◌, ◌++◌, map}
use Prim.Native.Nat.{ℕ, zero, suc, ◌+◌, ◌-◌, ◌*◌, ◌<◌, ◌≤◌}
use native.Mathlib.Nat.{suc-mul, add-mul, mul-le-mul_right, sub-zero, pos_of_ne-zero}
use native.Mathlib.Numerals.{sub-one}
use native.Mathlib.Omega.{arith}
use lib.ListN.{length, get_or, set, take, length-set, length-append, length-map, length-take}
use lib.Seq.{get_or-set_other, get_or-take, ext_get_or, length-take-le, take-suc-set}
use Rattle.rules.specs.Field.{ops}
use Rattle.rules.specs.Search.{rows, follows}
use Rattle.algebra.specs.Search.{next, found, tried, Within}
use Rattle.buffers.proofs.Change.{changed_front}
use Rattle.buffers.proofs.Part.{len_mid}
use Rattle.roots.specs.declared.sizes.Sizes.{Sizes}
use Rattle.roots.specs.declared.Tally.{Tally}
use Rattle.followers.specs.Slot.{run, SlotBelow, curve}
use Rattle.followers.specs.Followers.{following, Written, Appended}
use Rattle.lengthening.specs.Lengthened.{Lengthened}
use Rattle.roots.specs.Ready.{size, found_at, tried_at, listed, SearchReady}
use Rattle.beginnings.specs.Searched.{Searched}
use Rattle.followers.proofs.Heads.{run_at}
use Rattle.followers.proofs.Blocks.{following_each}
use Rattle.roots.proofs.Roots.{listed_none, listed_append, listed_more}
use Rattle.followers.proofs.Written.{written_none, written_append, written_to}
use Rattle.beginnings.proofs.Walked.{walked, passed, through, behind, walked_none, passed_none, walked_more, passed_more, walked_most, passed_most, walked_long, hit, hit_tried, found_walked, tried_passed}

pub peel : (left s : ℕ) → 0 < left → left * s ≡ (left - 1) * s + s
peel zero s l = absurd (omega arith)
peel (suc n) s l = rw (sub-one (suc n)) (suc-mul n s)

-- the same list of messages and the same count, by other names
pub searched_to : {sizes : Sizes} {left a n m : ℕ} {d b z d' b' z' : List ℕ} {t r : Tally} {fs gs : List (List ℕ)} →
    Searched sizes left a d b z t fs n d' b' z' r → fs ≡ gs → n ≡ m → Searched sizes left a d b z t gs m d' b' z' r
searched_to s e f = rw (e, f) at s

module _ (sizes : Sizes) (left a : ℕ) (d b z : List ℕ) (t : Tally) where
  abbrev pub q : ℕ
  q = sizes.rows.field.q

  abbrev pub k : ℕ
  k = sizes.k

  abbrev pub S : ℕ
  S = size sizes

  abbrev pub Q : List (List ℕ)
  Q = curve sizes.rows.w sizes.rows.l a d

  -- the symbols that may follow
  abbrev pub ks : List ℕ
  ks = following q Q q

  abbrev pub fs : ℕ → List (List ℕ)
  fs i = walked q (left - 1) Q i

  abbrev pub ns : ℕ → ℕ
  ns i = passed q (left - 1) Q i

  abbrev pub Seen : ℕ → List ℕ → List ℕ → List ℕ → Tally → Type 0
  Seen i d₁ b₁ z₁ all = Searched sizes left a d b z t (fs i) (ns i) d₁ b₁ z₁ all

  -- before the first symbol
  pub seen_none : Seen 0 d b z t
  seen_none = record {
    found = omega (arith, ap length (walked_none q (left - 1) Q));
    tried = omega (arith, passed_none q (left - 1) Q);
    list = written_to [] _ (written_none _ z) (sym (ap (listed (take (k - left) b)) (walked_none q (left - 1) Q) ∙ listed_none (take (k - left) b)));
    slots = refl;
    kept = λ j l m. refl;
    beginning = refl;
    placed = λ j l. refl;
  }

  module _ (some : 0 < left) (ready : SearchReady sizes left a d b z t (found_at sizes left a d) (tried_at sizes left a d - 1)) {i : ℕ} (il : i < length ks)
      {d₁ b₁ z₁ : List ℕ} {all : Tally} (seen : Seen i d₁ b₁ z₁ all) where
    pub room_after : a + S + S ≤ length d₁
    room_after = omega (arith, ready.slots, peel left S some, seen.slots)

    -- the curve still stands in its slot
    pub same_curve : curve sizes.rows.w sizes.rows.l a d₁ ≡ Q
    same_curve = ap (rows sizes.rows.w (sizes.rows.l + 1))
        (ext_get_or 0 (run a S d₁) (run a S d) (len_mid a S d₁ (omega (arith, room_after)) ∙ sym (len_mid a S d (omega (arith, room_after, seen.slots)))) go)
      where
        go : (j : ℕ) → j < length (run a S d₁) → get_or (run a S d₁) j 0 ≡ get_or (run a S d) j 0
        go j l =
            let m : j < S = omega (arith, len_mid a S d₁ (omega (arith, room_after))) in
            run_at a S d₁ j m ∙ seen.kept (a + j) (omega (arith, ready.spare)) (omega arith) ∙ sym (run_at a S d j m)

    pub same_low : SlotBelow q a S d₁
    same_low j l = rw (seen.kept (a + j) (omega (arith, ready.spare)) (omega arith)) (ready.low j l)

    pub symbol : {g : ℕ} → g ≡ get_or ks i 0 → g < q
    symbol is = rw is (following_each q Q i il).1

    -- the i-th symbol that may follow
    module _ {g : ℕ} (is : g ≡ get_or ks i 0) {d₂ : List ℕ} (nx : Lengthened q g sizes.rows.w sizes.rows.l a d₁ d₂) where
      abbrev place : ℕ
      place = k - left

      abbrev b₂ : List ℕ
      b₂ = set b₁ place g

      may : follows (ops q) Q g ≡ true
      may = rw is (following_each q Q i il).0

      inside : Within (ops q) (left - 1) sizes.rows.w (curve sizes.rows.w sizes.rows.l a d₁)
      inside = rw same_curve ready.within

      abbrev found' : List (List ℕ)
      found' = found_at sizes (left - 1) (a + S) d₂

      abbrev tried' : ℕ
      tried' = tried_at sizes (left - 1) (a + S) d₂

      found_is : found' ≡ found (ops q) (left - 1) (next (ops q) g Q)
      found_is = nx.found (left - 1) inside ∙ ap (λ (P : List (List ℕ)). found (ops q) (left - 1) (next (ops q) g P)) same_curve

      tried_is : tried' ≡ tried (ops q) (left - 1) (next (ops q) g Q)
      tried_is = nx.tried (left - 1) inside ∙ ap (λ (P : List (List ℕ)). tried (ops q) (left - 1) (next (ops q) g P)) same_curve

      more : fs (i + 1) ≡ fs i ++ map (◌∷◌ g) found'
      more = walked_more q (left - 1) Q i il ∙ ap (◌++◌ (fs i)) (ap (through q (left - 1) Q) (sym is) ∙ hit q (left - 1) Q g may ∙ ap (map (◌∷◌ g)) (sym found_is))

      more_length : length (fs (i + 1)) ≡ length (fs i) + length found'
      more_length = ap length more ∙ length-append (fs i) (map (◌∷◌ g) found') ∙ ap (◌+◌ (length (fs i))) (length-map found' (◌∷◌ g))

      more_tried : ns (i + 1) ≡ ns i + tried'
      more_tried = passed_more q (left - 1) Q i il ∙ ap (◌+◌ (ns i)) (ap (behind q (left - 1) Q) (sym is) ∙ hit_tried q (left - 1) Q g may ∙ sym tried_is)

      few : length (fs (i + 1)) ≤ length (found (ops q) left Q)
      few = rw (found_walked q left Q some) (walked_most q (left - 1) Q (i + 1))

      few_tried : ns (i + 1) ≤ tried (ops q) left Q - 1
      few_tried = omega (arith, tried_passed q left Q some, passed_most q (left - 1) Q (i + 1))

      pub enter : SearchReady sizes (left - 1) (a + S) d₂ b₂ z₁ all found' tried'
      enter = record {
        placed = omega (arith, ready.placed);
        spare = omega arith;
        slots = omega (arith, ready.slots, peel left S some, seen.slots, nx.len);
        low = nx.low;
        within = nx.within (left - 1) inside;
        live = λ o. nx.live (left - 1) o inside (rw same_curve (ready.live some));
        beginning = omega (arith, length-set b₁ place g, seen.beginning, ready.beginning);
        room = omega (
          arith,
          seen.list.len,
          ready.room,
          mul-le-mul_right {m = all.found + length found'} {n = t.found + length (found (ops q) left Q)} k (omega (arith, seen.found, more_length, few)),
        );
        count = omega (arith, seen.tried, more_tried, few_tried, ready.count);
      }

      abbrev p : List ℕ
      p = take place b

      -- the symbol stands behind those placed
      begun : take (k - (left - 1)) b₂ ≡ p ++ (g ∷ [])
      begun =
          let n : k - (left - 1) ≡ suc place = omega (arith, ready.placed) in
          ap (λ (n : ℕ). take n b₂) n ∙ take-suc-set b₁ place g (omega (arith, ready.placed, ready.beginning, seen.beginning))
          ∙ ap (λ (x : List ℕ). x ++ (g ∷ [])) same
        where
          fits : place ≤ length b
          fits = omega (arith, ready.beginning)

          same : take place b₁ ≡ take place b
          same = ext_get_or 0 (take place b₁) (take place b) (length-take-le place b₁ (omega (arith, fits, seen.beginning)) ∙ sym (length-take-le place b fits))
              (λ j l. let m : j < place = omega (arith, length-take place b₁) in get_or-take place b₁ j 0 m ∙ seen.placed j m ∙ sym (get_or-take place b j 0 m))

      long : length (listed p (fs i)) ≡ length (fs i) * k
      long =
          let n : length p + suc (left - 1) ≡ k = omega (arith, length-take-le place b (omega (arith, ready.beginning)), ready.placed) in
          walked_long q (left - 1) Q p i ∙ ap (λ (n : ℕ). length (fs i) * n) n

      pub leave : {d₃ b₃ z₃ : List ℕ} {r : Tally} → Searched sizes (left - 1) (a + S) d₂ b₂ z₁ all found' tried' d₃ b₃ z₃ r → Seen (i + 1) d₃ b₃ z₃ r
      leave v = record {
        found = omega (arith, v.found, seen.found, more_length);
        tried = omega (arith, v.tried, seen.tried, more_tried);
        list = written_to (listed p (fs i) ++ listed (take (k - (left - 1)) b₂) found') _
            (written_append (listed p (fs i)) (listed (take (k - (left - 1)) b₂) found') seen.list v.list
            (ap (λ (n : ℕ). n * k) seen.found ∙ add-mul t.found (length (fs i)) k ∙ ap (◌+◌ (t.found * k)) (sym long)))
            (ap (◌++◌ (listed p (fs i))) (ap (λ (x : List ℕ). listed x found') begun ∙ listed_more p g found')
            ∙ sym (ap (listed p) more ∙ listed_append p (fs i) (map (◌∷◌ g) found')));
        slots = v.slots ∙ nx.len ∙ seen.slots;
        kept = λ j l m. v.kept j l (omega arith) ∙ nx.kept j l m ∙ seen.kept j l m;
        beginning = v.beginning ∙ length-set b₁ place g ∙ seen.beginning;
        placed = λ j l. v.placed j (omega (arith, ready.placed)) ∙ get_or-set_other b₁ place j g 0 (λ u. omega arith) ∙ seen.placed j l;
      }

-- a symbol of those counted, in the buffer that they were written to
pub symbol_at : {xs d e : List ℕ} {r n i : ℕ} → Appended xs 0 d e r → i < length (take n e) → n ≤ r → (i < length xs) × (get_or (take n e) i 0 ≡ get_or xs i 0)
symbol_at {xs} {d} {e} {r} {n} {i} fo it le =
    let l : i < n = omega (arith, length-take n e) in
    let m : i < length xs = omega (arith, fo.count) in
    (m, get_or-take n e i 0 l ∙ changed_front fo.list i m)

-- with symbols left, the beginning visited is tried
pub tried_some : (sizes : Sizes) (left a : ℕ) (d : List ℕ) → ¬ (left ≡ 0) → 0 < tried_at sizes left a d
tried_some sizes left a d n = omega (arith, tried_passed sizes.rows.field.q left (curve sizes.rows.w sizes.rows.l a d) (pos_of_ne-zero n))

-- with no symbol left, one beginning is tried
pub ready_end : {sizes : Sizes} {left a : ℕ} {d b z : List ℕ} {t : Tally} → left ≡ 0 →
    SearchReady sizes left a d b z t (found_at sizes left a d) (tried_at sizes left a d)
    → SearchReady sizes 0 a d b z t (found_at sizes 0 a d) 1
unfolding tried
ready_end e r = rw e at r

-- the visit has counted one, the walk counts the rest
pub ready_walk : {sizes : Sizes} {left a : ℕ} {d b z : List ℕ} {t s : Tally} (fs : List (List ℕ)) (n : ℕ) → 0 < n → s ≡ record t { tried = t.tried + 1 } →
    SearchReady sizes left a d b z t fs n → SearchReady sizes left a d b z s fs (n - 1)
ready_walk fs n o e r = rw e record {
  placed = r.placed;
  spare = r.spare;
  slots = r.slots;
  low = r.low;
  within = r.within;
  live = r.live;
  beginning = r.beginning;
  room = r.room;
  count = omega (arith, r.count);
}

pub searched_end : {sizes : Sizes} {left a : ℕ} {d b z z' : List ℕ} {t r : Tally} → left ≡ 0 →
    (r.found ≡ t.found + length (found_at sizes 0 a d)) × (r.tried ≡ t.tried + 1)
    × Written (listed (take sizes.k b) (found_at sizes 0 a d)) (t.found * sizes.k) z z'
    → Searched sizes left a d b z t (found_at sizes left a d) (tried_at sizes left a d) d b z' r
unfolding tried
searched_end {sizes} {left} {a} {d} {b} {z} {z'} {t} {r} e s = rw e record {
  found = s.0;
  tried = s.1;
  list = rw (sub-zero sizes.k) s.2;
  slots = refl;
  kept = λ j l m. refl;
  beginning = refl;
  placed = λ j l. refl;
}

pub searched_visit : {sizes : Sizes} {left a : ℕ} {d b z d' b' z' : List ℕ} {t s r : Tally} (fs : List (List ℕ)) (n : ℕ) → 0 < n →
    s ≡ record t { tried = t.tried + 1 } → Searched sizes left a d b z s fs (n - 1) d' b' z' r → Searched sizes left a d b z t fs n d' b' z' r
searched_visit {sizes} {left} {a} {d} {b} {z} {d'} {b'} {z'} {t} {s} {r} fs n o e v =
    let u : Searched sizes left a d b z (record t { tried = t.tried + 1 }) fs (n - 1) d' b' z' r = rw e at v in
    record { found = u.found; tried = omega (arith, u.tried); list = u.list; slots = u.slots; kept = u.kept; beginning = u.beginning; placed = u.placed }
