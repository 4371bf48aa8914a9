-- Request No. 1 on document 01's example Seven: which reels are refused, and what one of three words leaves, its second with a 7 for a symbol.
use mathlib.Core.Path.{◌≡◌, refl}
use mathlib.Core.List.{List, [], ◌∷◌, ◌++◌, map, flatten, flat_map, zip_with}
use Prim.Native.Nat.{ℕ}
use native.Mathlib.Omega.{arith}
use lib.ListN.{take, replicate, set}
use Rattle.rules.specs.Lists.{from, below, all, keep, pick, sum, distinct}
use Rattle.rules.specs.Field.{plus, minus, times, image, alike, prime, modulus}
use Rattle.rules.specs.Code.{triples, zeros, eval, meets, score, messages, sifted}
use Rattle.rules.specs.Setting.{Setting, code_ranges, ranges, W, ℓ, C, U, R, curve_length}
use Rattle.rules.specs.Curve.{binomial, power, total, coefficient, weighted, hasse, through, passes}
use Rattle.rules.specs.Search.{
  rows,
  merge,
  width,
  rest,
  first,
  firsts,
  strip,
  stripped,
  scale,
  step,
  follows,
  alive,
  beginnings,
  product,
  along,
  roots,
  listed,
}
use Rattle.rules.specs.Refusal.{lowest, long, under, symbol_causes, point_causes, setting_causes, word_causes, fits, read_refusal}
use Rattle.rules.specs.Outcome.{over, cleared, usable, tried_of, list_of, Reading, read_call}
use Rattle.rules.specs.Reel.{Lent, last, reel_short, reel_refusal, Reels}
use Rattle.rules.proofs.Table.{seven, points, word, curve}

abbrev S : Setting
S = seven 7 1 3

-- the words, the word with the 7 between two others
abbrev words : List ℕ
words = word ++ (set word 3 7 ++ word)

-- numbers that stand in every lent place before: so many of the output, of curve buffer, of work and of each list
abbrev held : ℕ → ℕ → ℕ → ℕ → ℕ → ℕ → Lent
held output curve work found tried refusals = record {
  output = replicate output 9;
  curve = replicate curve 9;
  work = replicate work 9;
  found = replicate found 9;
  tried = replicate tried 9;
  refusals = replicate refusals 9;
}

pub record ReelTable : Type 0 where
  pub taken : reel_refusal S points words (held 18 16 144 3 3 3) ≡ 0
  pub not_divided : reel_refusal S points (take 20 words) (held 18 16 144 3 3 3) ≡ 5
  pub less_than_a_word : reel_refusal S points (take 6 words) (held 18 16 144 3 3 3) ≡ 5
  pub point_not_below : reel_refusal S (set points 6 7) words (held 18 16 144 3 3 3) ≡ 6
  pub points_equal : reel_refusal S (set points 6 5) words (held 18 16 144 3 3 3) ≡ 7
  pub output_short : reel_refusal S points words (held 17 16 144 3 3 3) ≡ 8
  pub found_short : reel_refusal S points words (held 18 16 144 2 3 3) ≡ 8
  pub tried_short : reel_refusal S points words (held 18 16 144 3 2 3) ≡ 8
  pub refusals_short : reel_refusal S points words (held 18 16 144 3 3 2) ≡ 8
  pub no_words : reel_refusal S points [] (held 0 16 144 0 0 0) ≡ 0
  pub no_words_no_work : reel_refusal S points [] (held 0 16 143 0 0 0) ≡ 8

pub reel_table : ReelTable
unfolding from below all keep pick sum distinct alike prime modulus code_ranges ranges W ℓ C U R curve_length lowest long under symbol_causes
    point_causes setting_causes reel_short reel_refusal
reel_table = search

-- what a reading of each word may leave: two messages from the curve y² − x·y, or the refusal number 6
abbrev read : Reading
read = record { refusal = 0; found = 2; tried = 4; output = 0 ∷ 0 ∷ 0 ∷ 1 ∷ 9 ∷ 9 ∷ []; curve = curve; work = replicate 144 0 }

abbrev refused : Reading
refused = record { refusal = 6; found = 0; tried = 0; output = replicate 6 9; curve = curve; work = replicate 144 0 }

abbrev outcomes : List Reading
outcomes = read ∷ refused ∷ read ∷ []

-- .. and all of them, with a place left behind the output and behind each list
abbrev left : Lent
left = record {
  output = flatten (map (λ (o : Reading). o.output) outcomes) ++ (9 ∷ []);
  curve = curve;
  work = replicate 144 0;
  found = 2 ∷ 0 ∷ 2 ∷ 9 ∷ [];
  tried = 4 ∷ 0 ∷ 4 ∷ 9 ∷ [];
  refusals = 0 ∷ 6 ∷ 0 ∷ 9 ∷ [];
}

pub three_words : Reels S points words (held 19 16 144 4 4 4) 0 left
unfolding from below all keep pick sum distinct plus minus times image alike prime modulus flatten flat_map zip_with triples eval meets score sifted
    messages code_ranges ranges W ℓ C U R curve_length binomial power total coefficient weighted hasse through passes rows merge width rest first
    zeros firsts strip stripped scale step follows alive beginnings product along roots listed lowest long under symbol_causes
    point_causes setting_causes word_causes fits read_refusal over cleared usable tried_of list_of read_call last reel_short reel_refusal
three_words = record {
  number = refl;
  refused = λ n. absurd (n refl);
  accepted = λ _. record {
    outcomes = outcomes;
    chain = (
      record { passes = λ _. tt; rest = refl },
      (record { passes = λ z. absurd (omega arith); rest = refl }, (record { passes = λ _. tt; rest = refl }, tt)),
    );
    output = refl;
    curve = refl;
    work = refl;
    found = refl;
    tried = refl;
    refusals = refl;
  };
}
