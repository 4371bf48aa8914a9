-- Sequences of symbols, coefficients and Taylor coefficients: the words in which the theorems speak of polynomials.
use Rattle.std.specs.Prelude.{◌≡◌, List, [], ◌∷◌, map, ℕ, zero, suc, ◌<◌, ◌≤◌, get_or}
use Rattle.rules.specs.Field.{Ops}
use Rattle.rules.specs.Search.{merge, scale}

module _ (O : Ops) where
  open O use {Symbol, nil, add, sub, mul}

  abbrev pub Seq : Type 0
  Seq = ℕ → Symbol

  -- the entries below k vanish
  abbrev pub Val : ℕ → Seq → Type 0
  Val k s = (i : ℕ) → i < k → s i ≡ nil

  -- the entries from n on vanish
  abbrev pub Short : ℕ → Seq → Type 0
  Short n s = (i : ℕ) → n ≤ i → s i ≡ nil

  unfoldable pub coef : List Symbol → Seq
  coef q i = get_or q i nil

  -- every coefficient is zero
  abbrev pub Zero : List Symbol → Type 0
  Zero q = (i : ℕ) → coef q i ≡ nil

  abbrev pub neg : Symbol → Symbol
  neg a = sub nil a

  -- the coefficients of q(x + α)
  unfoldable pub taylor : Symbol → List Symbol → Seq
  taylor α [] a = nil
  taylor α (c ∷ q) zero = add c (mul α (taylor α q zero))
  taylor α (c ∷ q) (suc a) = add (mul α (taylor α q (suc a))) (taylor α q a)

  -- (x − α)·q
  unfoldable pub factor : Symbol → List Symbol → List Symbol
  factor α q = merge add (nil ∷ q) (scale O (neg α) q)

  -- the coefficient of x^a·y^b of Q(x + α, y + r)
  unfoldable pub taylor² : Symbol → Symbol → ℕ → ℕ → List (List Symbol) → Symbol
  taylor² α r a b Q = taylor r (map (λ q. taylor α q a) Q) b

  -- The operators on sequences: a polynomial acts on sequences through them.

  unfoldable pub plus : Seq → Seq → Seq
  plus a b = λ i. add (a i) (b i)

  -- c times a sequence
  unfoldable pub stretch : Symbol → Seq → Seq
  stretch c a = λ i. mul c (a i)

  unfoldable pub none : Seq
  none = λ _. nil

  -- x times a sequence
  unfoldable pub shift : Seq → Seq
  shift a zero = nil
  shift a (suc n) = a n

  unfoldable pub lone : Symbol → Seq
  lone a zero = a
  lone a (suc n) = nil

  -- (α + x) times a sequence
  unfoldable pub near : Symbol → Seq → Seq
  near α s = plus (stretch α s) (shift s)

  -- the polynomial f of the operator u
  unfoldable pub act : (Seq → Seq) → List Symbol → Seq → Seq
  act u [] s = none
  act u (a ∷ f) s = plus (stretch a s) (u (act u f s))

  -- Horner's rule for the operator u over a list of sequences
  unfoldable pub horner : (Seq → Seq) → List Seq → Seq
  horner u [] = none
  horner u (s ∷ A) = plus s (u (horner u A))

  -- the list of Q(x, w·y + r)
  unfoldable pub expand : (Seq → Seq) → Symbol → List Seq → List Seq
  expand w r [] = []
  expand w r (s ∷ A) = merge plus (s ∷ map w (expand w r A)) (map (stretch r) (expand w r A))

  unfoldable pub entry : List Seq → ℕ → Seq
  entry [] b = none
  entry (s ∷ A) zero = s
  entry (s ∷ A) (suc b) = entry A b
