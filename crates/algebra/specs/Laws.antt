-- What document 01 says of the order of the coefficients, of a generator and of the algebra, as claims about the definitions.
--
--   Order m           `perms m` are the permutations of rank m, each at its place; an element of rank m + 1 is m + 2 blocks of (m + 1)! coefficients,
--                     and block k, an element of rank m, has at u the coefficient that stands at u a(m + 1, k)
--   Formula           formula 3.1: what T_i makes of T_w; h T_i is the sum over w of h_w T_w T_i; and formula 4.1 as an operator on pairs of coefficients
--   Calls A           four calls: product, sum, scaling, action of a word
--   defined m         the definitions as such calls, on elements of rank m
--   Closed calls      basis elements are elements of rank m, and the calls make elements of elements
--   Distant i j       i and j are more than 1 apart
--   Laws calls        demand 3's laws for calls on elements of rank m, for any q and r. There E h says that h is an element of rank m; h · g, h ⊕ g and
--                     x ⊙ h are the product, sum and scaling of the calls, 𝟏 is the unit and t i is T_i
--   Hecke calls       these laws, and r + 1 = q
use Rattle.std.specs.Prelude.{◌≡◌, ◌⊎◌, List, [], ℕ, suc, ◌+◌, ◌≤◌, ◌<◌, length, get_or}
use Rattle.ring.specs.Ring.{Ops}
use Rattle.lists.specs.Lists.{All}
use Rattle.lists.specs.Numbers.{factorial}
use Rattle.lists.specs.Blocks.{block, blocks}
use Rattle.perms.specs.Permutation.{Perm, Letter, Shortest}
use Rattle.algebra.specs.Place.{place, join, perms}
use Rattle.algebra.specs.Element.{Element, coefficient, plus, scale, sum_over, basis, unit, T}
use Rattle.algebra.specs.Product.{basis_letter, letter, act, times}
use Rattle.algebra.specs.Pairs.{forward, on_pairs}

-- ---- the order of the coefficients

pub record Order (A : Type 0) (o : Ops A) (m : ℕ) : Type 0 where
  pub perm : All (Perm m) (perms m)
  pub number : length (perms m) ≡ factorial (suc m)
  pub place_below : (w : List ℕ) → Perm m w → place w < factorial (suc m)
  pub at_place : (w : List ℕ) → Perm m w → get_or (perms m) (place w) [] ≡ w
  pub place_at : (i : ℕ) → i < factorial (suc m) → place (get_or (perms m) i []) ≡ i
  pub whole : (h : List A) → length h ≡ factorial (suc (suc m)) → h ≡ blocks (m + 2) (λ k. block (factorial (suc m)) k h)
  pub block_size : (h : List A) (k : ℕ) → length h ≡ factorial (suc (suc m)) → k ≤ suc m → length (block (factorial (suc m)) k h) ≡ factorial (suc m)
  pub block_at : (h : List A) (k : ℕ) (u : List ℕ) → k ≤ suc m → Perm m u → coefficient A o h (join m k u) ≡ coefficient A o (block (factorial (suc m)) k h) u

-- ---- a generator

pub record Formula (A : Type 0) (o : Ops A) (q r : A) (ok : A → Type 0) (m : ℕ) : Type 0 where
  pub basis_letter_lem : (i : ℕ) (w : List ℕ) → Letter m i → Perm m w → letter A o q r m i (basis A o m w) ≡ basis_letter A o q r m i w
  pub linear : (i : ℕ) → Letter m i → (h : List A) → Element ok m h
      → letter A o q r m i h ≡ sum_over A o m (perms m) (λ w. scale A o (coefficient A o h w) (basis_letter A o q r m i w))
  pub on_pairs_lem : (i : ℕ) (h : List A) → letter A o q r m i h ≡ on_pairs A o (forward A o q r) m i h

-- ---- the algebra

abbrev pub Distant : ℕ → ℕ → Type 0
Distant i j = (suc i < j) ⊎ (suc j < i)

pub record Calls (A : Type 0) : Type 0 where
  pub product : List A → List A → List A
  pub sum : List A → List A → List A
  pub scale : A → List A → List A
  pub act : List ℕ → List A → List A

abbrev pub defined : (A : Type 0) → Ops A → A → A → ℕ → Calls A
defined A o q r m = record { product = times A o q r m m; sum = plus A o; scale = scale A o; act = act A o q r m }

pub record Closed (A : Type 0) (o : Ops A) (ok : A → Type 0) (m : ℕ) (calls : Calls A) : Type 0 where
  pub basis : (w : List ℕ) → Element ok m (basis A o m w)
  pub product : (h g : List A) → Element ok m h → Element ok m g → Element ok m (calls.product h g)
  pub sum : (h g : List A) → Element ok m h → Element ok m g → Element ok m (calls.sum h g)
  pub scale : (c : A) (h : List A) → ok c → Element ok m h → Element ok m (calls.scale c h)
  pub act : (s : List ℕ) (h : List A) → Element ok m h → Element ok m (calls.act s h)

module _ (A : Type 0) (o : Ops A) (q r : A) (ok : A → Type 0) (m : ℕ) (calls : Calls A) where
  infixl 60 ◌⊕◌
  infixl 70 ◌·◌
  infixr 80 ◌⊙◌
  abbrev ◌·◌ : List A → List A → List A
  h · g = calls.product h g

  abbrev ◌⊕◌ : List A → List A → List A
  h ⊕ g = calls.sum h g

  abbrev ◌⊙◌ : A → List A → List A
  x ⊙ h = calls.scale x h

  abbrev E : List A → Type 0
  E h = Element ok m h

  abbrev 𝟏 : List A
  𝟏 = unit A o m

  abbrev t : ℕ → List A
  t i = T A o m i

  pub record Laws : Type 0 where
    pub assoc : (h g k : List A) → E h → E g → E k → (h · g) · k ≡ h · (g · k)
    pub sum_left : (h h' g : List A) → E h → E h' → E g → (h ⊕ h') · g ≡ h · g ⊕ h' · g
    pub sum_right : (h g g' : List A) → E h → E g → E g' → h · (g ⊕ g') ≡ h · g ⊕ h · g'
    pub scale_left : (x : A) (h g : List A) → ok x → E h → E g → (x ⊙ h) · g ≡ x ⊙ (h · g)
    pub scale_right : (x : A) (h g : List A) → ok x → E h → E g → h · (x ⊙ g) ≡ x ⊙ (h · g)
    pub unit_left : (h : List A) → E h → 𝟏 · h ≡ h
    pub unit_right : (h : List A) → E h → h · 𝟏 ≡ h
    pub quadratic : (i : ℕ) → Letter m i → t i · t i ≡ r ⊙ t i ⊕ q ⊙ 𝟏
    pub braid : (i : ℕ) → Letter m i → Letter m (suc i) → t i · t (suc i) · t i ≡ t (suc i) · t i · t (suc i)
    pub commute : (i j : ℕ) → Letter m i → Letter m j → Distant i j → t i · t j ≡ t j · t i
    -- x and y are shortest words of w
    pub alike : (w x y : List ℕ) → Shortest m x w → Shortest m y w → (h : List A) → E h → calls.act x h ≡ calls.act y h
    pub acts : (w x : List ℕ) → Shortest m x w → (h : List A) → E h → calls.act x h ≡ h · basis A o m w
    -- x v is any shortest word of v
    pub by_words : (x : List ℕ → List ℕ) → ((v : List ℕ) → Perm m v → Shortest m (x v) v) → (h g : List A) → E h → E g
        → h · g ≡ sum_over A o m (perms m) (λ v. coefficient A o g v ⊙ calls.act (x v) h)

  pub record Hecke : Type 0 where
    pub minus_one_lem : o.add r o.one ≡ q
    pub laws : Laws
