-- The second definition (document 01, "Elements and their product" and "The count"; document 02, Ticket 5): the nested method, value and
-- count together along its steps.
--
--   Count                how many ring sums and how many ring products
--   operations n         document 01's count: sums and products together
--   both n k             the operations of n and of k
--   Counted A            a list of coefficients, and the operations that it took
--   rising l, falling l
--                        the orders 0, 1, .., l and l, .., 1, 0: document 01's and the library's
--   EachOnce order       for each l, order(l) has each of 0, 1, .., l once, in some order
--   free h               what is there already and takes nothing
--   onward x f           first x, then f on its value
--   x ⧺ y                x and then y in a row
--   row a n f            f(a), f(a + 1), .. in a row, n of them
--   x ⊞ y                the sum of two lists: a ring sum for each coefficient
--   c ⊠ x                a multiple: a ring product for each coefficient
--   sum_along s f        the sum of f(k) for the k of s, added in the order of s; no coefficients where s is empty
--   part f m j h i       the part h_(m-j+i) T_a(j-1,i-1)
--   level f m j l h      h T_a(j,l) for l ≥ 1 and h of rank m, by Proposition 3.2
--   nested_act m j l h   h T_a(j,l) for h of rank m
--   nested order m l h g
--                        h g for h of rank m and g of rank l ≤ m: the sum of (h g_k) T_a(l,k) for k = 0 to l, added at every level l in the order order(l)
--
-- In `part` and `level`, f j l x is x T_a(j,l) for x of rank m - 1. At rank 0 there is a(0, 0) alone.
use Rattle.std.specs.Prelude.{List, [], ◌++◌, reverse, ℕ, zero, suc, ◌+◌, ◌-◌, length, get_or}
use Rattle.ring.specs.Ring.{Ops}
use Rattle.lists.specs.Lists.{range}
use Rattle.lists.specs.Numbers.{factorial}
use Rattle.lists.specs.Sums.{sum_by, Rearranged}
use Rattle.lists.specs.Blocks.{block}
use Rattle.algebra.specs.Element.{plus, scale}

pub record Count : Type 0 where
  pub sums : ℕ
  pub products : ℕ

unfoldable pub operations : Count → ℕ
operations n = n.sums + n.products

unfoldable pub both : Count → Count → Count
both n k = record { sums = n.sums + k.sums; products = n.products + k.products }

pub record Counted (A : Type 0) : Type 0 where
  pub value : List A
  pub count : Count

-- ---- orders

unfoldable pub rising : ℕ → List ℕ
rising l = range 0 (suc l)

unfoldable pub falling : ℕ → List ℕ
falling l = reverse (rising l)

abbrev pub EachOnce : (ℕ → List ℕ) → Type 0
EachOnce order = (l : ℕ) → Rearranged (order l) (rising l)

-- ---- rows

module _ {A : Type 0} where
  unfoldable pub free : List A → Counted A
  free h = record { value = h; count = record { sums = 0; products = 0 } }

  unfoldable pub onward : Counted A → (List A → Counted A) → Counted A
  onward x f = record { value = (f x.value).value; count = both x.count (f x.value).count }

  infixr 50 ◌⧺◌
  unfoldable pub ◌⧺◌ : Counted A → Counted A → Counted A
  x ⧺ y = record { value = x.value ++ y.value; count = both x.count y.count }

  unfoldable pub row : ℕ → ℕ → (ℕ → Counted A) → Counted A
  row a zero f = free []
  row a (suc n) f = row a n f ⧺ f (a + n)

-- ---- sums and multiples

module _ (A : Type 0) (o : Ops A) where
  infixl 60 ◌⊞◌
  infixr 80 ◌⊠◌
  unfoldable pub ◌⊞◌ : Counted A → Counted A → Counted A
  x ⊞ y =
      let h = plus A o x.value y.value in
      record { value = h; count = both (both x.count y.count) (record { sums = length h; products = 0 }) }

  unfoldable pub ◌⊠◌ : A → Counted A → Counted A
  c ⊠ x =
      let h = scale A o c x.value in
      record { value = h; count = both x.count (record { sums = 0; products = length h }) }

  unfoldable pub sum_along : List ℕ → (ℕ → Counted A) → Counted A
  sum_along s f = sum_by ◌⊞◌ (free []) s f

  -- ---- the method

  unfoldable pub part : (ℕ → ℕ → List A → Counted A) → ℕ → ℕ → List A → ℕ → Counted A
  part f m j h i = f (j - 1) (i - 1) (block (factorial m) (m - j + i) h)

  module _ (q r : A) where
    -- the four lines: the blocks k < m - j; k = m - j + i - 1 for i = 1 to l, which go on from the part i as it is kept; k = m - j + l; the others.
    -- The parts are counted in the third line, where they are added up
    unfoldable pub level : (ℕ → ℕ → List A → Counted A) → ℕ → ℕ → ℕ → List A → Counted A
    level f m j l h =
        row 0 (m - j) (λ k. f j l (block (factorial m) k h))
        ⧺ row 1 l (λ i. q ⊠ f (j - i) (l - i) (part f m j h i).value)
        ⧺ (free (block (factorial m) (m - j) h) ⊞ r ⊠ sum_along (range 1 l) (part f m j h))
        ⧺ row (m - j + l + 1) (j - l) (λ k. f (j - 1) l (block (factorial m) k h))

    unfoldable pub nested_act : ℕ → ℕ → ℕ → List A → Counted A
    nested_act zero j l h = free h
    nested_act (suc m) j zero h = free h
    nested_act (suc m) j (suc l) h = level (nested_act m) (suc m) j (suc l) h

    unfoldable pub nested : (ℕ → List ℕ) → ℕ → ℕ → List A → List A → Counted A
    nested order m zero h g = get_or g 0 o.zero ⊠ free h
    nested order m (suc l) h g = sum_along (order (suc l)) (λ k. onward (nested order m l h (block (factorial (suc l)) k g)) (nested_act m (suc l) k))
