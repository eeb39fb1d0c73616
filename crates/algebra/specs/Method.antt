-- What document 01 says of the nested method, as claims beside the definition over permutations.
--
--   Proposition3_2    the blocks of h T_a(j,l), for h of rank m and 1 ≤ l ≤ j ≤ m: four lines. There b k h is block k of h, and cycled j l x is
--                     x T_a(j,l) for x of rank m - 1. Here T_a(j,l) acts through the word of a(j, l)
--   Method            h g is the sum over v of g_v times h acted on by any shortest word x(v) of v, for g of rank l ≤ m; the product with T of
--                     a(j, l) is this action; the four lines; h g is the sum over k of (h g_k) T_a(l,k), for
--                     g = (g_0, .., g_l) of rank l ≤ m; the nested method's values are the definition's, for h T_a(j,l) and for h g, whose
--                     parts may be added in any order at every level
--   Orders            a sum of lists of one length is that over any rearrangement, value and count; so h g is, whatever the order of its parts at every
--                     level, that of the rising order
--   Counts            its counts are c and C, in any order of the parts; its sums and its products apart are the same recursions with one of the two counted
--   Letters           a letter T_j, which is T_a(j,1), counts 3M/2 for 1 ≤ j ≤ m: M/2 sums and M products
--   Bounds            C(m, l) is below its bound 4 (l + 1)! (m + 1)! for l ≤ m ≤ 6
use Rattle.std.specs.Prelude.{◌≡◌, List, ℕ, suc, ◌+◌, ◌-◌, ◌*◌, ◌≤◌, ◌<◌, length}
use Rattle.ring.specs.Ring.{Ops}
use Rattle.lists.specs.Lists.{range, All}
use Rattle.lists.specs.Numbers.{factorial}
use Rattle.lists.specs.Sums.{Rearranged}
use Rattle.lists.specs.Blocks.{block}
use Rattle.perms.specs.Permutation.{Perm, Shortest}
use Rattle.perms.specs.Tower.{cycle}
use Rattle.perms.specs.Laws.{a}
use Rattle.algebra.specs.Place.{perms}
use Rattle.algebra.specs.Element.{Element, coefficient, plus, scale, sum_over, basis}
use Rattle.algebra.specs.Product.{act, times}
use Rattle.algebra.specs.Nested.{operations, Counted, sum_along, rising, EachOnce, nested_act, nested}
use Rattle.algebra.specs.Cost.{c, C, bound, cost, costs}

module _ (A : Type 0) (o : Ops A) (q r : A) (m : ℕ) where
  abbrev b : ℕ → List A → List A
  b k h = block (factorial m) k h

  abbrev cycled : ℕ → ℕ → List A → List A
  cycled j l x = act A o q r (m - 1) (cycle j l) x

  pub record Proposition3_2 (j l : ℕ) (h : List A) : Type 0 where
    pub line_1 : (k : ℕ) → k < m - j → b k (act A o q r m (cycle j l) h) ≡ cycled j l (b k h)
    pub line_2 : (k : ℕ) → m - j ≤ k → k < m - j + l → b k (act A o q r m (cycle j l) h) ≡ scale A o q (cycled (j - 1) (l - 1) (b (k + 1) h))
    pub line_3 : b (m - j + l) (act A o q r m (cycle j l) h)
        ≡ plus A o (b (m - j) h) (scale A o r (sum_over A o (m - 1) (range 1 l) (λ i. cycled (j - 1) (i - 1) (b (m - j + i) h))))
    pub line_4 : (k : ℕ) → m - j + l < k → k ≤ m → b k (act A o q r m (cycle j l) h) ≡ cycled (j - 1) l (b k h)

module _ (A : Type 0) (o : Ops A) (q r : A) (ok : A → Type 0) (m : ℕ) where
  pub record Method : Type 0 where
    pub by_words : (l : ℕ) → l ≤ m → (x : List ℕ → List ℕ) → ((v : List ℕ) → Perm l v → Shortest l (x v) v)
        → (h g : List A) → Element ok m h → Element ok l g
        → times A o q r m l h g ≡ sum_over A o m (perms l) (λ v. scale A o (coefficient A o g v) (act A o q r m (x v) h))
    pub cycle_times : (j l : ℕ) → l ≤ j → j ≤ m → (h : List A) → Element ok m h → times A o q r m m h (basis A o m (a m j l)) ≡ act A o q r m (cycle j l) h
    pub proposition : (j l : ℕ) → 1 ≤ l → l ≤ j → j ≤ m → (h : List A) → Element ok m h → Proposition3_2 A o q r m j l h
    pub act_value : (j l : ℕ) → l ≤ j → j ≤ m → (h : List A) → Element ok m h → (nested_act A o q r m j l h).value ≡ act A o q r m (cycle j l) h
    pub recursion : (l : ℕ) → 1 ≤ l → l ≤ m → (h g : List A) → Element ok m h → Element ok l g
        → times A o q r m l h g ≡ sum_over A o m (range 0 (l + 1)) (λ k. act A o q r m (cycle l k) (times A o q r m (l - 1) h (block (factorial l) k g)))
    pub value : (order : ℕ → List ℕ) → EachOnce order → (l : ℕ) → l ≤ m → (h g : List A) → Element ok m h → Element ok l g
        → (nested A o q r order m l h g).value ≡ times A o q r m l h g

  pub record Orders : Type 0 where
    pub parts : (n : ℕ) (s t : List ℕ) (f : ℕ → Counted A) → Rearranged s t → All (λ k. length (f k).value ≡ n) t → sum_along A o s f ≡ sum_along A o t f
    pub same : (order : ℕ → List ℕ) → EachOnce order → (l : ℕ) → l ≤ m → (h g : List A) → Element ok m h → Element ok l g
        → nested A o q r order m l h g ≡ nested A o q r rising m l h g

  pub record Counts : Type 0 where
    pub act_count : (j l : ℕ) → l ≤ j → j ≤ m → (h : List A) → Element ok m h → operations (nested_act A o q r m j l h).count ≡ c m j l
    pub act_apart : (j l : ℕ) → l ≤ j → j ≤ m → (h : List A) → Element ok m h
        → (nested_act A o q r m j l h).count ≡ record { sums = cost 1 0 m j l; products = cost 0 1 m j l }
    pub count : (order : ℕ → List ℕ) → EachOnce order → (l : ℕ) → l ≤ m → (h g : List A) → Element ok m h → Element ok l g
        → operations (nested A o q r order m l h g).count ≡ C m l
    pub apart : (order : ℕ → List ℕ) → EachOnce order → (l : ℕ) → l ≤ m → (h g : List A) → Element ok m h → Element ok l g
        → (nested A o q r order m l h g).count ≡ record { sums = costs 1 0 m l; products = costs 0 1 m l }

pub record Letters (m j : ℕ) : Type 0 where
  pub count : 2 * c m j 1 ≡ 3 * factorial (suc m)
  pub sums : 2 * cost 1 0 m j 1 ≡ factorial (suc m)
  pub products : cost 0 1 m j 1 ≡ factorial (suc m)

abbrev pub Bounds : Type 0
Bounds = (m l : ℕ) → l ≤ m → m ≤ 6 → C m l < bound m l
