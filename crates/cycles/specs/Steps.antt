-- The steps by which the code makes x T_a(j,l), with the parameters p: the vocabulary of the inner contracts. No claim cites them, and of public contracts
-- that of `act` alone, through `acted`.
--
--   acted p m j l x         x T_a(j,l), for x of rank m, by the nested method
--   sums p s f              the sum of f(k) for the k of s, added in the order of s
--   collected p i s x       s + x, where x is the summand of index i; for i = 0 x alone
--   kept p m B j x i        the part i: block i of x, of rank m and B words, times T_a(j-1,i-1)
--   shifted p B x s         the blocks of x after the first, times q, each one block further down; after them the first block plus r s
--   joint p m B j l x       the blocks m + 1 - j to m + 1 - j + l of an element of rank m + 1, which are x, after the action of T_a(j,l)
--   ActPre, .., MiddlePre   what the functions require
use Rattle.std.specs.Prelude.{◌≡◌, List, [], ◌++◌, ℕ, zero, suc, ◌+◌, ◌-◌, ◌*◌, ◌≤◌, length, take, drop}
use Rattle.lists.specs.Lists.{range}
use Rattle.lists.specs.Numbers.{factorial}
use Rattle.lists.specs.Sums.{sum_by}
use Rattle.lists.specs.Blocks.{block, blocks}
use Rattle.algebra.specs.Element.{plus, scale}
use Rattle.algebra.specs.Nested.{nested_act}
use Rattle.element_calls.specs.declared.Parameters.{Parameters}
use Rattle.element_calls.specs.Coefficients.{ring}

module _ (p : Parameters) where
  unfoldable pub acted : (m j l : ℕ) → List ℕ → List ℕ
  acted m j l x = (nested_act ℕ (ring p) p.q p.r m j l x).value

  unfoldable pub sums : List ℕ → (ℕ → List ℕ) → List ℕ
  sums s f = sum_by (plus ℕ (ring p)) [] s f

  unfoldable pub collected : ℕ → List ℕ → List ℕ → List ℕ
  collected zero s x = x
  collected (suc i) s x = plus ℕ (ring p) s x

  unfoldable pub kept : (m B j : ℕ) → List ℕ → ℕ → List ℕ
  kept m B j x i = acted m (j - 1) (i - 1) (block B i x)

  abbrev pub shifted : (B : ℕ) (x s : List ℕ) → List ℕ
  shifted B x s = scale ℕ (ring p) p.q (drop B x) ++ plus ℕ (ring p) (take B x) (scale ℕ (ring p) p.r s)

  unfoldable pub joint : (m B j l : ℕ) → List ℕ → List ℕ
  joint m B j l x =
      blocks l (λ i. scale ℕ (ring p) p.q (acted m (j - suc i) (l - suc i) (kept m B j x (suc i))))
      ++ plus ℕ (ring p) (block B 0 x) (scale ℕ (ring p) p.r (sums (range 1 l) (kept m B j x)))

-- ---- what the functions require; w is the work slice

pub record ActPre (m j l : ℕ) (x w : List ℕ) : Type 0 where
  pub rank : m ≤ 6
  pub below : j ≤ m
  pub within : l ≤ j
  pub size : length x ≡ factorial (suc m)
  pub work : 2 ≤ l → factorial (suc m) ≤ length w

-- for l ≥ 2
pub record LevelPre (m j l : ℕ) (x w : List ℕ) : Type 0 where
  pub act : ActPre m j l x w
  pub more : 2 ≤ l

-- x is of rank 2
pub record TwoPre (x w : List ℕ) : Type 0 where
  pub size : length x ≡ 6
  pub work : 2 ≤ length w

-- x is n blocks of rank m and b words
pub record EachPre (m b n j l : ℕ) (x w : List ℕ) : Type 0 where
  pub rank : m ≤ 5
  pub block_size : b ≡ factorial (suc m)
  pub more : 2 ≤ l
  pub below : 1 ≤ n → j ≤ m
  pub within : 1 ≤ n → l ≤ j
  pub size : length x ≡ n * b
  pub work : b ≤ length w

-- x is l + 1 blocks of rank m and b words
pub record MiddlePre (m b j l : ℕ) (x w : List ℕ) : Type 0 where
  pub rank : m ≤ 5
  pub block_size : b ≡ factorial (suc m)
  pub below : j ≤ suc m
  pub within : l ≤ j
  pub more : 2 ≤ l
  pub size : length x ≡ suc l * b
  pub work : b + b ≤ length w
