-- The steps by which the code makes h g, with the parameters p: the vocabulary of the inner contracts. No claim cites them, and of public contracts that of
-- `product` alone, through `multiplied`.
--
--   multiplied p m l h g        h g, for h of rank m and g of rank l, by the nested method in the falling order
--   FactorsPre, .., LayerPost   what the functions require and leave; out is the result
use Rattle.std.specs.Prelude.{◌≡◌, List, ℕ, suc, ◌+◌, ◌*◌, ◌≤◌, length, take}
use Rattle.lists.specs.Numbers.{factorial}
use Rattle.lists.specs.Blocks.{block}
use Rattle.algebra.specs.Nested.{falling, nested}
use Rattle.element_calls.specs.declared.Parameters.{Parameters}
use Rattle.element_calls.specs.Coefficients.{ring}
use Rattle.cycles.specs.Steps.{acted}

unfoldable pub multiplied : Parameters → (m l : ℕ) → List ℕ → List ℕ → List ℕ
multiplied p m l h g = (nested ℕ (ring p) p.q p.r falling m l h g).value

pub record FactorsPre (m l : ℕ) (out h g : List ℕ) : Type 0 where
  pub rank : m ≤ 6
  pub within : l ≤ m
  pub left : length h ≡ factorial (suc m)
  pub right : length g ≡ factorial (suc l)
  pub result : length out ≡ factorial (suc m)

pub record TimesPre (m l : ℕ) (out scratch h g : List ℕ) : Type 0 where
  pub factors : FactorsPre m l out h g
  pub enough : l * factorial (suc m) ≤ length scratch

-- l is the rank of a block of g; s and n are the numbers of words of an element and of such a block
pub record LayerPre (m l k s n : ℕ) (out scratch h g : List ℕ) : Type 0 where
  pub rank : m ≤ 6
  pub within : suc l ≤ m
  pub place : k ≤ suc l
  pub element_size : s ≡ factorial (suc m)
  pub part_size : n ≡ factorial (suc l)
  pub left : length h ≡ s
  pub right : k * n + n ≤ length g
  pub result : length out ≡ s
  pub enough : s + l * s ≤ length scratch

-- scratch is that at entry, result and scratch' are those at exit
pub record LayerPost (p : Parameters) (m l k s n : ℕ) (h g scratch result scratch' : List ℕ) : Type 0 where
  pub value : result ≡ acted p m (suc l) k (multiplied p m l h (block n k g))
  pub keep : take s scratch' ≡ take s scratch
