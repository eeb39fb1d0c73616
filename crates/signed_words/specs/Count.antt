-- How many ring operations the inverse letter takes where q' and r' are there already (document 02, Ticket 1): value and count together, block by block.
--
--   back q' r' x y            what becomes of two blocks x and y that pair: y + r' x and q' x, in a row
--   nested_back q' r' m i h   the inverse letter on h, of rank m
--   BackCounts                its value is `backward` on the pairs; it takes M/2 sums and M products, 3M/2 in all, for M = (m + 1)!
use Rattle.std.specs.Prelude.{◌≡◌, List, ℕ, zero, suc, ◌+◌, ◌-◌, ◌*◌, length}
use Rattle.ring.specs.Ring.{Ops}
use Rattle.lists.specs.Numbers.{factorial}
use Rattle.lists.specs.Blocks.{block}
use Rattle.perms.specs.Permutation.{Letter}
use Rattle.algebra.specs.Pairs.{on_pairs}
use Rattle.algebra.specs.Nested.{operations, Counted, free, ◌⧺◌, row, ◌⊞◌, ◌⊠◌}
use Rattle.signed_words.specs.InverseLetter.{backward}

module _ (A : Type 0) (o : Ops A) (q' r' : A) where
  unfoldable pub back : List A → List A → Counted A
  back x y = ◌⊞◌ A o (free y) (◌⊠◌ A o r' (free x)) ⧺ ◌⊠◌ A o q' (free x)

  -- the blocks before the two that pair, these two, and the blocks after them
  unfoldable pub nested_back : ℕ → ℕ → List A → Counted A
  nested_back zero i h = free h
  nested_back (suc m) i h =
      row 0 (suc m - i) (λ k. nested_back m i (block (factorial (suc m)) k h))
      ⧺ back (block (factorial (suc m)) (suc m - i) h) (block (factorial (suc m)) (suc m - i + 1) h)
      ⧺ row (suc m - i + 2) (i - 1) (λ k. nested_back m (i - 1) (block (factorial (suc m)) k h))

  pub record BackCounts (m : ℕ) : Type 0 where
    pub value : (i : ℕ) → Letter m i → (h : List A) → length h ≡ factorial (suc m) → (nested_back m i h).value ≡ on_pairs A o (backward A o q' r') m i h
    pub sums : (i : ℕ) → Letter m i → (h : List A) → length h ≡ factorial (suc m) → 2 * (nested_back m i h).count.sums ≡ factorial (suc m)
    pub products : (i : ℕ) → Letter m i → (h : List A) → length h ≡ factorial (suc m) → (nested_back m i h).count.products ≡ factorial (suc m)
    pub count : (i : ℕ) → Letter m i → (h : List A) → length h ≡ factorial (suc m) → 2 * operations (nested_back m i h).count ≡ 3 * factorial (suc m)
