-- A list that is put together from blocks of b words has these blocks. Rests on Parts and Cuts.
use mathlib.Core.Path.{◌≡◌, sym, ap, ◌∙◌}
use mathlib.Core.Logic.{⊎_elim}
use mathlib.Core.List.{List, ◌++◌}
use Prim.Native.Nat.{ℕ, zero, suc, ◌*◌, ◌<◌}
use native.Mathlib.Nat.{zero-mul, suc-mul, le_of_suc-le-suc, eq-or-lt_of_le}
use native.Mathlib.Omega.{arith}
use lib.ListN.{length, take, drop, length-append}
use lib.Seq.{take_at, drop_at, take_all}
use Rattle.lists.specs.Blocks.{block, blocks}
use Rattle.lists.proofs.Parts.{below_block}
use Rattle.lists.proofs.Cuts.{block_take}

module _ (b : ℕ) (f : ℕ → List ℕ) where
  blocks_length : (n : ℕ) → ((i : ℕ) → i < n → length (f i) ≡ b) → length (blocks n f) ≡ n * b
  unfolding blocks
  blocks_length zero s = sym (zero-mul b)
  blocks_length (suc n) s =
      length-append (blocks n f) (f n) ∙ omega (arith, blocks_length n (λ i l. s i (omega arith)), s n (omega arith), suc-mul n b)

  pub block_of : (n k : ℕ) → ((i : ℕ) → i < n → length (f i) ≡ b) → k < n → block b k (blocks n f) ≡ f k
  unfolding block blocks
  block_of zero k s l = absurd (omega arith)
  block_of (suc n) k s l = ⊎_elim last (earlier (block_of n k (λ i j. s i (omega arith)))) (eq-or-lt_of_le (le_of_suc-le-suc l))
    where
      x : List ℕ
      x = blocks n f

      size : length x ≡ n * b
      size = blocks_length n (λ i j. s i (omega arith))

      earlier : (k < n → block b k x ≡ f k) → k < n → block b k (x ++ f n) ≡ f k
      earlier before j =
          sym (block_take b k (n * b) (x ++ f n) (below_block k n b j) (omega (arith, length-append x (f n), size)))
          ∙ ap (block b k) (take_at x (f n) (n * b) size) ∙ before j

      last : k ≡ n → block b k (x ++ f n) ≡ f k
      last e =
          ap (λ (i : ℕ). take b (drop (i * b) (x ++ f n))) e ∙ ap (take b) (drop_at x (f n) (n * b) size)
          ∙ take_all b (f n) (omega (arith, s n (omega arith))) ∙ ap f (sym e)
