-- The inverse letter block by block is `backward` on the pairs. Without any law of a ring. Rests on BackwardLists, algebra's
-- Level, PairLists and ByBlocks, and lists' Blocks.
use mathlib.Core.Path.{◌≡◌, sym, ap, ap₂, ◌∙◌}
use mathlib.Core.List.{List, ◌++◌}
use Prim.Native.Nat.{ℕ, zero, suc, ◌+◌, ◌-◌, ◌*◌, ◌≤◌}
use native.Mathlib.Nat.{mul-le-mul_right}
use native.Mathlib.Omega.{arith}
use lib.ListN.{length, take, drop}
use Rattle.ring.specs.Ring.{Ops}
use Rattle.lists.specs.Numbers.{factorial}
use Rattle.lists.specs.Blocks.{block, blocks}
use Rattle.lists.proofs.Blocks.{block_length, block_drop, blocks_cong}
use Rattle.perms.specs.Permutation.{Letter}
use Rattle.algebra.specs.Pairs.{OnPair, on_pairs, zipped, exchanged}
use Rattle.algebra.specs.Nested.{Counted, free, ◌⧺◌, row, ◌⊞◌, ◌⊠◌}
use Rattle.algebra.proofs.Level.{row_value}
use Rattle.algebra.proofs.PairLists.{exchanged_blocks}
use Rattle.algebra.proofs.ByBlocks.{in_row}
use Rattle.signed_words.specs.InverseLetter.{backward}
use Rattle.signed_words.specs.Count.{back, nested_back}
use Rattle.signed_words.proofs.BackwardLists.{zipped_back_shorter, zipped_back_longer}

module _ (A : Type 0) (o : Ops A) (q' r' : A) where
  abbrev f : OnPair A
  f = backward A o q' r'

  abbrev N : ℕ → ℕ → List A → Counted A
  N m i h = nested_back A o q' r' m i h

  back_value : (x y : List A) → length x ≡ length y → (back A o q' r' x y).value ≡ zipped f.shorter x y ++ zipped f.longer x y
  unfolding back ◌⊞◌ ◌⊠◌ ◌⧺◌ free
  back_value x y e = sym (ap₂ {C = List A} (λ u v. u ++ v) (zipped_back_shorter A o q' r' x y) (zipped_back_longer A o q' r' x y e))

  -- at rank m + 1, with j + 1 in the place of i
  module _ (m j : ℕ) (h : List A) (jm : j ≤ m) (e : length h ≡ factorial (suc (suc m)))
      (ih : (i : ℕ) (x : List A) → Letter m i → length x ≡ factorial (suc m) → (N m i x).value ≡ on_pairs A o f m i x) where
    abbrev B : ℕ
    B = factorial (suc m)

    abbrev a : ℕ
    a = suc m - suc j

    abbrev b : ℕ → List A
    b k = block B k h

    size : (k : ℕ) → k ≤ suc m → length (b k) ≡ B
    unfolding factorial
    size k n = block_length B (suc (suc m)) k h (omega arith) e

    before : (row 0 a (λ k. N m (suc j) (b k))).value ≡ blocks a (λ k. on_pairs A o f m (suc j) (b k))
    before = row_value 0 a _ ∙ blocks_cong a _ _ (λ k n.
        let x : 0 + k ≡ k = omega arith in
        ap (λ k. (N m (suc j) (b k)).value) x ∙ ih (suc j) (b k) (record { low = omega arith; high = omega arith }) (size k (omega arith)))

    pair : (back A o q' r' (b a) (b (a + 1))).value ≡ exchanged f B (take (B + B) (drop (a * B) h))
    unfolding factorial
    pair =
        let inside : (a + 2) * B ≤ suc (suc m) * B = mul-le-mul_right B (omega arith) in
        back_value (b a) (b (a + 1)) (size a (omega arith) ∙ sym (size (a + 1) (omega arith))) ∙ sym (exchanged_blocks f B a h (omega (arith, e, inside)))

    after : (row (a + 2) (suc j - 1) (λ k. N m (suc j - 1) (b k))).value
        ≡ blocks (suc j - 1) (λ k. on_pairs A o f m (suc j - 1) (block B k (drop ((a + 2) * B) h)))
    after = row_value (a + 2) (suc j - 1) _ ∙ blocks_cong (suc j - 1) _ _ (λ k n.
        ih (suc j - 1) (b (a + 2 + k)) (record { low = omega arith; high = omega arith }) (size (a + 2 + k) (omega arith))
        ∙ ap (on_pairs A o f m (suc j - 1)) (sym (block_drop B (a + 2) k h)))

    in_blocks : (N (suc m) (suc j) h).value ≡ on_pairs A o f (suc m) (suc j) h
    unfolding nested_back ◌⧺◌
    in_blocks =
        ap₂ {C = List A} (λ u v. u ++ v) before (ap₂ {C = List A} (λ u v. u ++ v) pair after) ∙ sym (in_row A o f m j h jm e)

  pub back_values : (m i : ℕ) (h : List A) → Letter m i → length h ≡ factorial (suc m) → (N m i h).value ≡ on_pairs A o f m i h
  back_values zero i h l e = absurd (omega arith)
  back_values (suc m) zero h l e = absurd (omega arith)
  back_values (suc m) (suc j) h l e = in_blocks m j h (omega arith) e (back_values m)
