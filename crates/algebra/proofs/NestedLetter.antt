-- The nested method's h T_a(i,1) is formula 4.1 on the pairs of h. Without any law of a ring. Rests on Level, PairLists, OnPairs and ByBlocks, and lists'
-- Blocks.
use mathlib.Core.Path.{◌≡◌, refl, sym, ap, ◌∙◌}
use mathlib.Core.List.{List}
use Prim.Native.Nat.{ℕ, zero, suc, ◌+◌, ◌-◌, ◌≤◌, ◌<◌}
use native.Mathlib.Omega.{arith}
use lib.ListN.{length}
use Rattle.ring.specs.Ring.{Ops}
use Rattle.lists.specs.Lists.{range}
use Rattle.lists.specs.Numbers.{factorial}
use Rattle.lists.specs.Sums.{onto, sum_by}
use Rattle.lists.specs.Blocks.{block}
use Rattle.lists.proofs.Blocks.{block_length, by_blocks}
use Rattle.perms.specs.Permutation.{Letter}
use Rattle.algebra.specs.Element.{plus, scale}
use Rattle.algebra.specs.Nested.{Counted, free, ◌⊞◌, ◌⊠◌, sum_along, part, level, nested_act}
use Rattle.algebra.specs.Pairs.{OnPair, forward, on_pairs}
use Rattle.algebra.proofs.Level.{level_blocks}
use Rattle.algebra.proofs.PairLists.{zipped_shorter, zipped_longer}
use Rattle.algebra.proofs.OnPairs.{on_pairs_length}
use Rattle.algebra.proofs.ByBlocks.{on_pairs_before, on_pairs_upper, on_pairs_lower, on_pairs_after}

module _ (A : Type 0) (o : Ops A) (q r : A) where
  abbrev f : OnPair A
  f = forward A o q r

  pub nested_none : (m j : ℕ) (h : List A) → (nested_act A o q r m j 0 h).value ≡ h
  unfolding nested_act free
  nested_none zero j h = refl
  nested_none (suc m) j h = refl

  -- at rank m + 1, with j + 1 in the place of i
  module _ (m j : ℕ) (h : List A) (jm : j ≤ m) (e : length h ≡ factorial (suc (suc m)))
      (ih : (i : ℕ) (x : List A) → Letter m i → length x ≡ factorial (suc m) → (nested_act A o q r m i 1 x).value ≡ on_pairs A o f m i x) where
    abbrev F : ℕ → ℕ → List A → Counted A
    F = nested_act A o q r m

    abbrev a : ℕ
    a = suc m - suc j

    abbrev b : ℕ → List A
    b k = block (factorial (suc m)) k h

    -- block k of the result
    abbrev X : ℕ → List A
    X k = block (factorial (suc m)) k (on_pairs A o f (suc m) (suc j) h)

    size : (k : ℕ) → k ≤ suc m → length (b k) ≡ factorial (suc m)
    unfolding factorial
    size k n = block_length (factorial (suc m)) (suc (suc m)) k h (omega arith) e

    line_1 : (k : ℕ) → k < a → (F (suc j) 1 (b k)).value ≡ X k
    line_1 k n = ih (suc j) (b k) (record { low = omega arith; high = omega arith }) (size k (omega arith)) ∙ sym (on_pairs_before A o f m j h jm e k n)

    line_2 : (i : ℕ) → 1 ≤ i → i ≤ 1 → (◌⊠◌ A o q (F (suc j - i) (1 - i) (part A o F (suc m) (suc j) h i).value)).value ≡ X (a + i - 1)
    unfolding part ◌⊠◌
    line_2 zero u v = absurd (omega arith)
    line_2 (suc zero) u v =
        let n : a ≡ a + 1 - 1 = omega arith in
        ap (scale A o q) (nested_none m _ _ ∙ nested_none m _ _)
        ∙ sym (zipped_shorter A o q r (b a) (b (a + 1)) (size a (omega arith) ∙ sym (size (a + 1) (omega arith))))
        ∙ sym (on_pairs_upper A o f m j h jm e) ∙ ap X n
    line_2 (suc (suc i)) u v = absurd (omega arith)

    line_3 : (◌⊞◌ A o (free (b a)) (◌⊠◌ A o r (sum_along A o (range 1 1) (part A o F (suc m) (suc j) h)))).value ≡ X (a + 1)
    unfolding free part sum_along sum_by onto range ◌⊞◌ ◌⊠◌
    line_3 = ap (λ x. plus A o (b a) (scale A o r x)) (nested_none m _ _) ∙ sym (on_pairs_lower A o f m j h jm e ∙ zipped_longer A o q r (b a) (b (a + 1)))

    line_4 : (k : ℕ) → a + 1 < k → k ≤ suc m → (F (suc j - 1) 1 (b k)).value ≡ X k
    line_4 k n l =
        let x : suc j - 1 ≡ j = omega arith in
        ap (λ i. (F i 1 (b k)).value) x
        ∙ ih j (b k) (record { low = omega arith; high = omega arith }) (size k l) ∙ sym (on_pairs_after A o f m j h jm e k n l)

    level_letter : (level A o q r F (suc m) (suc j) 1 h).value ≡ on_pairs A o f (suc m) (suc j) h
    unfolding factorial
    level_letter =
        level_blocks A o q r F (suc m) (suc j) 1 h (omega arith) (omega arith) X line_1 line_2 line_3 line_4
        ∙ sym (by_blocks (factorial (suc m)) (suc (suc m)) _ (on_pairs_length A o f (suc m) (suc j) h))

  pub nested_letter : (m i : ℕ) (h : List A) → Letter m i → length h ≡ factorial (suc m) → (nested_act A o q r m i 1 h).value ≡ on_pairs A o f m i h
  unfolding nested_act
  nested_letter zero i h l e = absurd (omega arith)
  nested_letter (suc m) zero h l e = absurd (omega arith)
  nested_letter (suc m) (suc j) h l e = level_letter m j h (omega arith) e (nested_letter m)
