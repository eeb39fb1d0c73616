-- What the inverse letter takes, block by block, for any weights of a ring sum and a ring product; so 3M/2. It depends on lengths alone, and on no
-- law of a ring. Rests on BackValues, algebra's Takes and Letters, and lists' Blocks and Series.
--
--   back_cost s p m i   what it takes where a ring sum counts s and a ring product p
use mathlib.Core.Path.{◌≡◌, refl, ap, ◌∙◌}
use mathlib.Core.List.{List}
use Prim.Native.Nat.{ℕ, zero, suc, ◌+◌, ◌-◌, ◌*◌, ◌≤◌, ◌<◌}
use native.Mathlib.Omega.{arith}
use lib.ListN.{length}
use Rattle.ring.specs.Ring.{Ops}
use Rattle.lists.specs.Numbers.{factorial, series}
use Rattle.lists.specs.Blocks.{block}
use Rattle.lists.proofs.Blocks.{block_length}
use Rattle.lists.proofs.Series.{series_const}
use Rattle.perms.specs.Permutation.{Letter}
use Rattle.algebra.specs.Nested.{operations}
use Rattle.algebra.proofs.Takes.{weigh, Takes, takes_as, takes_free, takes_join, takes_row, takes_plus, takes_scale}
use Rattle.algebra.proofs.Letters.{twice}
use Rattle.signed_words.specs.Count.{back, nested_back, BackCounts}
use Rattle.signed_words.proofs.BackValues.{back_values}

module _ (A : Type 0) (o : Ops A) (q' r' : A) where
  module _ (s p : ℕ) where
    back_cost : ℕ → ℕ → ℕ
    back_cost zero i = 0
    back_cost (suc m) i =
        series 0 (suc m - i) (λ k. back_cost m i) + ((s + 2 * p) * factorial (suc m) + series (suc m - i + 2) (i - 1) (λ k. back_cost m (i - 1)))

    takes_back : (B : ℕ) (x y : List A) → length x ≡ B → length y ≡ B → Takes s p (B + B) ((s + 2 * p) * B) (back A o q' r' x y)
    unfolding back
    takes_back B x y e d = takes_as refl (omega arith)
        (takes_join (takes_plus A o (takes_free y d) (takes_scale A o r' (takes_free x e))) (takes_scale A o q' (takes_free x e)))

    takes : (m i : ℕ) (h : List A) → 1 ≤ i → i ≤ m → length h ≡ factorial (suc m)
        → Takes s p (factorial (suc m)) (back_cost m i) (nested_back A o q' r' m i h)
    unfolding nested_back back_cost factorial
    takes zero i h u v e = takes_free h e
    takes (suc m) i h u v e = takes_as (size i v u) refl (takes_join
        (takes_row B 0 (suc m - i) _ (λ k. back_cost m i) (λ k n. takes m i (b (0 + k)) u (omega arith) (b_length (0 + k) (omega arith))))
        (takes_join (takes_back B (b (suc m - i)) (b (suc m - i + 1)) (b_length (suc m - i) (omega arith)) (b_length (suc m - i + 1) (omega arith)))
        (takes_row B (suc m - i + 2) (i - 1) _ (λ k. back_cost m (i - 1)) (λ k n.
        takes m (i - 1) (b (suc m - i + 2 + k)) (omega arith) (omega arith) (b_length (suc m - i + 2 + k) (omega arith))))))
      where
        B : ℕ
        B = factorial (suc m)

        b : ℕ → List A
        b k = block B k h

        b_length : (k : ℕ) → k < suc (suc m) → length (b k) ≡ B
        b_length k n = block_length B (suc (suc m)) k h n e

        size : (i : ℕ) → i ≤ suc m → 1 ≤ i → (suc m - i) * B + (B + B + (i - 1) * B) ≡ suc (suc m) * B
        size i v u = let n : suc m - i + 2 + (i - 1) ≡ suc (suc m) = omega arith in omega (arith, ap (λ k. k * B) n)

    cost_is : (m i : ℕ) → 1 ≤ i → i ≤ m → 2 * back_cost m i ≡ (s + 2 * p) * factorial (suc m)
    unfolding back_cost factorial
    cost_is zero i u v = absurd (omega arith)
    cost_is (suc m) i u v = go (cost_is m)
      where
        w : ℕ
        w = (s + 2 * p) * factorial (suc m)

        go : ((i : ℕ) → 1 ≤ i → i ≤ m → 2 * back_cost m i ≡ w)
            → 2 * (series 0 (suc m - i) (λ k. back_cost m i) + (w + series (suc m - i + 2) (i - 1) (λ k. back_cost m (i - 1))))
            ≡ (s + 2 * p) * (suc (suc m) * factorial (suc m))
        go ih =
            let n : suc m - i + (i - 1) + 2 ≡ suc (suc m) = omega arith in
            omega (
              arith,
              series_const 0 (suc m - i) (back_cost m i),
              series_const (suc m - i + 2) (i - 1) (back_cost m (i - 1)),
              twice (suc m - i) (back_cost m i) w (λ k. ih i u (omega arith)),
              twice (i - 1) (back_cost m (i - 1)) w (λ k. ih (i - 1) (omega arith) (omega arith)),
              ap (λ k. k * w) n,
            )

    weighs : (m i : ℕ) (h : List A) → Letter m i → length h ≡ factorial (suc m)
        → 2 * weigh s p (nested_back A o q' r' m i h).count ≡ (s + 2 * p) * factorial (suc m)
    weighs m i h l e = ap (λ n. 2 * n) (takes m i h l.low l.high e).took ∙ cost_is m i l.low l.high

  pub back_counts : (m : ℕ) → BackCounts A o q' r' m
  unfolding weigh operations
  back_counts m = record {
    value = λ i l h e. back_values A o q' r' m i h l e;
    sums = λ i l h e. omega (arith, weighs 1 0 m i h l e);
    products = λ i l h e. omega (arith, weighs 0 1 m i h l e);
    count = λ i l h e. omega (arith, weighs 1 1 m i h l e);
  }
