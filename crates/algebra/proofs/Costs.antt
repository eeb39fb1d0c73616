-- What the nested method takes, for any weights of a ring sum and a ring product: `cost` for h T_a(j,l) and `costs` for h g, in any order of its parts.
-- It depends on lengths alone, and on no law of a ring. Rests on Takes, and lists' All, Range, Series, Sums, Without, Rearranged and Blocks.
use mathlib.Core.Path.{◌≡◌, refl, ap, ap₂, ◌∙◌}
use mathlib.Core.List.{List}
use Prim.Native.Nat.{ℕ, zero, suc, ◌+◌, ◌-◌, ◌*◌, ◌≤◌, ◌<◌}
use native.Mathlib.Omega.{arith}
use lib.ListN.{length, get_or}
use Rattle.ring.specs.Ring.{Ops}
use Rattle.lists.specs.Lists.{range}
use Rattle.lists.specs.Numbers.{factorial, series}
use Rattle.lists.specs.Blocks.{block}
use Rattle.lists.proofs.All.{all_any}
use Rattle.lists.proofs.Range.{length_range, all_range}
use Rattle.lists.proofs.Series.{series_add, series_const}
use Rattle.lists.proofs.Without.{all_rearranged}
use Rattle.lists.proofs.Rearranged.{sum_by_rearranged}
use Rattle.lists.proofs.Sums.{adds_numbers, sum_by_series}
use Rattle.lists.proofs.Blocks.{block_length}
use Rattle.algebra.specs.Nested.{rising, EachOnce, Counted, free, row, ◌⊞◌, ◌⊠◌, sum_along, part, level, nested_act, nested}
use Rattle.algebra.specs.Cost.{cost_line, cost, costs}
use Rattle.algebra.proofs.Takes.{Takes, takes_as, takes_free, takes_onward, takes_join, takes_row, takes_plus, takes_scale, takes_sum}

module _ (A : Type 0) (o : Ops A) (q r : A) (s p : ℕ) where
  -- one level, where f takes c' for blocks of m! coefficients
  level_takes : (f : ℕ → ℕ → List A → Counted A) (c' : ℕ → ℕ → ℕ) (m j l : ℕ) (h : List A)
      → ((j' l' : ℕ) (x : List A) → l' ≤ j' → j' < m → length x ≡ factorial m → Takes s p (factorial m) (c' j' l') (f j' l' x))
      → 1 ≤ l → l ≤ j → j ≤ m → length h ≡ suc m * factorial m → Takes s p (suc m * factorial m) (cost_line s p c' m j l) (level A o q r f m j l h)
  unfolding level cost_line part
  level_takes f c' m j l h t l1 lj jm e = takes_as size took (takes_join line_1 (takes_join line_2 (takes_join line_3 line_4)))
    where
      b : ℕ → List A
      b k = block (factorial m) k h

      b_length : (k : ℕ) → k < suc m → length (b k) ≡ factorial m
      b_length k i = block_length (factorial m) (suc m) k h i e

      P : ℕ → Counted A
      P i = f (j - 1) (i - 1) (b (m - j + i))

      P_takes : (i : ℕ) → 1 ≤ i → i ≤ l → Takes s p (factorial m) (c' (j - 1) (i - 1)) (P i)
      P_takes i u k = t (j - 1) (i - 1) (b (m - j + i)) (omega arith) (omega arith) (b_length (m - j + i) (omega arith))

      line_1 : Takes s p ((m - j) * factorial m) (series 0 (m - j) (λ k. c' j l)) (row 0 (m - j) (λ k. f j l (b k)))
      line_1 = takes_row (factorial m) 0 (m - j) _ (λ k. c' j l) (λ i k. t j l (b (0 + i)) lj (omega arith) (b_length (0 + i) (omega arith)))

      line_2 : Takes s p (l * factorial m) (series 1 l (λ i. c' (j - i) (l - i) + p * factorial m)) (row 1 l (λ i. ◌⊠◌ A o q (f (j - i) (l - i) (P i).value)))
      line_2 = takes_row (factorial m) 1 l _ (λ i. c' (j - i) (l - i) + p * factorial m) (λ i k.
          takes_scale A o q (t (j - (1 + i)) (l - (1 + i)) (P (1 + i)).value (omega arith) (omega arith) (P_takes (1 + i) (omega arith) (omega arith)).size))

      parts : Takes s p (factorial m) (series 1 l (λ i. c' (j - 1) (i - 1)) + (l - 1) * (s * factorial m)) (sum_along A o (range 1 l) P)
      parts = takes_as refl (ap₂ (λ x n. x + (n - 1) * (s * factorial m)) (sum_by_series 1 l _) (length_range 1 l))
          (takes_sum A o (factorial m) (range 1 l) P (λ i. c' (j - 1) (i - 1)) (omega (arith, length_range 1 l))
          (all_range _ 1 l (λ i u k. P_takes i u (omega arith))))

      line_3 : Takes s p (factorial m) (0 + (series 1 l (λ i. c' (j - 1) (i - 1)) + (l - 1) * (s * factorial m) + p * factorial m) + s * factorial m)
          (◌⊞◌ A o (free (b (m - j))) (◌⊠◌ A o r (sum_along A o (range 1 l) P)))
      line_3 = takes_plus A o (takes_free (b (m - j)) (b_length (m - j) (omega arith))) (takes_scale A o r parts)

      line_4 : Takes s p ((j - l) * factorial m) (series (m - j + l + 1) (j - l) (λ k. c' (j - 1) l)) (row (m - j + l + 1) (j - l) (λ k. f (j - 1) l (b k)))
      line_4 = takes_row (factorial m) (m - j + l + 1) (j - l) _ (λ k. c' (j - 1) l) (λ i k.
          t (j - 1) l (b (m - j + l + 1 + i)) (omega arith) (omega arith) (b_length (m - j + l + 1 + i) (omega arith)))

      size : (m - j) * factorial m + (l * factorial m + (factorial m + (j - l) * factorial m)) ≡ suc m * factorial m
      size = let e : m - j + l + 1 + (j - l) ≡ suc m = omega arith in omega (arith, ap (λ n. n * factorial m) e)

      took : series 0 (m - j) (λ k. c' j l) + (series 1 l (λ i. c' (j - i) (l - i) + p * factorial m)
          + (0 + (series 1 l (λ i. c' (j - 1) (i - 1)) + (l - 1) * (s * factorial m) + p * factorial m) + s * factorial m
          + series (m - j + l + 1) (j - l) (λ k. c' (j - 1) l)))
          ≡ cost_line s p c' m j l
      took =
          let e : suc (l - 1) ≡ l = omega arith in
          omega (
            arith,
            series_const 0 (m - j) (c' j l),
            series_const (m - j + l + 1) (j - l) (c' (j - 1) l),
            series_add 1 l (λ i. c' (j - i) (l - i)) (λ i. p * factorial m),
            series_const 1 l (p * factorial m),
            series_add 1 l (λ i. c' (j - 1) (i - 1)) (λ i. c' (j - i) (l - i)),
            ap (λ n. n * (s * factorial m)) e,
          )

  pub act_takes : (m j l : ℕ) (h : List A) → l ≤ j → j ≤ m → length h ≡ factorial (suc m)
      → Takes s p (factorial (suc m)) (cost s p m j l) (nested_act A o q r m j l h)
  unfolding nested_act cost factorial
  act_takes zero j l h a b e = takes_free h e
  act_takes (suc m) j zero h a b e = takes_free h e
  act_takes (suc m) j (suc l) h a b e =
      level_takes (nested_act A o q r m) (cost s p m) (suc m) j (suc l) h (λ j' l' x u v w. act_takes m j' l' x u (omega arith) w) (omega arith) a b e

  -- the order of the parts does not matter
  parts_take : {order : ℕ → List ℕ} (B l : ℕ) (f : ℕ → Counted A) (k : ℕ → ℕ) → EachOnce order → ((i : ℕ) → i ≤ l → Takes s p B (k i) (f i))
      → Takes s p B (series 0 (suc l) k + l * (s * B)) (sum_along A o (order l) f)
  unfolding rising
  parts_take {order} B l f k any t =
      let size : length (order l) ≡ suc l = (any l).size ∙ length_range 0 (suc l) in
      let less : length (order l) - 1 ≡ l = omega arith in
      takes_as refl
      (ap₂ (λ x n. x + n * (s * B)) (sum_by_rearranged adds_numbers k 0 (order l) (rising l) (all_any _ (λ i. tt) (rising l)) (any l) ∙ sum_by_series 0 (suc l) k)
      less)
      (takes_sum A o B (order l) f k (omega arith)
      (all_rearranged _ (order l) (rising l) 0 (any l) (all_range _ 0 (suc l) (λ i u n. t i (omega arith)))))

  pub product_takes : {order : ℕ → List ℕ} → EachOnce order → (m l : ℕ) (h g : List A) → l ≤ m → length h ≡ factorial (suc m) → length g ≡ factorial (suc l)
      → Takes s p (factorial (suc m)) (costs s p m l) (nested A o q r order m l h g)
  unfolding nested costs factorial
  product_takes any m zero h g a e k = takes_as refl (omega arith) (takes_scale A o (get_or g 0 o.zero) (takes_free h e))
  product_takes {order} any m (suc l) h g a e k = takes_as refl took
      (parts_take (factorial (suc m)) (suc l) _ (λ k. costs s p m l + cost s p m (suc l) k) any (λ i n.
      takes_onward (nested_act A o q r m (suc l) i)
      (product_takes any m l h (block (factorial (suc l)) i g) (omega arith) e (block_length (factorial (suc l)) (suc (suc l)) i g (omega arith) k))
      (λ d. act_takes m (suc l) i (nested A o q r order m l h (block (factorial (suc l)) i g)).value n a d)))
    where
      took : series 0 (suc (suc l)) (λ k. costs s p m l + cost s p m (suc l) k) + suc l * (s * factorial (suc m))
          ≡ costs s p m (suc l)
      took =
          let e : suc (suc l) ≡ suc l + 1 = omega arith in
          omega (
            arith,
            series_add 0 (suc (suc l)) (λ k. costs s p m l) (λ k. cost s p m (suc l) k),
            series_const 0 (suc (suc l)) (costs s p m l),
            ap (λ n. series 0 n (λ k. cost s p m (suc l) k)) e,
          )
