-- Proposition 2.6: the four lines on a(m, k) a(j, l). Rests on Cycle: on points, an injective function that takes the points of a word's letters
-- to their neighbours, or leaves them, carries the word along.
use mathlib.Core.Path.{◌≡◌, refl, sym, ap, ◌∙◌, fun_ext}
use mathlib.Core.List.{map, ◌++◌}
use Prim.Native.Nat.{ℕ, zero, suc, ◌+◌, ◌-◌, ◌≤◌, ◌<◌}
use native.Mathlib.Omega.{arith}
use Rattle.perms.specs.Permutation.{identity, swap, product}
use Rattle.perms.specs.Tower.{cycle}
use Rattle.perms.specs.Laws.{a, Proposition2_6}
use Rattle.perms.proofs.Swap.{swap_swap, swap_carry}
use Rattle.perms.proofs.Word.{word_cycle, cycle_add}
use Rattle.perms.proofs.Walk.{walk, walk_injective, walk_append, of_word_walk, product_walk}
use Rattle.perms.proofs.Cycle.{cycle_below, cycle_within}

-- ---- on points

module _ (f : ℕ → ℕ) (injective : (u v : ℕ) → f u ≡ f v → u ≡ v) where
  -- f moves the points i - l + 1 to i + 1 by k - i
  carry_cycle : (i k l v : ℕ) → l ≤ i → l ≤ k → ((p : ℕ) → i < p + l → p ≤ suc i → f p + i ≡ p + k) → walk (cycle k l) (f v) ≡ f (walk (cycle i l) v)
  unfolding cycle walk
  carry_cycle i k zero v a b h = refl
  carry_cycle zero k (suc l) v a b h = absurd (omega arith)
  carry_cycle (suc i) zero (suc l) v a b h = absurd (omega arith)
  carry_cycle (suc i) (suc k) (suc l) v a b h =
      let p : f (suc i) ≡ suc k = omega (arith, h (suc i) (omega arith) (omega arith)) in
      let q : f (suc (suc i)) ≡ suc (suc k) = omega (arith, h (suc (suc i)) (omega arith) (omega arith)) in
      ap (walk (cycle k l)) (sym (swap_carry f injective (suc i) (suc k) v p q))
      ∙ carry_cycle i k l (swap (suc i) v) (omega arith) (omega arith) (λ x c d. omega (arith, h x (omega arith) (omega arith)))

-- a(i, k + l) is a(i, k) a(i - k, l)
walk_split : (i j k l n v : ℕ) → i ≡ j + k → n ≡ k + l → walk (cycle i n) v ≡ walk (cycle j l) (walk (cycle i k) v)
walk_split i j k l n v d e =
    ap (λ x. walk x v) (ap (cycle i) e ∙ cycle_add i k l ∙ ap (λ h. cycle i k ++ cycle h l) (omega arith))
    ∙ walk_append (cycle i k) (cycle j l) v

walk_apart : (m j k l v : ℕ) → j + k < m → l ≤ j → walk (cycle j l) (walk (cycle m k) v) ≡ walk (cycle m k) (walk (cycle j l) v)
walk_apart m j k l v h b =
    carry_cycle (walk (cycle m k)) (walk_injective (cycle m k)) j j l v b b
    (λ p c d. omega (arith, cycle_below m k p (omega arith)))

walk_passed : (m i j k l v : ℕ) → j ≡ suc i → j ≤ m → k ≤ m → l ≤ i → m + l < j + k
    → walk (cycle j l) (walk (cycle m k) v) ≡ walk (cycle m k) (walk (cycle i l) v)
walk_passed m i j k l v s a b c h =
    carry_cycle (walk (cycle m k)) (walk_injective (cycle m k)) i j l v c (omega arith)
    (λ p d e. omega (arith, cycle_within m k p b (omega arith) (omega arith)))

-- the letters of a(j, l) above b + 1 pass, b + 1 cancels the last letter of a(m, k), and those below it are apart from what is left
walk_crossed : (m j k l i n o b e g v : ℕ) → j ≡ suc i → k ≡ suc n → l ≡ suc o → m ≡ suc b + n → i ≡ b + e → o ≡ e + g → e ≤ n → g ≤ b
    → walk (cycle j l) (walk (cycle m k) v) ≡ walk (cycle m n) (walk (cycle i o) v)
unfolding cycle walk
walk_crossed m j k l i n o b e g v p q r d s t c h =
    let u : ℕ = walk (cycle i e) v in
    walk_split j (suc b) e (suc g) l (walk (cycle m k) v) (omega arith) (omega arith)
    ∙ ap (walk (cycle (suc b) (suc g))) (walk_passed m i j k e v p (omega arith) (omega arith) (omega arith) (omega arith))
    ∙ ap (walk (cycle (suc b) (suc g))) (walk_split m (suc b) n 1 k u d (omega arith))
    ∙ ap (walk (cycle b g)) (swap_swap (suc b) (walk (cycle m n) u))
    ∙ walk_apart m b n g u (omega arith) h
    ∙ ap (walk (cycle m n)) (sym (walk_split i b e g o v s t))

-- ---- as permutations

turned : (m j k l i n o : ℕ) → j ≤ m → k ≤ m → l ≤ j → i ≤ m → n ≤ m → o ≤ i
    → ((v : ℕ) → walk (cycle j l) (walk (cycle m k) v) ≡ walk (cycle m n) (walk (cycle i o) v))
    → product (a m m k) (a m j l) ≡ product (a m i o) (a m m n)
turned m j k l i n o b c d e f g h =
    product_walk m (cycle m k) (cycle j l) (word_cycle m m k (omega arith) c) (word_cycle m j l b d)
    ∙ ap (λ f. map f (identity m)) (fun_ext h)
    ∙ sym (product_walk m (cycle i o) (cycle m n) (word_cycle m i o e g) (word_cycle m m n (omega arith) f))

pub proposition_2_6 : (m j k l : ℕ) → 1 ≤ j → j ≤ m → k ≤ m → l ≤ j → Proposition2_6 m j k l
proposition_2_6 m j k l z b c d = record {
  apart = λ h. turned m j k l j k l b c d b c d (λ v. walk_apart m j k l v (omega arith) d);
  joined = λ h.
      product_walk m (cycle m k) (cycle j l) (word_cycle m m k (omega arith) c) (word_cycle m j l b d)
      ∙ ap (λ f. map f (identity m)) (fun_ext (λ v. sym (walk_split m j k l (k + l) v (omega arith) refl)))
      ∙ sym (of_word_walk m (cycle m (k + l)) (word_cycle m m (k + l) (omega arith) (omega arith)));
  crossed = λ g h. turned m j k l (j - 1) (k - 1) (l - 1) b c d (omega arith) (omega arith) (omega arith)
      (λ v. walk_crossed m j k l (j - 1) (k - 1) (l - 1) (m - k) (j + k - suc m) (m + l - (j + k)) v
      (omega arith) (omega arith) (omega arith) (omega arith) (omega arith) (omega arith) (omega arith) (omega arith));
  passed = λ h. turned m j k l (j - 1) k l b c d (omega arith) c (omega arith)
      (λ v. walk_passed m (j - 1) j k l v (omega arith) b c (omega arith) (omega arith));
}
