-- One level of the nested method is a row of m + 1 blocks, by the four lines' conditions on k. Without any law of a ring. Rests on lists' Blocks.
use mathlib.Core.Path.{◌≡◌, refl, sym, ap, ap₂, ◌∙◌}
use mathlib.Core.List.{List, ◌++◌}
use Prim.Native.Nat.{ℕ, zero, suc, ◌+◌, ◌-◌, ◌≤◌, ◌<◌}
use native.Mathlib.Omega.{arith}
use Rattle.ring.specs.Ring.{Ops}
use Rattle.lists.specs.Lists.{range}
use Rattle.lists.specs.Numbers.{factorial}
use Rattle.lists.specs.Blocks.{block, blocks}
use Rattle.lists.proofs.Blocks.{blocks_add, blocks_cong}
use Rattle.algebra.specs.Nested.{Counted, free, ◌⧺◌, row, ◌⊞◌, ◌⊠◌, sum_along, part, level}

pub row_value : {A : Type 0} (a n : ℕ) (f : ℕ → Counted A) → (row a n f).value ≡ blocks n (λ i. (f (a + i)).value)
unfolding row blocks free ◌⧺◌
row_value a zero f = refl
row_value {A} a (suc n) f = ap {B = List A} (λ x. x ++ (f (a + n)).value) (row_value a n f)

module _ (A : Type 0) (o : Ops A) (q r : A) (f : ℕ → ℕ → List A → Counted A) (m j l : ℕ) (h : List A) (lj : l ≤ j) (jm : j ≤ m) where
  abbrev P : ℕ → Counted A
  P i = part A o f m j h i

  abbrev b : ℕ → List A
  b k = block (factorial m) k h

  pub level_blocks : (g : ℕ → List A)
      → ((k : ℕ) → k < m - j → (f j l (b k)).value ≡ g k)
      → ((i : ℕ) → 1 ≤ i → i ≤ l → (◌⊠◌ A o q (f (j - i) (l - i) (P i).value)).value ≡ g (m - j + i - 1))
      → (◌⊞◌ A o (free (b (m - j))) (◌⊠◌ A o r (sum_along A o (range 1 l) P))).value ≡ g (m - j + l)
      → ((k : ℕ) → m - j + l < k → k ≤ m → (f (j - 1) l (b k)).value ≡ g k)
      → (level A o q r f m j l h).value ≡ blocks (suc m) g
  unfolding level ◌⧺◌ blocks
  level_blocks g line_1 line_2 line_3 line_4 =
      ap₂ ◌++◌ r1 (ap₂ ◌++◌ r2 (ap₂ ◌++◌ r3 r4))
      ∙ sym (ap (λ n. blocks n g) whole ∙ blocks_add (m - j) (l + (1 + (j - l))) g
      ∙ ap (λ y. blocks (m - j) g ++ y) (blocks_add l (1 + (j - l)) (λ i. g (m - j + i))
      ∙ ap (λ y. blocks l (λ i. g (m - j + i)) ++ y) (blocks_add 1 (j - l) (λ i. g (m - j + (l + i))))))
    where
      whole : suc m ≡ m - j + (l + (1 + (j - l)))
      whole = omega arith

      r1 : (row 0 (m - j) (λ k. f j l (b k))).value ≡ blocks (m - j) g
      r1 = row_value 0 (m - j) _ ∙ blocks_cong (m - j) _ _ (λ k n. let x : 0 + k ≡ k = omega arith in ap (λ k. (f j l (b k)).value) x ∙ line_1 k n)

      r2 : (row 1 l (λ i. ◌⊠◌ A o q (f (j - i) (l - i) (P i).value))).value ≡ blocks l (λ i. g (m - j + i))
      r2 = row_value 1 l _ ∙ blocks_cong l _ _ (λ i n. let x : m - j + (1 + i) - 1 ≡ m - j + i = omega arith in line_2 (1 + i) (omega arith) (omega arith) ∙ ap g x)

      r3 : (◌⊞◌ A o (free (b (m - j))) (◌⊠◌ A o r (sum_along A o (range 1 l) P))).value ≡ g (m - j + (l + 0))
      r3 = let x : m - j + l ≡ m - j + (l + 0) = omega arith in line_3 ∙ ap g x

      r4 : (row (m - j + l + 1) (j - l) (λ k. f (j - 1) l (b k))).value ≡ blocks (j - l) (λ i. g (m - j + (l + (1 + i))))
      r4 = row_value (m - j + l + 1) (j - l) _ ∙ blocks_cong (j - l) _ _ (λ i n.
          let y : m - j + l + 1 + i ≡ m - j + (l + (1 + i)) = omega arith in
          ap (λ k. (f (j - 1) l (b k)).value) y ∙ line_4 (m - j + (l + (1 + i))) (omega arith) (omega arith))
