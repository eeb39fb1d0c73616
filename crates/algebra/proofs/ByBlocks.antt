-- An operator on pairs, on the blocks of an element of rank m ≥ 1: three parts. Without any law of a ring. Rests on PairLists, PairBlocks and
-- Elements, and lists' Blocks.
--
--   pair_blocks f d b a i x   the blocks of x, of rank d and b coefficients: f for s_i on each of the first a, f on the pairs of the two after these, and
--                             f for s_(i-1) on each of the i - 1 at the end
use mathlib.Core.Path.{◌≡◌, sym, ap, ap₂, ◌∙◌}
use mathlib.Core.List.{List, ◌++◌}
use Prim.Native.Nat.{ℕ, zero, suc, ◌+◌, ◌-◌, ◌*◌, ◌≤◌, ◌<◌}
use native.Mathlib.Nat.{mul-le-mul_right}
use native.Mathlib.Omega.{arith}
use lib.ListN.{length, take, drop}
use Rattle.ring.specs.Ring.{Ops}
use Rattle.lists.specs.Numbers.{factorial}
use Rattle.lists.specs.Blocks.{block, blocks}
use Rattle.lists.proofs.Blocks.{block_drop, by_blocks, blocks_add, blocks_cong}
use Rattle.perms.specs.Permutation.{Letter}
use Rattle.perms.specs.Extend.{extend}
use Rattle.algebra.specs.Element.{coefficient}
use Rattle.algebra.specs.Pairs.{OnPair, on_pairs, zipped, exchanged}
use Rattle.algebra.proofs.Generator.{P}
use Rattle.algebra.proofs.Elements.{Has, has_own, has_eq, has_on_pairs, has_zipped, equal_elements}
use Rattle.algebra.proofs.PairLists.{exchanged_blocks}
use Rattle.algebra.proofs.PairBlocks.{block_at, extended, P_above, P_upper, P_lower, P_below}

abbrev pub pair_blocks : (A : Type 0) (o : Ops A) → OnPair A → ℕ → ℕ → ℕ → ℕ → List A → List A
pair_blocks A o f d b a i x =
    blocks a (λ k. on_pairs A o f d i (block b k x))
    ++ (exchanged f b (take (b + b) (drop (a * b) x)) ++ blocks (i - 1) (λ k. on_pairs A o f d (i - 1) (block b k (drop ((a + 2) * b) x))))

-- at rank m + 1, with j + 1 in the place of i
module _ (A : Type 0) (o : Ops A) (f : OnPair A) (m j : ℕ) (h : List A) (jm : j ≤ m) (e : length h ≡ factorial (suc (suc m))) where
  abbrev a : ℕ
  a = suc m - suc j

  abbrev B : ℕ
  B = factorial (suc m)

  abbrev F : List ℕ → A
  F = coefficient A o h

  abbrev b : ℕ → List A
  b k = block B k h

  -- block k of the result
  abbrev X : ℕ → List A
  X k = block B k (on_pairs A o f (suc m) (suc j) h)

  whole : Has A o (suc m) (on_pairs A o f (suc m) (suc j) h) (P f (suc j) F)
  whole = has_on_pairs A o (has_own A o e) f (record { low = omega arith; high = omega arith })

  has_b : (k : ℕ) → k ≤ suc m → Has A o m (b k) (block_at (m + 2 - k) F)
  has_b k n = extended k (has_own A o e) n

  pub on_pairs_before : (k : ℕ) → k < a → X k ≡ on_pairs A o f m (suc j) (b k)
  on_pairs_before k n =
      equal_elements A o (extended k whole (omega arith)) (has_on_pairs A o (has_b k (omega arith)) f (record { low = omega arith; high = omega arith }))
      (λ u p. P_above f (suc j) (m + 2 - k) F u (omega arith))

  both : (g : A → A → A) → Has A o m (zipped g (b a) (b (a + 1))) (λ u. g (F (extend (suc (suc j)) u)) (F (extend (suc j) u)))
  both g =
      let x : m + 2 - a ≡ suc (suc j) = omega arith in
      let y : m + 2 - (a + 1) ≡ suc j = omega arith in
      has_eq A o (has_zipped A o (has_b a (omega arith)) (has_b (a + 1) (omega arith)) g) (λ u p. ap₂ (λ c d. g (F (extend c u)) (F (extend d u))) x y)

  pub on_pairs_upper : X a ≡ zipped f.shorter (b a) (b (a + 1))
  on_pairs_upper = equal_elements A o (extended a whole (omega arith)) (both f.shorter) (λ u p.
      let x : m + 2 - a ≡ suc (suc j) = omega arith in
      ap (λ c. P f (suc j) F (extend c u)) x ∙ P_upper f (suc j) F u (omega (arith, p.once (suc j) (omega arith) (omega arith))))

  pub on_pairs_lower : X (a + 1) ≡ zipped f.longer (b a) (b (a + 1))
  on_pairs_lower = equal_elements A o (extended (a + 1) whole (omega arith)) (both f.longer) (λ u p.
      let x : m + 2 - (a + 1) ≡ suc j = omega arith in
      ap (λ c. P f (suc j) F (extend c u)) x ∙ P_lower f (suc j) F u (omega (arith, p.once (suc j) (omega arith) (omega arith))))

  pub on_pairs_after : (k : ℕ) → a + 1 < k → k ≤ suc m → X k ≡ on_pairs A o f m j (b k)
  on_pairs_after k n l =
      equal_elements A o (extended k whole l) (has_on_pairs A o (has_b k l) f (record { low = omega arith; high = omega arith }))
      (λ u p. P_below f j (m + 2 - k) F u (omega arith))

  pub in_row : on_pairs A o f (suc m) (suc j) h ≡ pair_blocks A o f m B a (suc j) h
  unfolding factorial blocks
  in_row =
      let n : suc (suc m) ≡ a + (2 + j) = omega arith in
      by_blocks B (suc (suc m)) (on_pairs A o f (suc m) (suc j) h) whole.size
      ∙ ap (λ k. blocks k X) n ∙ blocks_add a (2 + j) X
      ∙ ap₂ {C = List A} (λ u v. u ++ v) (blocks_cong a _ _ on_pairs_before)
      (blocks_add 2 j (λ k. X (a + k)) ∙ ap₂ {C = List A} (λ u v. u ++ v) middle last)
    where
      middle : X (a + 0) ++ X (a + 1) ≡ exchanged f B (take (B + B) (drop (a * B) h))
      middle =
          let x : a + 0 ≡ a = omega arith in
          let inside : (a + 2) * B ≤ suc (suc m) * B = mul-le-mul_right B (omega arith) in
          ap₂ {C = List A} (λ u v. u ++ v) (ap X x ∙ on_pairs_upper) on_pairs_lower ∙ sym (exchanged_blocks f B a h (omega (arith, e, inside)))

      last : blocks j (λ k. X (a + (2 + k))) ≡ blocks (suc j - 1) (λ k. on_pairs A o f m (suc j - 1) (block B k (drop ((a + 2) * B) h)))
      last =
          let x : j ≡ suc j - 1 = omega arith in
          blocks_cong j _ _ (λ k n.
          let y : a + (2 + k) ≡ a + 2 + k = omega arith in
          on_pairs_after (a + (2 + k)) (omega arith) (omega arith) ∙ ap (on_pairs A o f m j) (ap b y ∙ sym (block_drop B (a + 2) k h)))
          ∙ ap (λ n. blocks n (λ k. on_pairs A o f m n (block B k (drop ((a + 2) * B) h)))) x

-- at rank m ≥ 1
pub on_pairs_blocks : (A : Type 0) (o : Ops A) (f : OnPair A) (m i b : ℕ) (h : List A) → Letter m i → length h ≡ factorial (suc m) → b ≡ factorial (suc (m - 1))
    → on_pairs A o f m i h ≡ pair_blocks A o f (m - 1) b (m - i) i h
on_pairs_blocks A o f zero i b h l e s = absurd (omega arith)
on_pairs_blocks A o f (suc m) zero b h l e s = absurd (omega arith)
on_pairs_blocks A o f (suc m) (suc j) b h l e s =
    let n : m ≡ suc m - 1 = omega arith in
    in_row A o f m j h (omega arith) e ∙ ap₂ (λ d c. pair_blocks A o f d c (suc m - suc j) (suc j) h) n (ap (λ k. factorial (suc k)) n ∙ sym s)
