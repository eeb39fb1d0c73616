-- A sum by length, by blocks: the length of u a(m + 1, k) is that of u and k, so the sum of rank m + 1 is the sum over k of q to the power k times that of
-- block k, in every commutative ring. Rests on algebra's Enumeration, Order and Recursion.
--
--   horner n P s      P(0) + q (P(1) + .. + q (P(n - 1) + q s))
--   by_blocks m a g   the sum of rank m + 1 by its blocks, with Horner's rule
use mathlib.Core.Path.{◌≡◌, sym, ap, ap₂, ◌∙◌}
use mathlib.Core.List.{List, map}
use Prim.Native.Nat.{ℕ, zero, suc, ◌+◌, ◌≤◌, ◌<◌}
use native.Mathlib.Numerals.{unary_clauses}
use native.Mathlib.Omega.{arith}
use Rattle.ring.specs.Ring.{Ops, Ring}
use Rattle.ring.specs.Sum.{sum}
use Rattle.ring.proofs.Ring.{add_zero, mul_zero}
use Rattle.ring.proofs.Sum.{sum_map, sum_append, sum_mul}
use Rattle.lists.specs.Numbers.{factorial}
use Rattle.lists.specs.Blocks.{block, blocks}
use Rattle.perms.specs.Permutation.{Perm, len}
use Rattle.algebra.specs.Place.{join, perms}
use Rattle.algebra.specs.Element.{coefficient}
use Rattle.algebra.specs.Pairing.{power}
use Rattle.algebra.proofs.Functions.{sum_all}
use Rattle.algebra.proofs.Enumeration.{perms_perm}
use Rattle.algebra.proofs.Order.{coefficient_block}
use Rattle.algebra.proofs.Recursion.{len_join}
use Rattle.pairings.specs.Walk.{by_length}

module _ (A : Type 0) (o : Ops A) (q : A) where
  unfoldable pub horner : ℕ → (ℕ → A) → A → A
  horner zero P s = s
  horner (suc n) P s = horner n P (o.add (P n) (o.mul q s))

  abbrev pub by_blocks : ℕ → List A → (List ℕ → A) → A
  by_blocks m a g = horner (m + 2) (λ k. by_length A o q m (block (factorial (suc m)) k a) (λ u. g (join m k u))) o.zero

  pub by_length_cong : (m : ℕ) (a : List A) (g h : List ℕ → A) → ((w : List ℕ) → Perm m w → g w ≡ h w) → by_length A o q m a g ≡ by_length A o q m a h
  unfolding by_length
  by_length_cong m a g h e = sum_all A o (Perm m) (perms m) _ _ (perms_perm m) (λ w p.
      ap (λ x. o.mul (power A o q (len w)) (o.mul (coefficient A o a w) x)) (e w p))

-- ---- in a commutative ring

module _ (A : Type 0) (o : Ops A) (𝓡 : Ring A o) (q : A) where
  power_add : (n k : ℕ) → power A o q (n + k) ≡ o.mul (power A o q k) (power A o q n)
  unfolding power
  power_add n zero = simp unary_clauses (sym (𝓡.one_mul (power A o q n)))
  power_add n (suc k) = simp unary_clauses (ap (o.mul q) (power_add n k) ∙ sym (𝓡.mul_assoc q (power A o q k) (power A o q n)))

  -- the blocks g(0), g(1), .. of a sum, where block k is P(k) times q to the power k
  horner_blocks : {B : Type 0} (n : ℕ) (g : ℕ → List B) (f : B → A) (P : ℕ → A) (s : A)
      → ((k : ℕ) → k < n → sum A o (g k) f ≡ o.mul (power A o q k) (P k))
      → o.add (sum A o (blocks n g) f) (o.mul (power A o q n) s) ≡ horner A o q n P s
  unfolding horner blocks sum power
  horner_blocks zero g f P s h = 𝓡.zero_add (o.mul o.one s) ∙ 𝓡.one_mul s
  horner_blocks (suc n) g f P s h =
      let x = sum A o (blocks n g) f in
      let p = power A o q n in
      ap₂ o.add (sum_append A o 𝓡 (blocks n g) (g n) f ∙ ap (o.add x) (h n (omega arith)))
      (ap (λ y. o.mul y s) (𝓡.mul_comm q p) ∙ 𝓡.mul_assoc p q s)
      ∙ 𝓡.add_assoc x (o.mul p (P n)) (o.mul p (o.mul q s))
      ∙ ap (o.add x) (sym (𝓡.mul_add p (P n) (o.mul q s)))
      ∙ horner_blocks n g f P (o.add (P n) (o.mul q s)) (λ k l. h k (omega arith))

  pub by_blocks_lem : (m : ℕ) (a : List A) (g : List ℕ → A) → by_length A o q (suc m) a g ≡ by_blocks A o q m a g
  unfolding by_length perms
  by_blocks_lem m a g =
      sym (ap (o.add whole) (mul_zero A o 𝓡 (power A o q (m + 2))) ∙ add_zero A o 𝓡 whole)
      ∙ horner_blocks (m + 2) (λ k. map (join m k) (perms m)) term (λ k. by_length A o q m (part k) (λ u. g (join m k u))) o.zero
      (λ k l. each k (omega arith))
    where
      part : ℕ → List A
      part k = block (factorial (suc m)) k a

      term : List ℕ → A
      term w = o.mul (power A o q (len w)) (o.mul (coefficient A o a w) (g w))

      whole : A
      whole = by_length A o q (suc m) a g

      each : (k : ℕ) → k ≤ suc m → sum A o (map (join m k) (perms m)) term ≡ o.mul (power A o q k) (by_length A o q m (part k) (λ u. g (join m k u)))
      each k l =
          sum_map A o (join m k) (perms m) term
          ∙ sum_all A o (Perm m) (perms m) _ _ (perms_perm m) (λ u p.
          rw (len_join k u l p, power_add (len u) k, coefficient_block A o a k u l p)
          (𝓡.mul_assoc (power A o q k) (power A o q (len u)) (o.mul (coefficient A o (part k) u) (g (join m k u)))))
          ∙ sum_mul A o 𝓡 (perms m) (power A o q k) (λ u. o.mul (power A o q (len u)) (o.mul (coefficient A o (part k) u) (g (join m k u))))
