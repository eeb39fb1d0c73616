-- Sums over a range of numbers: terms that are equal in the range, and, in a commutative ring, the last term apart. Rests on ring's Sum and lists' Range.
use mathlib.Core.Path.{◌≡◌, sym, ap, ◌∙◌}
use Prim.Native.Nat.{ℕ, zero, suc, ◌+◌, ◌≤◌, ◌<◌}
use native.Mathlib.Omega.{arith}
use Rattle.ring.specs.Ring.{Ops, Ring}
use Rattle.ring.specs.Sum.{sum}
use Rattle.ring.proofs.Ring.{add_zero}
use Rattle.ring.proofs.Sum.{sum_cong}
use Rattle.lists.specs.Lists.{range}
use Rattle.lists.proofs.Range.{mem_range}

module _ (A : Type 0) (o : Ops A) where
  pub sum_range : (a n : ℕ) (f g : ℕ → A) → ((i : ℕ) → a ≤ i → i < a + n → f i ≡ g i) → sum A o (range a n) f ≡ sum A o (range a n) g
  sum_range a n f g h = sum_cong A o (range a n) f g (λ i t. let b = mem_range a n t in h i b.0 b.1)

module _ (A : Type 0) (o : Ops A) (𝓡 : Ring A o) where
  pub sum_snoc : (a n : ℕ) (f : ℕ → A) → sum A o (range a (suc n)) f ≡ o.add (sum A o (range a n) f) (f (a + n))
  unfolding sum range
  sum_snoc a zero f = add_zero A o 𝓡 (f a) ∙ ap f (omega arith) ∙ sym (𝓡.zero_add (f (a + 0)))
  sum_snoc a (suc n) f =
      ap (o.add (f a)) (sum_snoc (suc a) n f ∙ ap (λ k. o.add (sum A o (range (suc a) n) f) (f k)) (omega arith))
      ∙ sym (𝓡.add_assoc (f a) (sum A o (range (suc a) n) f) (f (a + suc n)))
