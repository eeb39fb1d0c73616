-- How many coefficients an embedded element, a sum of elements, a block and a turned block have. Rests on algebra's CoefficientActions and
-- Lists, and lists' Blocks.
use mathlib.Core.Path.{◌≡◌, sym, ◌∙◌}
use mathlib.Core.List.{List}
use Prim.Native.Nat.{ℕ, zero, suc, ◌+◌, ◌*◌, ◌≤◌}
use native.Mathlib.Omega.{arith}
use lib.ListN.{length, replicate, length-append, length-replicate}
use Rattle.ring.specs.Ring.{Ops}
use Rattle.lists.specs.Numbers.{factorial}
use Rattle.lists.specs.Blocks.{block}
use Rattle.lists.proofs.Blocks.{block_length}
use Rattle.algebra.proofs.Lists.{plus_length}
use Rattle.algebra.proofs.CoefficientActions.{act_length}
use Rattle.markov_trace.specs.Trace.{embed, sums, turned}

module _ (A : Type 0) (o : Ops A) where
  pub embed_length : (m : ℕ) (h : List A) → length h ≡ factorial (suc m) → length (embed A o m h) ≡ factorial (suc (suc m))
  unfolding embed factorial
  embed_length m h e =
      let n = suc m * factorial (suc m) in
      length-append h (replicate n o.zero) ∙ omega (arith, length-replicate n o.zero)

  pub sums_length : (b a n : ℕ) (f : ℕ → List A) → ((k : ℕ) → a ≤ k → k ≤ a + n → length (f k) ≡ b) → length (sums A o a n f) ≡ b
  unfolding sums
  sums_length b a zero f e = e a (omega arith) (omega arith)
  sums_length b a (suc n) f e =
      let before = sums_length b a n f (λ k i j. e k i (omega arith)) in
      plus_length A o (sums A o a n f) (f (a + suc n)) (before ∙ sym (e (a + suc n) (omega arith) (omega arith))) ∙ before

  module _ (m : ℕ) (h : List A) (e : length h ≡ factorial (suc (suc m))) where
    pub part_length : (k : ℕ) → k ≤ suc m → length (block (factorial (suc m)) k h) ≡ factorial (suc m)
    unfolding factorial
    part_length k l = block_length (factorial (suc m)) (suc (suc m)) k h (omega arith) e

    pub turned_length : (q r : A) (k : ℕ) → k ≤ suc m → length (turned A o q r m h k) ≡ factorial (suc m)
    unfolding turned
    turned_length q r k l = act_length A o q r m _ _ (part_length k l)
