-- The trace by blocks: it is linear. Rests on Embedding and Cycles.
--
--   tr x        the trace of x
--   term x k    x_k T_a(m,k-1), for x of rank m + 1 with the blocks x_0, x_1, ..
use mathlib.Core.Path.{◌≡◌, sym, ap, ap₂, ◌∙◌}
use Prim.Native.Nat.{ℕ, zero, suc, ◌-◌}
use native.Mathlib.Omega.{arith}
use Rattle.ring.specs.Ring.{Ops, Ring}
use Rattle.ring.specs.Sum.{sum}
use Rattle.ring.proofs.Ring.{add_left_comm, mul_left_comm, zero_mul}
use Rattle.ring.proofs.Sum.{sum_add, sum_mul}
use Rattle.lists.specs.Lists.{range}
use Rattle.lists.specs.Numbers.{factorial}
use Rattle.perms.specs.Tower.{cycle}
use Rattle.perms.proofs.CycleReduced.{cycle_shortest}
use Rattle.algebra.specs.Product.{act}
use Rattle.algebra.proofs.Lists.{get_or_plus, get_or_scale}
use Rattle.algebra.proofs.Ranges.{sum_range}
use Rattle.markov_trace.specs.Trace.{turned, trace}
use Rattle.markov_trace.proofs.Algebra.{H, plus, scale, zero as zeroH, times, acted}
use Rattle.markov_trace.proofs.AlgebraLaws.{plus_times, scale_times, zero_scale, acts}
use Rattle.markov_trace.proofs.Blocks.{block, block_list}
use Rattle.markov_trace.proofs.Embedding.{block_plus, block_scale}
use Rattle.markov_trace.proofs.Cycles.{cyc}

module _ (A : Type 0) (o : Ops A) (q r z : A) (𝓡 : Ring A o) where
  infixl 60 ◌⊕◌ ◌+ᴬ◌
  infixl 70 ◌·◌ ◌*ᴬ◌
  infixr 80 ◌⊙◌
  abbrev ◌·◌ : {m : ℕ} → H A m → H A m → H A m
  x · y = times A o q r x y

  abbrev ◌⊕◌ : {m : ℕ} → H A m → H A m → H A m
  x ⊕ y = plus A o x y

  abbrev ◌⊙◌ : {m : ℕ} → A → H A m → H A m
  c ⊙ x = scale A o c x

  abbrev ◌+ᴬ◌ : A → A → A
  x +ᴬ y = o.add x y

  abbrev ◌*ᴬ◌ : A → A → A
  x *ᴬ y = o.mul x y

  abbrev pub tr : {m : ℕ} → H A m → A
  tr {m} x = trace A o q r z m x.list

  abbrev pub term : {m : ℕ} → H A (suc m) → ℕ → H A m
  term {m} x k = block A o k x · cyc A o m (k - 1)

  pub trace_blocks : {m : ℕ} (x : H A (suc m)) → tr x ≡ tr (block A o 0 x) +ᴬ z *ᴬ sum A o (range 1 (suc m)) (λ k. tr (term x k))
  unfolding trace turned acted
  trace_blocks {m} x =
      ap₂ (λ a b. a +ᴬ z *ᴬ b) (ap (trace A o q r z m) (block_list A o 0 x (omega arith))) (sum_range A o 1 (suc m) _ _ (λ k l n.
      ap (λ h. trace A o q r z m (act A o q r m (cycle m (k - 1)) h)) (block_list A o k x (omega arith))
      ∙ ap (λ y. tr y) (acts A o q r 𝓡 (cycle_shortest m m (k - 1) (omega arith) (omega arith)) (block A o k x))))

  -- ---- linear

  add_add : (a b c d : A) → (a +ᴬ b) +ᴬ (c +ᴬ d) ≡ (a +ᴬ c) +ᴬ (b +ᴬ d)
  add_add a b c d = 𝓡.add_assoc a b (c +ᴬ d) ∙ ap (o.add a) (add_left_comm A o 𝓡 b c d) ∙ sym (𝓡.add_assoc a c (b +ᴬ d))

  plus_at : (m : ℕ) (x y : H A m) → tr (x ⊕ y) ≡ tr x +ᴬ tr y
  unfolding trace plus factorial
  plus_at zero x y = get_or_plus A o x.list y.list 0 o.zero (omega (arith, x.size)) (x.size ∙ sym y.size)
  plus_at (suc m) x y =
      trace_blocks (x ⊕ y)
      ∙ ap₂ (λ a b. a +ᴬ z *ᴬ b)
      (ap (λ h. tr h) (block_plus A o q r 𝓡 0 (omega arith) x y) ∙ plus_at m (block A o 0 x) (block A o 0 y))
      (sum_range A o 1 (suc m) _ _ (λ k l n.
      ap (λ h. tr (h · cyc A o m (k - 1))) (block_plus A o q r 𝓡 k (omega arith) x y)
      ∙ ap (λ h. tr h) (plus_times A o q r 𝓡 (block A o k x) (block A o k y) (cyc A o m (k - 1)))
      ∙ plus_at m (term x k) (term y k))
      ∙ sum_add A o 𝓡 (range 1 (suc m)) (λ k. tr (term x k)) (λ k. tr (term y k)))
      ∙ ap (o.add (tr (block A o 0 x) +ᴬ tr (block A o 0 y))) (𝓡.mul_add z _ _)
      ∙ add_add _ _ _ _
      ∙ sym (ap₂ o.add (trace_blocks x) (trace_blocks y))

  scale_at : (m : ℕ) (c : A) (x : H A m) → tr (c ⊙ x) ≡ c *ᴬ tr x
  unfolding trace scale factorial
  scale_at zero c x = get_or_scale A o c x.list 0 o.zero (omega (arith, x.size))
  scale_at (suc m) c x =
      trace_blocks (c ⊙ x)
      ∙ ap₂ (λ a b. a +ᴬ z *ᴬ b)
      (ap (λ h. tr h) (block_scale A o q r 𝓡 0 (omega arith) c x) ∙ scale_at m c (block A o 0 x))
      (sum_range A o 1 (suc m) _ _ (λ k l n.
      ap (λ h. tr (h · cyc A o m (k - 1))) (block_scale A o q r 𝓡 k (omega arith) c x)
      ∙ ap (λ h. tr h) (scale_times A o q r 𝓡 c (block A o k x) (cyc A o m (k - 1)))
      ∙ scale_at m c (term x k))
      ∙ sum_mul A o 𝓡 (range 1 (suc m)) c (λ k. tr (term x k)))
      ∙ ap (o.add (c *ᴬ tr (block A o 0 x))) (mul_left_comm A o 𝓡 z c _)
      ∙ sym (𝓡.mul_add c _ _)
      ∙ ap (o.mul c) (sym (trace_blocks x))

  module _ {m : ℕ} where
    pub tr_plus : (x y : H A m) → tr (x ⊕ y) ≡ tr x +ᴬ tr y
    tr_plus = plus_at m

    pub tr_scale : (c : A) (x : H A m) → tr (c ⊙ x) ≡ c *ᴬ tr x
    tr_scale = scale_at m

  pub tr_zero : (m : ℕ) → tr (zeroH A o m) ≡ o.zero
  tr_zero m = ap (λ h. tr h) (sym (zero_scale A o q r 𝓡 (zeroH A o m))) ∙ tr_scale o.zero (zeroH A o m) ∙ zero_mul A o 𝓡 _
