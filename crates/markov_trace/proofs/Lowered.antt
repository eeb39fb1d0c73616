-- An element of rank m + 1 has the trace of the element of rank m to which it is lowered, since the trace is linear. Rests on Lengths and Trace.
use mathlib.Core.Path.{◌≡◌, sym, ap, ◌∙◌}
use mathlib.Core.List.{List}
use Prim.Native.Nat.{ℕ, zero, suc, ◌+◌, ◌≤◌}
use native.Mathlib.Omega.{arith}
use lib.ListN.{length}
use Rattle.ring.specs.Ring.{Ops, Ring}
use Rattle.ring.specs.Sum.{sum}
use Rattle.ring.proofs.Ring.{add_zero}
use Rattle.lists.specs.Lists.{range}
use Rattle.lists.specs.Numbers.{factorial}
use Rattle.lists.specs.Blocks.{block}
use Rattle.algebra.specs.Element.{plus as plusList, scale as scaleList}
use Rattle.algebra.proofs.Lists.{scale_length}
use Rattle.algebra.proofs.Ranges.{sum_snoc}
use Rattle.markov_trace.specs.Trace.{sums, turned, trace, lowered}
use Rattle.markov_trace.proofs.Algebra.{plus, scale}
use Rattle.markov_trace.proofs.Lengths.{sums_length, part_length, turned_length}
use Rattle.markov_trace.proofs.Trace.{tr_plus, tr_scale}

module _ (A : Type 0) (o : Ops A) (q r z : A) (𝓡 : Ring A o) (m : ℕ) where
  abbrev tr : List A → A
  tr h = trace A o q r z m h

  abbrev Sized : List A → Type 0
  Sized h = length h ≡ factorial (suc m)

  plus_trace : (h g : List A) → Sized h → Sized g → tr (plusList A o h g) ≡ o.add (tr h) (tr g)
  unfolding plus
  plus_trace h g a b = tr_plus A o q r z 𝓡 record { list = h; size = a } record { list = g; size = b }

  scale_trace : (c : A) (h : List A) → Sized h → tr (scaleList A o c h) ≡ o.mul c (tr h)
  unfolding scale
  scale_trace c h a = tr_scale A o q r z 𝓡 c record { list = h; size = a }

  sums_trace : (a n : ℕ) (f : ℕ → List A) → ((k : ℕ) → a ≤ k → k ≤ a + n → Sized (f k)) → tr (sums A o a n f) ≡ sum A o (range a (suc n)) (λ k. tr (f k))
  unfolding sums sum range
  sums_trace a zero f e = sym (add_zero A o 𝓡 (tr (f a)))
  sums_trace a (suc n) f e =
      let before : (k : ℕ) → a ≤ k → k ≤ a + n → Sized (f k) = λ k i j. e k i (omega arith) in
      plus_trace (sums A o a n f) (f (a + suc n)) (sums_length A o (factorial (suc m)) a n f before) (e (a + suc n) (omega arith) (omega arith))
      ∙ ap (λ x. o.add x (tr (f (a + suc n)))) (sums_trace a n f before)
      ∙ sym (sum_snoc A o 𝓡 a (suc n) (λ k. tr (f k)))

  pub tr_lowered : (h : List A) → length h ≡ factorial (suc (suc m)) → trace A o q r z (suc m) h ≡ tr (lowered A o q r z m h)
  unfolding trace lowered
  tr_lowered h e =
      let t = turned A o q r m h in
      let sized : (k : ℕ) → 1 ≤ k → k ≤ 1 + m → Sized (t k) = λ k i j. turned_length A o m h e q r k (omega arith) in
      let s = sums_length A o (factorial (suc m)) 1 m t sized in
      sym (plus_trace (block (factorial (suc m)) 0 h) (scaleList A o z (sums A o 1 m t)) (part_length A o m h e 0 (omega arith)) (scale_length A o z _ ∙ s)
      ∙ ap (o.add (tr (block (factorial (suc m)) 0 h))) (scale_trace z (sums A o 1 m t) s ∙ ap (o.mul z) (sums_trace 1 m t sized)))
