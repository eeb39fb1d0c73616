-- A level of the trace from its three steps: the blocks are turned, those after the first are added up in the place of the second, and z
-- times the sum is added to the first. Rests on Turning, lists' Blocks, BlockOf and Parts, algebra's CoefficientActions and markov_trace's Lengths.
use mathlib.Core.Path.{◌≡◌, sym, ap, ap₂, ◌∙◌}
use mathlib.Core.List.{List, ◌++◌}
use Prim.Native.Nat.{ℕ, zero, suc, ◌+◌, ◌-◌, ◌*◌, ◌≤◌, ◌<◌}
use native.Mathlib.Nat.{zero-mul}
use native.Mathlib.Omega.{arith}
use lib.ListN.{length, take, drop}
use lib.Seq.{take_at, length-take-le}
use Rattle.lists.specs.Blocks.{block, blocks}
use Rattle.lists.proofs.Blocks.{block_size, block_drop}
use Rattle.lists.proofs.BlockOf.{block_of}
use Rattle.lists.proofs.Parts.{fits_block}
use Rattle.perms.specs.Tower.{cycle}
use Rattle.algebra.specs.Element.{plus, scale}
use Rattle.algebra.specs.Product.{act}
use Rattle.algebra.proofs.CoefficientActions.{act_length}
use Rattle.markov_trace.specs.Trace.{sums, turned, lowered}
use Rattle.markov_trace.proofs.Lengths.{sums_length}
use Rattle.element_calls.specs.declared.Parameters.{Parameters}
use Rattle.element_calls.specs.Coefficients.{ring}
use Rattle.block_loops.specs.InPlace.{add_multiple}
use Rattle.block_loops.proofs.Fits.{multiple_fits}
use Rattle.traces.specs.Steps.{LevelPre}
use Rattle.traces.proofs.Turning.{on_block}

sums_shift : (p : Parameters) (a c n : ℕ) (f g : ℕ → List ℕ) → ((i : ℕ) → i ≤ n → f (a + i) ≡ g (c + i)) → sums ℕ (ring p) a n f ≡ sums ℕ (ring p) c n g
unfolding sums
sums_shift p a c zero f g e = let u : a ≡ a + 0 = omega arith in let v : c + 0 ≡ c = omega arith in ap f u ∙ e 0 (omega arith) ∙ ap g v
sums_shift p a c (suc n) f g e = ap₂ (plus ℕ (ring p)) (sums_shift p a c n f g (λ i l. e i (omega arith))) (e (suc n) (omega arith))

module _ (p : Parameters) (m b : ℕ) (x₀ x : List ℕ) (pre : LevelPre m b x₀) (turned-is : x ≡ blocks (m + 2) (λ k. on_block p m k (block b k x₀))) where
  own_size : (k : ℕ) → k < m + 2 → length (on_block p m k (block b k x₀)) ≡ b
  own_size k l =
      act_length ℕ (ring p) p.q p.r m (cycle m (k - 1)) _ (block_size b k x₀ (fits_block k (m + 2) b (length x₀) l (omega (arith, pre.size))) ∙ pre.block_size)
      ∙ sym pre.block_size

  own : (k : ℕ) → k < m + 2 → block b k x ≡ on_block p m k (block b k x₀)
  own k l = ap (block b k) turned-is ∙ block_of b (λ k. on_block p m k (block b k x₀)) (m + 2) k own_size l

  -- the blocks after the first come back as u
  module _ (same : length x ≡ length x₀) {f o u : List ℕ} (first-is : f ≡ take b x) (others-is : o ≡ drop b x)
      (eu : u ≡ sums ℕ (ring p) 0 m (λ k. block b k o) ++ drop b o) where
    two : b + b ≤ length x
    two = omega (arith, same, pre.size, fits_block 1 (m + 2) b ((m + 2) * b) (omega arith) (omega arith))

    first_size : length f ≡ b
    first_size = ap length first-is ∙ length-take-le b x (omega (arith, two))

    first : f ≡ block b 0 x₀
    unfolding block act cycle
    first = first-is ∙ ap (λ (n : ℕ). take b (drop n x)) (sym (zero-mul b)) ∙ own 0 (omega arith)

    summed : sums ℕ (ring p) 0 m (λ k. block b k o) ≡ sums ℕ (ring p) 1 m (λ k. on_block p m k (block b k x₀))
    summed = sums_shift p 0 1 m _ _ (λ i l.
        let e : 0 + i ≡ i = omega arith in let one : b ≡ 1 * b = omega arith in
        ap (λ (y : List ℕ). block b (0 + i) y) others-is ∙ ap₂ {C = List ℕ} (λ n k. block b k (drop n x)) one e ∙ block_drop b 1 i x ∙ own (1 + i) (omega arith))

    sum_size : length (sums ℕ (ring p) 1 m (λ k. on_block p m k (block b k x₀))) ≡ b
    sum_size = sums_length ℕ (ring p) b 1 m _ (λ k i j. own_size k (omega arith))

    second : take b u ≡ sums ℕ (ring p) 1 m (λ k. on_block p m k (block b k x₀))
    second = ap (take b) (eu ∙ ap (λ (t : List ℕ). t ++ drop b o) summed) ∙ take_at _ (drop b o) b sum_size

    pub level_done : (z : ℕ) (v : List ℕ) → v ≡ plus ℕ (ring p) f (scale ℕ (ring p) z (take b u)) → v ≡ lowered ℕ (ring p) p.q p.r z m x₀
    unfolding lowered turned
    level_done z v e =
        e ∙ ap₂ (λ s t. plus ℕ (ring p) s (scale ℕ (ring p) z t)) first second
        ∙ ap (λ (n : ℕ). plus ℕ (ring p) (block n 0 x₀) (scale ℕ (ring p) z (sums ℕ (ring p) 1 m (λ k. on_block p m k (block n k x₀))))) pre.block_size

    pub level_added : (z : ℕ) (v : List ℕ) → length v ≡ length f → v ≡ add_multiple p f z (take b u) → take b (v ++ u) ≡ lowered ℕ (ring p) p.q p.r z m x₀
    level_added z v ev e =
        take_at v u b (ev ∙ first_size) ∙ level_done z v (e ∙ multiple_fits p f z (take b u) (first_size ∙ sym (ap length second ∙ sum_size)))
