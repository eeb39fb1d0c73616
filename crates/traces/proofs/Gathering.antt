-- The blocks of a list are added to its first, one after another. Rests on lists' Blocks and Parts, and block_loops' Fits.
--
--   gathered p b x₀ k   the sum of the first k + 1 blocks of x₀, of b words
use mathlib.Core.Path.{◌≡◌, sym, ap, ap₂, ◌∙◌}
use mathlib.Core.List.{List}
use Prim.Native.Nat.{ℕ, suc, ◌+◌, ◌-◌, ◌*◌, ◌≤◌}
use native.Mathlib.Nat.{zero-add, zero-mul, suc-mul}
use native.Mathlib.Numerals.{add-one}
use native.Mathlib.Omega.{arith}
use lib.ListN.{length, take, drop}
use Rattle.lists.specs.Blocks.{block}
use Rattle.lists.proofs.Blocks.{block_size, block_drop}
use Rattle.lists.proofs.Parts.{fits_block, part_block}
use Rattle.algebra.specs.Element.{plus}
use Rattle.markov_trace.specs.Trace.{sums}
use Rattle.markov_trace.proofs.Lengths.{sums_length}
use Rattle.element_calls.specs.declared.Parameters.{Parameters}
use Rattle.element_calls.specs.Coefficients.{ring}
use Rattle.block_loops.specs.InPlace.{add_to}
use Rattle.block_loops.proofs.Fits.{add_fits}

module _ (p : Parameters) (b : ℕ) (x₀ : List ℕ) where
  abbrev pub gathered : ℕ → List ℕ
  gathered k = sums ℕ (ring p) 0 k (λ i. block b i x₀)

  gathered_more : (k : ℕ) → gathered (k + 1) ≡ plus ℕ (ring p) (gathered k) (block b (k + 1) x₀)
  unfolding sums
  gathered_more k =
      ap gathered (add-one k) ∙ ap (λ (i : ℕ). plus ℕ (ring p) (gathered k) (block b i x₀)) (zero-add (suc k) ∙ sym (add-one k))

  gathered_size : (k : ℕ) → k * b + b ≤ length x₀ → length (gathered k) ≡ b
  gathered_size k h =
      sums_length ℕ (ring p) b 0 k _ (λ i l n. block_size b i x₀ (fits_block i (suc k) b (length x₀) (omega arith) (omega (arith, suc-mul k b))))

  pub gathered_none : take b x₀ ≡ gathered 0
  unfolding sums block
  gathered_none = ap (λ (n : ℕ). take b (drop n x₀)) (sym (zero-mul b))

  -- block k of the others is block k + 1 of all
  later : (k : ℕ) → block b k (drop b x₀) ≡ block b (k + 1) x₀
  later k =
      let one : b ≡ 1 * b = omega arith in
      let e : 1 + k ≡ k + 1 = omega arith in
      ap (λ (n : ℕ). block b k (drop n x₀)) one ∙ block_drop b 1 k x₀ ∙ ap (λ (n : ℕ). block b n x₀) e

  pub gathered_next : (k : ℕ) {x o y : List ℕ} → x ≡ gathered k → o ≡ drop b x₀ → (k + 1) * b + b ≤ length x₀
      → y ≡ add_to p x (take (k * b + b - k * b) (drop (k * b) o)) → y ≡ gathered (k + 1)
  gathered_next k {x} {o} {y} h rest fits e =
      let lent = part_block b k o ∙ ap (block b k) rest ∙ later k in
      e ∙ ap₂ (add_to p) h lent
      ∙ add_fits p (gathered k) (block b (k + 1) x₀) (gathered_size k (omega (arith, suc-mul k b, fits)) ∙ sym (block_size b (k + 1) x₀ fits))
      ∙ sym (gathered_more k)
