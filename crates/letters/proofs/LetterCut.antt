-- A letter on an element of rank r + 1, by the three parts that are lent: what the calls on them require, and the element when all are back. Rests on
-- algebra's ByBlocks, block_loops' Fits and lists' Parts and Cuts.
use mathlib.Core.Path.{◌≡◌, sym, ap, ◌∙◌}
use mathlib.Core.List.{List, ◌++◌}
use Prim.Native.Nat.{ℕ, suc, ◌+◌, ◌*◌, ◌-◌}
use native.Mathlib.Nat.{add-mul}
use native.Mathlib.Omega.{arith}
use lib.ListN.{length, take, drop}
use borrow.Rule.Slice.PartMut.{mid_of, put_mid}
use Rattle.lists.specs.Numbers.{factorial}
use Rattle.lists.specs.Blocks.{block, blocks}
use Rattle.lists.proofs.Parts.{element_blocks}
use Rattle.algebra.specs.Pairs.{exchanged}
use Rattle.algebra.proofs.ByBlocks.{pair_blocks, on_pairs_blocks}
use Rattle.element_calls.specs.declared.Parameters.{Parameters}
use Rattle.element_calls.specs.Coefficients.{ring}
use Rattle.block_loops.specs.declared.Way.{Way}
use Rattle.block_loops.specs.InPlace.{exchanging, exchange_in}
use Rattle.block_loops.proofs.Fits.{exchange_fits}
use Rattle.letters.specs.Letters.{lettered, LetterPre, EachLetterPre}
use Rattle.lists.proofs.Cuts.{Cut, low_size, middle_size, high_size, cut_blocks}

below : (r : ℕ) → r ≡ r + 1 - 1
below r = omega arith

block_size : (r : ℕ) {b : ℕ} → b ≡ factorial (suc r) → b ≡ factorial (suc (r + 1 - 1))
block_size r s = s ∙ ap (λ (k : ℕ). factorial (suc k)) (below r)

module _ (r : ℕ) {j b : ℕ} {x : List ℕ} (pre : LetterPre (r + 1) j x) (s : b ≡ factorial (suc r)) where
  abbrev low : ℕ
  low = (r + 1 - j) * b

  abbrev high : ℕ
  high = (r + 1 - j) * b + b + b

  pub cut : Cut (r + 1 - j) 2 (j - 1) b high x
  cut =
      let n : suc (r + 1) ≡ r + 1 - j + 2 + (j - 1) = omega (arith, pre.letter.low, pre.letter.high) in
      record {
        top = sym (add-mul (r + 1 - j) 2 b ∙ omega arith);
        whole = pre.size ∙ element_blocks (r + 1) b (omega (arith, pre.letter.low, pre.letter.high)) (block_size r s) ∙ ap (λ (k : ℕ). k * b) n;
      }

  pub low_pre : EachLetterPre r b (r + 1 - j) j (take (low - 0) x)
  low_pre = record {
    rank = omega (arith, pre.rank);
    block_size = s;
    letter = λ h. record { low = pre.letter.low; high = omega arith };
    size = low_size cut;
  }

  module _ (v₁ : List ℕ) (s₁ : length v₁ ≡ length (take (low - 0) x)) where
    abbrev y₁ : List ℕ
    y₁ = put_mid 0 (low - 0) x v₁

    two_blocks : length (mid_of low (high - low) y₁) ≡ b + b
    two_blocks = middle_size cut v₁ s₁ ∙ omega arith

    module _ (v₂ : List ℕ) (s₂ : length v₂ ≡ length (mid_of low (high - low) y₁)) where
      abbrev y₂ : List ℕ
      y₂ = put_mid low (high - low) y₁ v₂

      pub high_pre : EachLetterPre r b (j - 1) (j - 1) (mid_of high (length y₂ - high) y₂)
      high_pre = record {
        rank = omega (arith, pre.rank);
        block_size = s;
        letter = λ h. record { low = h; high = omega (arith, pre.letter.high) };
        size = high_size cut v₁ s₁ v₂ s₂;
      }

      pub all_back : (w : Way) (p : Parameters) (v₃ : List ℕ) → v₁ ≡ blocks (r + 1 - j) (λ k. lettered w p r j (block b k (take (low - 0) x)))
          → v₂ ≡ exchange_in w p b (mid_of low (high - low) y₁)
          → v₃ ≡ blocks (j - 1) (λ k. lettered w p r (j - 1) (block b k (mid_of high (length y₂ - high) y₂)))
          → put_mid high (length y₂ - high) y₂ v₃ ≡ lettered w p (r + 1) j x
      all_back w p v₃ e₁ e₂ e₃ =
          let f = exchanging w p in
          let two : 2 * b ≡ b + b = omega arith in
          let rest = blocks (j - 1) (λ k. lettered w p r (j - 1) (block b k (drop ((r + 1 - j + 2) * b) x))) in
          cut_blocks cut v₁ s₁ v₂ s₂ v₃ (lettered w p r j) (exchanged f b) (lettered w p r (j - 1))
          e₁ (e₂ ∙ exchange_fits w p b (mid_of low (high - low) y₁) two_blocks) e₃
          ∙ ap (λ (n : ℕ). blocks (r + 1 - j) (λ k. lettered w p r j (block b k x)) ++ (exchanged f b (take n (drop low x)) ++ rest)) two
          ∙ sym (on_pairs_blocks ℕ (ring p) f (r + 1) j b x pre.letter pre.size (block_size r s) ∙ ap (λ (d : ℕ). pair_blocks ℕ (ring p) f d b (r + 1 - j) j x) (sym (below r)))
