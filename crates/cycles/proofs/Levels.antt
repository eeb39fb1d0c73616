-- The three parts of an element that `level` lends: what its calls require, and the action of T_a(j,l) when the parts are back. Rests on
-- Pieces, and lists' Parts and Cuts.
--
--   Cutting m j l b high x w   what `level` has where it cuts x into blocks of b words, the third part from `high` on; w is the work slice
use mathlib.Core.Path.{◌≡◌, sym, ap, ◌∙◌}
use mathlib.Core.List.{List}
use Prim.Native.Nat.{ℕ, suc, ◌+◌, ◌*◌, ◌-◌, ◌≤◌}
use native.Mathlib.Nat.{add-mul, mul-le-mul_right}
use native.Mathlib.Numerals.{add-one}
use native.Mathlib.Omega.{arith}
use lib.ListN.{length, take}
use borrow.Rule.Slice.PartMut.{mid_of, put_mid}
use Rattle.lists.specs.Numbers.{factorial}
use Rattle.lists.specs.Blocks.{block, blocks}
use Rattle.lists.proofs.Parts.{element_blocks, next_block}
use Rattle.element_calls.specs.declared.Parameters.{Parameters}
use Rattle.cycles.specs.Steps.{acted, joint, LevelPre, EachPre, MiddlePre}
use Rattle.lists.proofs.Cuts.{Cut, low_size, middle_size, high_size, cut_blocks}
use Rattle.cycles.proofs.Pieces.{act_pieces}

pub record Cutting (m j l b high : ℕ) (x w : List ℕ) : Type 0 where
  pub pre : LevelPre m j l x w
  pub size : b ≡ factorial (suc (m - 1))
  pub top : high ≡ (m - j) * b + l * b + b

module _ {m j l b high : ℕ} {x w : List ℕ} (c : Cutting m j l b high x w) where
  abbrev low : ℕ
  low = (m - j) * b

  whole : length x ≡ suc m * b
  whole = c.pre.act.size ∙ element_blocks m b (omega (arith, c.pre.act.below, c.pre.act.within, c.pre.more)) c.size

  pub cut : Cut (m - j) (l + 1) (j - l) b high x
  cut =
      let n : suc m ≡ m - j + (l + 1) + (j - l) = omega (arith, c.pre.act.below, c.pre.act.within) in
      record {
        top = c.top ∙ sym (add-mul (m - j) (l + 1) b ∙ ap (λ (k : ℕ). low + k) (next_block l b) ∙ omega arith);
        whole = whole ∙ ap (λ (k : ℕ). k * b) n;
      }

  two_blocks : b + b ≤ length w
  two_blocks =
      let two : 2 * b ≤ suc m * b = mul-le-mul_right b (omega (arith, c.pre.act.below, c.pre.act.within, c.pre.more)) in
      omega (arith, c.pre.act.work c.pre.more, c.pre.act.size, whole)

  pub low_pre : EachPre (m - 1) b (m - j) j l (take (low - 0) x) w
  low_pre = record {
    rank = omega (arith, c.pre.act.rank);
    block_size = c.size;
    more = c.pre.more;
    below = λ h. omega arith;
    within = λ h. c.pre.act.within;
    size = low_size cut;
    work = omega (arith, two_blocks);
  }

  -- v is the work slice when it is back
  module _ (v₁ : List ℕ) (s₁ : length v₁ ≡ length (take (low - 0) x)) where
    pub middle_pre : (v : List ℕ) → length v ≡ length w → MiddlePre (m - 1) b j l (mid_of low (high - low) (put_mid 0 (low - 0) x v₁)) v
    middle_pre v e = record {
      rank = omega (arith, c.pre.act.rank);
      block_size = c.size;
      below = omega (arith, c.pre.act.below);
      within = c.pre.act.within;
      more = c.pre.more;
      size = middle_size cut v₁ s₁ ∙ ap (λ (k : ℕ). k * b) (add-one l);
      work = omega (arith, two_blocks);
    }

    module _ (v₂ : List ℕ) (s₂ : length v₂ ≡ length (mid_of low (high - low) (put_mid 0 (low - 0) x v₁))) where
      abbrev y₂ : List ℕ
      y₂ = put_mid low (high - low) (put_mid 0 (low - 0) x v₁) v₂

      pub high_pre : (v : List ℕ) → length v ≡ length w → EachPre (m - 1) b (j - l) (j - 1) l (mid_of high (length y₂ - high) y₂) v
      high_pre v e = record {
        rank = omega (arith, c.pre.act.rank);
        block_size = c.size;
        more = c.pre.more;
        below = λ h. omega (arith, c.pre.act.below);
        within = λ h. omega arith;
        size = high_size cut v₁ s₁ v₂ s₂;
        work = omega (arith, two_blocks);
      }

      pub level_whole : (p : Parameters) (v₃ : List ℕ) → v₁ ≡ blocks (m - j) (λ k. acted p (m - 1) j l (block b k (take (low - 0) x)))
          → v₂ ≡ joint p (m - 1) b j l (mid_of low (high - low) (put_mid 0 (low - 0) x v₁))
          → v₃ ≡ blocks (j - l) (λ k. acted p (m - 1) (j - 1) l (block b k (mid_of high (length y₂ - high) y₂)))
          → put_mid high (length y₂ - high) y₂ v₃ ≡ acted p m j l x
      level_whole p v₃ e₁ e₂ e₃ =
          cut_blocks cut v₁ s₁ v₂ s₂ v₃ (acted p (m - 1) j l) (joint p (m - 1) b j l) (acted p (m - 1) (j - 1) l) e₁ e₂ e₃
          ∙ sym (act_pieces p m j l b x (omega (arith, c.pre.more)) c.pre.act.within c.pre.act.below c.size whole)
