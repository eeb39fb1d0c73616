-- A loop that writes a list of b words over the first of two blocks, from the end; the second block stays. Rests on Paired and word_lists' Loops.
--
--   Lowered b s x₀ x i   the words of x from i to b are those of s, and the others as they were in x₀
use mathlib.Core.Path.{◌≡◌, sym, ap, subst, ◌∙◌}
use mathlib.Core.List.{List, ◌++◌}
use Prim.Native.Nat.{ℕ, suc, ◌+◌, ◌≤◌}
use native.Mathlib.Omega.{arith}
use lib.ListN.{length, get_or, set, take, drop, length-set, take-append-drop}
use lib.Seq.{get_or-drop, take-set-lt, drop-set-lt}
use Rattle.word_lists.proofs.Loops.{WrittenFrom, from_more, from_all}
use Rattle.block_loops.proofs.Paired.{low_size}

pub record Lowered (b : ℕ) (s x₀ x : List ℕ) (i : ℕ) : Type 0 where
  pub same : length x ≡ length x₀
  pub low : WrittenFrom s (take b x₀) (take b x) i
  pub high : drop b x ≡ drop b x₀

pub lowered_more : {b i : ℕ} {s x₀ x : List ℕ} (j v : ℕ) → Lowered b s x₀ x i → length x₀ ≡ b + b → i ≡ suc j → i ≤ b → v ≡ get_or s j 0
    → Lowered b s x₀ (set x j v) j
lowered_more {b} {i} {s} {x₀} {x} j v h e n l ev = record {
  same = length-set x j v ∙ h.same;
  low = subst (λ (y : List ℕ). WrittenFrom s (take b x₀) y j) (sym (take-set-lt b x j v (omega arith)))
      (from_more j v h.low n (omega (arith, low_size b x₀ e)) ev);
  high = drop-set-lt b x j v (omega arith) ∙ h.high;
}

-- word j of the second block
pub lowered_high : {b i : ℕ} {s x₀ x : List ℕ} (j : ℕ) → Lowered b s x₀ x i → get_or x (b + j) 0 ≡ get_or (drop b x₀) j 0
lowered_high {b} {x = x} j h = sym (get_or-drop b x j 0) ∙ ap (λ (y : List ℕ). get_or y j 0) h.high

pub lowered_all : {b i : ℕ} {s x₀ x : List ℕ} → Lowered b s x₀ x i → length x₀ ≡ b + b → i ≡ 0 → length s ≡ b → x ≡ s ++ drop b x₀
lowered_all {b} {i} {s} {x₀} {x} h e z ls =
    sym (take-append-drop b x) ∙ (λ j. from_all s h.low z (ls ∙ sym (low_size b x₀ e)) j ++ h.high j)
