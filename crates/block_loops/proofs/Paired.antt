-- A loop that writes two lists of b words at once, from the end: word i of s at index i, and word i of t at index b + i; so a loop that makes an
-- operator act on the pairs of two blocks. Rests on word_lists' Loops and algebra's PairLists.
--
--   Exchanged b s t x₀ x i   the words from i on of both halves of x are those of s and of t, and the others as they were in x₀
--   Paired f b x₀ x i        f has acted on the pairs from i on of the two blocks x₀
use mathlib.Core.Path.{◌≡◌, sym, ap, ap₂, subst, ◌∙◌}
use mathlib.Core.List.{List, ◌++◌}
use Prim.Native.Nat.{ℕ, suc, ◌+◌, ◌≤◌}
use native.Mathlib.Nat.{le-add_right}
use native.Mathlib.Omega.{arith}
use lib.ListN.{length, get_or, set, take, drop, length-drop, length-set, take-append-drop}
use lib.Seq.{length-take-le, get_or-take, get_or-drop, take-set-lt, take-set-le, drop-set-lt, drop-set-add}
use Rattle.algebra.specs.Pairs.{OnPair, zipped, exchanged}
use Rattle.algebra.proofs.PairLists.{zipped_length, get_or_zipped}
use Rattle.word_lists.proofs.Loops.{WrittenFrom, from_more, from_all}

pub record Exchanged (b : ℕ) (s t x₀ x : List ℕ) (i : ℕ) : Type 0 where
  pub same : length x ≡ length x₀
  pub low : WrittenFrom s (take b x₀) (take b x) i
  pub high : WrittenFrom t (drop b x₀) (drop b x) i

-- ---- the halves

pub low_size : (b : ℕ) (x : List ℕ) → length x ≡ b + b → length (take b x) ≡ b
low_size b x e = length-take-le b x (omega arith)

pub high_size : (b : ℕ) (x : List ℕ) → length x ≡ b + b → length (drop b x) ≡ b
high_size b x e = length-drop b x ∙ omega arith

-- ---- the loop

exchanged_more : {b i : ℕ} {s t x₀ x : List ℕ} (j u v : ℕ) → Exchanged b s t x₀ x i → length x₀ ≡ b + b → i ≡ suc j → i ≤ b
    → u ≡ get_or s j 0 → v ≡ get_or t j 0 → Exchanged b s t x₀ (set (set x j u) (b + j) v) j
exchanged_more {b} {i} {s} {t} {x₀} {x} j u v h e n l eu ev = record {
  same = length-set (set x j u) (b + j) v ∙ length-set x j u ∙ h.same;
  low = subst (λ (y : List ℕ). WrittenFrom s (take b x₀) y j) (sym low) (from_more j u h.low n (omega (arith, low_size b x₀ e)) eu);
  high = subst (λ (y : List ℕ). WrittenFrom t (drop b x₀) y j) (sym high) (from_more j v h.high n (omega (arith, high_size b x₀ e)) ev);
}
  where
    low : take b (set (set x j u) (b + j) v) ≡ set (take b x) j u
    low = take-set-le b (set x j u) (b + j) v (le-add_right b j) ∙ take-set-lt b x j u (omega arith)

    high : drop b (set (set x j u) (b + j) v) ≡ set (drop b x) j v
    high = drop-set-add b (set x j u) j v ∙ ap (λ (y : List ℕ). set y j v) (drop-set-lt b x j u (omega arith))

-- the words j of both halves are as they were
exchanged_low : {b i : ℕ} {s t x₀ x : List ℕ} (j : ℕ) → Exchanged b s t x₀ x i → i ≡ suc j → i ≤ b → get_or x j 0 ≡ get_or (take b x₀) j 0
exchanged_low {b} {x = x} j h n l = sym (get_or-take b x j 0 (omega arith)) ∙ h.low.rest j (omega arith)

exchanged_high : {b i : ℕ} {s t x₀ x : List ℕ} (j : ℕ) → Exchanged b s t x₀ x i → i ≡ suc j → get_or x (b + j) 0 ≡ get_or (drop b x₀) j 0
exchanged_high {b} {x = x} j h n = sym (get_or-drop b x j 0) ∙ h.high.rest j (omega arith)

exchanged_all : {b i : ℕ} {s t x₀ x : List ℕ} → Exchanged b s t x₀ x i → length x₀ ≡ b + b → i ≡ 0 → length s ≡ b → length t ≡ b → x ≡ s ++ t
exchanged_all {b} {i} {s} {t} {x₀} {x} h e z ls lt = sym (take-append-drop b x) ∙ (λ j. low j ++ high j)
  where
    low : take b x ≡ s
    low = from_all s h.low z (ls ∙ sym (low_size b x₀ e))

    high : drop b x ≡ t
    high = from_all t h.high z (lt ∙ sym (high_size b x₀ e))

-- ---- an operator on pairs

module _ (f : OnPair ℕ) (b : ℕ) (x₀ : List ℕ) where
  -- what it puts in both halves
  abbrev shorter : List ℕ
  shorter = zipped f.shorter (take b x₀) (drop b x₀)

  abbrev longer : List ℕ
  longer = zipped f.longer (take b x₀) (drop b x₀)

  -- it has acted on the pairs from i on
  abbrev pub Paired : List ℕ → ℕ → Type 0
  Paired x i = Exchanged b shorter longer x₀ x i

  module _ (two : length x₀ ≡ b + b) where
    halves : length (take b x₀) ≡ length (drop b x₀)
    halves = low_size b x₀ two ∙ sym (high_size b x₀ two)

    pub paired_more : {x : List ℕ} {i : ℕ} (j u v : ℕ) → Paired x i → i ≡ suc j → i ≤ b → u ≡ f.shorter (get_or x j 0) (get_or x (b + j) 0)
        → v ≡ f.longer (get_or x j 0) (get_or x (b + j) 0) → Paired (set (set x j u) (b + j) v) j
    paired_more {x} {i} j u v h n l eu ev = exchanged_more j u v h two n l (eu ∙ at f.shorter) (ev ∙ at f.longer)
      where
        at : (g : ℕ → ℕ → ℕ) → g (get_or x j 0) (get_or x (b + j) 0) ≡ get_or (zipped g (take b x₀) (drop b x₀)) j 0
        at g = ap₂ g (exchanged_low j h n l) (exchanged_high j h n) ∙ sym (get_or_zipped g (take b x₀) (drop b x₀) j 0 (omega (arith, low_size b x₀ two)) halves)

    pub paired_all : {x : List ℕ} {i : ℕ} → Paired x i → i ≡ 0 → x ≡ exchanged f b x₀
    unfolding exchanged
    paired_all h z = exchanged_all h two z (sized f.shorter) (sized f.longer)
      where
        sized : (g : ℕ → ℕ → ℕ) → length (zipped g (take b x₀) (drop b x₀)) ≡ b
        sized g = zipped_length g (take b x₀) (drop b x₀) halves ∙ low_size b x₀ two
