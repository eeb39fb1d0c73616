-- The product of two elements, a summand for each block of the right factor, from the last block to the first: the sum of the first i summands, and the
-- whole. Rests on cycles' Sums, algebra's Orders, lists' Parts, word_lists' Into and block_loops' Fits.
--
--   summand p m l n h g k    (h g_k) T_a(l+1,k) for the block g_k of g, of rank l and n words
--   Summing p s l f result₀ result scratch₀ scratch i
--                            the first s words of scratch are the sum of the first i of the summands f(l), .., f(0); the lengths are those of result₀
--                            and scratch₀
use mathlib.Core.Path.{◌≡◌, refl, sym, ap, ◌∙◌}
use mathlib.Core.List.{List, [], ◌∷◌, ◌++◌}
use Prim.Native.Nat.{ℕ, zero, suc, ◌+◌, ◌-◌, ◌≤◌, zero-le}
use native.Mathlib.Nat.{sub-zero}
use native.Mathlib.Numerals.{add-one}
use native.Mathlib.Omega.{arith}
use lib.ListN.{length, take}
use lib.Seq.{length-take-le, take-suc, take_all}
use borrow.Rule.Slice.PartMut.{put_mid, same_len_mid}
use Rattle.lists.specs.Numbers.{factorial}
use Rattle.lists.specs.Sums.{onto, sum_by}
use Rattle.lists.specs.Blocks.{block}
use Rattle.lists.proofs.Parts.{front_put}
use Rattle.algebra.specs.Element.{plus}
use Rattle.algebra.specs.Nested.{falling, onward, nested}
use Rattle.algebra.proofs.Orders.{falling_length, falling_at}
use Rattle.element_calls.specs.declared.Parameters.{Parameters}
use Rattle.element_calls.specs.Coefficients.{ring}
use Rattle.word_lists.specs.Into.{load_into}
use Rattle.word_lists.proofs.Into.{load_whole}
use Rattle.block_loops.specs.InPlace.{add_to}
use Rattle.block_loops.proofs.Fits.{add_fits}
use Rattle.cycles.specs.Steps.{sums, acted}
use Rattle.cycles.proofs.Sums.{sums_snoc, sum_along_sums}
use Rattle.nested.specs.Steps.{multiplied, LayerPost}

-- ---- the product is a sum

abbrev pub summand : (p : Parameters) (m l n : ℕ) (h g : List ℕ) → ℕ → List ℕ
summand p m l n h g k = acted p m (suc l) k (multiplied p m l h (block n k g))

pub multiplied_suc : (p : Parameters) (m l : ℕ) (h g : List ℕ)
    → multiplied p m (suc l) h g ≡ sums p (falling (suc l)) (summand p m l (factorial (suc l)) h g)
unfolding multiplied nested onward acted
multiplied_suc p m l h g = sum_along_sums p (falling (suc l)) _

multiplied_more : (p : Parameters) (m l n : ℕ) (h g : List ℕ) → 1 ≤ l → n ≡ factorial (suc (l - 1))
    → sums p (falling l) (summand p m (l - 1) n h g) ≡ multiplied p m l h g
multiplied_more p m zero n h g some e = absurd (omega arith)
multiplied_more p m (suc l) n h g some e =
    let d : suc l - 1 ≡ l = omega arith in
    (λ i. sums p (falling (suc l)) (summand p m (d i) ((e ∙ ap (λ (a : ℕ). factorial (suc a)) d) i) h g)) ∙ sym (multiplied_suc p m l h g)

-- ---- the sum of the first i summands

first_size : (l i : ℕ) → i ≤ l → length (take i (falling l)) ≡ i
first_size l i h = length-take-le i (falling l) (omega (arith, falling_length l))

first_next : (l i : ℕ) → i ≤ l → take i (falling l) ++ ((l - i) ∷ []) ≡ take (i + 1) (falling l)
first_next l i h =
    ap (λ (k : ℕ). take i (falling l) ++ (k ∷ [])) (sym (falling_at l i h))
    ∙ sym (take-suc (falling l) i 0 (omega (arith, falling_length l)))
    ∙ ap (λ (n : ℕ). take n (falling l)) (sym (add-one i))

pub record Summing (p : Parameters) (s l : ℕ) (f : ℕ → List ℕ) (result₀ result scratch₀ scratch : List ℕ) (i : ℕ) : Type 0 where
  pub some : 1 ≤ i
  pub within : i ≤ l
  pub same_result : length result ≡ length result₀
  pub same_scratch : length scratch ≡ length scratch₀
  pub sum : take s scratch ≡ sums p (take i (falling l)) f

-- the first s words of x are lent, and come back as v
module _ (s : ℕ) (x y v : List ℕ) (ey : length y ≡ s) (fits : s ≤ length x) (ev : length v ≡ length (take (s - 0) x)) where
  one_size : length (take (s - 0) x) ≡ length y
  one_size = length-take-le (s - 0) x (omega arith) ∙ omega arith

  first_words : take s (put_mid 0 (s - 0) x v) ≡ v
  first_words = front_put s x v _ refl fits ev

-- the summand l is in y, and is copied
pub summing_first : {p : Parameters} {m l s n : ℕ} {h g scratch y x v : List ℕ} → LayerPost p m (l - 1) l s n h g scratch y x → 1 ≤ l
    → length y ≡ s → s ≤ length x → length v ≡ length (take (s - 0) x) → v ≡ load_into (take (s - 0) x) y 0 → {i : ℕ} → i ≡ 1
    → let z = put_mid 0 (s - 0) x v in Summing p s l (summand p m (l - 1) n h g) y y z z i
unfolding sums sum_by onto
summing_first {p} {m} {l} {s} {n} {h} {g} {y = y} {x} {v} c some ey fits ev e one =
    let f : ℕ → List ℕ = summand p m (l - 1) n h g in
    record {
      some = omega arith;
      within = omega arith;
      same_result = refl;
      same_scratch = refl;
      sum = first_words s x y v ey fits ev ∙ e ∙ load_whole (take (s - 0) x) y (one_size s x y v ey fits ev) ∙ c.value ∙ ap f (sym (sub-zero l))
          ∙ ap (λ (u : List ℕ). sums p u f) (first_next l 0 zero-le)
          ∙ ap (λ (a : ℕ). sums p (take a (falling l)) f) (sym one);
    }

-- the summand k is in y
module _ {p : Parameters} {m l s n i k : ℕ} {h g result₀ result scratch₀ scratch y x : List ℕ}
    (t : Summing p s l (summand p m (l - 1) n h g) result₀ result scratch₀ scratch i) (at : k ≡ l - i) (es : length result ≡ s)
    (ey : length y ≡ length result) (c : LayerPost p m (l - 1) k s n h g scratch y x) where
  abbrev f : ℕ → List ℕ
  f = summand p m (l - 1) n h g

  with_next : plus ℕ (ring p) (take s x) y ≡ sums p (take (i + 1) (falling l)) f
  with_next =
      sums_snoc p (take i (falling l)) (l - i) f (omega (arith, first_size l i t.within, t.some)) (c.keep ∙ t.sum) (c.value ∙ ap f at)
      ∙ ap (λ (u : List ℕ). sums p u f) (first_next l i t.within)

  pub summing_more : {v : List ℕ} → i + 1 ≤ l → length x ≡ length scratch → s ≤ length x → length v ≡ length (take (s - 0) x)
      → v ≡ add_to p (take (s - 0) x) y → {i' : ℕ} → i' ≡ i + 1 → Summing p s l f result₀ y scratch₀ (put_mid 0 (s - 0) x v) i'
  summing_more {v} next ex fits ev e ei =
      record {
        some = omega arith;
        within = omega arith;
        same_result = ey ∙ t.same_result;
        same_scratch = same_len_mid 0 (s - 0) x v ev ∙ ex ∙ t.same_scratch;
        sum = first_words s x y v (ey ∙ es) fits ev ∙ e ∙ add_fits p (take (s - 0) x) y (one_size s x y v (ey ∙ es) fits ev)
            ∙ ap (λ (a : ℕ). plus ℕ (ring p) (take a x) y) (sub-zero s) ∙ with_next
            ∙ ap (λ (a : ℕ). sums p (take a (falling l)) f) (sym ei);
      }

  -- it is the last one
  pub times_whole : {z : List ℕ} → i ≡ l → n ≡ factorial (suc (l - 1)) → z ≡ plus ℕ (ring p) (take (length y) x) y → z ≡ multiplied p m l h g
  times_whole d en e =
      e ∙ ap (λ (a : ℕ). plus ℕ (ring p) (take a x) y) (ey ∙ es) ∙ with_next
      ∙ ap (λ (u : List ℕ). sums p u f) (take_all (i + 1) (falling l) (omega (arith, falling_length l)))
      ∙ multiplied_more p m l n h g (omega (arith, t.some)) en
