-- The loop of `middle`: each block after the first is lent twice in one step, and between the two its part is added to the sum. Rests on Sums, and lists'
-- Range, LentAgain, Parts, Passed and Blocks.
--
--   on_block p m j l k y          block k, which was y, after its step; block 0 is not changed
--   PartsDone p m j l b x₀ x w₀ w i
--                                 i steps are done: x₀ is now x, and w₀ is now w, whose first words are the sum of the first i parts
use mathlib.Core.Path.{◌≡◌, refl, sym, ap, ap₂, ◌∙◌, subst}
use mathlib.Core.List.{List, ◌++◌}
use Prim.Native.Nat.{ℕ, zero, suc, ◌+◌, ◌*◌, ◌-◌, ◌≤◌}
use native.Mathlib.Nat.{zero-mul}
use native.Mathlib.Numerals.{add-one}
use native.Mathlib.Omega.{arith}
use lib.ListN.{length, take, drop}
use lib.Seq.{take_at, drop_at}
use borrow.Rule.Slice.PartMut.{mid_of, put_mid, same_len_mid, take_put}
use Rattle.lists.specs.Lists.{range}
use Rattle.lists.specs.Blocks.{block, blocks}
use Rattle.lists.proofs.Range.{length_range, range_snoc}
use Rattle.lists.proofs.Blocks.{block_size, blocks_add, blocks_cong, map_blocks}
use Rattle.lists.proofs.Parts.{part_block, part_size}
use Rattle.lists.proofs.LentAgain.{part_put, put_put}
use Rattle.lists.proofs.Passed.{Passed, passed_more, passed_all}
use Rattle.algebra.specs.Element.{plus, scale}
use Rattle.element_calls.specs.declared.Parameters.{Parameters}
use Rattle.element_calls.specs.Coefficients.{ring}
use Rattle.cycles.specs.Steps.{sums, collected, acted, kept, shifted, joint}
use Rattle.cycles.proofs.Sums.{collected_sums}

-- ---- the work slice in a step: its words after the first b are lent, the sum is collected in the first b, and the others are lent again

module _ (p : Parameters) (b : ℕ) (w u₁ w₂ u₂ : List ℕ) (s₁ : length u₁ ≡ length (mid_of b (length w - b) w))
    (s : length w₂ ≡ length (put_mid b (length w - b) w u₁)) (s₂ : length u₂ ≡ length (mid_of b (length w₂ - b) w₂)) where
  work_size : length (put_mid b (length w₂ - b) w₂ u₂) ≡ length w
  work_size = same_len_mid b (length w₂ - b) w₂ u₂ s₂ ∙ s ∙ same_len_mid b (length w - b) w u₁ s₁

  work_sum : (i : ℕ) (y : List ℕ) → b + b ≤ length w → take b w₂ ≡ collected p i (take b (put_mid b (length w - b) w u₁)) y
      → take b (put_mid b (length w₂ - b) w₂ u₂) ≡ collected p i (take b w) y
  work_sum i y enough e =
      let size : length w₂ ≡ length w = s ∙ same_len_mid b (length w - b) w u₁ s₁ in
      take_put b (length w₂ - b) w₂ u₂ (omega arith) ∙ e ∙ ap (λ (v : List ℕ). collected p i v y) (take_put b (length w - b) w u₁ (omega arith))

-- ---- a step

module _ (p : Parameters) (m j l : ℕ) where
  unfoldable pub on_block : ℕ → List ℕ → List ℕ
  on_block zero y = y
  on_block (suc i) y = acted p m (j - suc i) (l - suc i) (acted p m (j - 1) (suc i - 1) y)

  on_block_next : (i : ℕ) (y : List ℕ) → on_block (i + 1) y ≡ acted p m (j - (i + 1)) (l - (i + 1)) (acted p m (j - 1) i y)
  unfolding on_block
  on_block_next i y =
      let e : suc i - 1 ≡ i = omega arith in
      ap (λ n. on_block n y) (add-one i)
      ∙ ap₂ (λ n k. acted p m (j - n) (l - n) (acted p m (j - 1) k y)) (sym (add-one i)) e

  pub record PartsDone (b : ℕ) (x₀ x w₀ w : List ℕ) (i : ℕ) : Type 0 where
    pub done : Passed b on_block x₀ x (i + 1)
    pub sum : 1 ≤ i → take b w ≡ sums p (range 1 i) (kept p m b j x₀)
    pub same : length w ≡ length w₀

  pub parts_done_none : (b : ℕ) (x w : List ℕ) → PartsDone b x x w w 0
  unfolding on_block block blocks
  parts_done_none b x w =
      let e : (0 + 1) * b ≡ b = omega arith in
      record {
        done = record { front = ap (λ (n : ℕ). take n x) e ∙ ap (λ (n : ℕ). take b (drop n x)) (sym (zero-mul b)); rest = refl; same = refl };
        sum = λ h. absurd (omega arith);
        same = refl;
      }

module _ {p : Parameters} {m j l b : ℕ} {x₀ x w₀ w : List ℕ} {i : ℕ} (h : PartsDone p m j l b x₀ x w₀ w i) (fits : (i + 1) * b + b ≤ length x) where
  abbrev at : ℕ
  at = (i + 1) * b

  abbrev n : ℕ
  n = at + b - at

  lent_block : mid_of at n x ≡ block b (i + 1) x₀
  unfolding block
  lent_block = part_block b (i + 1) x ∙ ap (take b) h.done.rest

  -- the block is back as v₁ and the rest of w as u₁
  module _ (v₁ u₁ : List ℕ) (e₁ : v₁ ≡ acted p m (j - 1) i (mid_of at n x)) (s₁ : length v₁ ≡ length (mid_of at n x))
      (t₁ : length u₁ ≡ length (mid_of b (length w - b) w)) where
    abbrev x₁ : List ℕ
    x₁ = put_mid at n x v₁

    abbrev w₁ : List ℕ
    w₁ = put_mid b (length w - b) w u₁

    size_1 : length v₁ ≡ n
    size_1 = s₁ ∙ part_size b (i + 1) x fits ∙ omega arith

    back : mid_of at n x₁ ≡ v₁
    back = part_put at n x v₁ (omega arith) size_1

    part_kept : block b (i + 1) x₁ ≡ kept p m b j x₀ (1 + i)
    unfolding kept
    part_kept =
        let e : i ≡ i + 1 - 1 = omega arith in
        let d : i + 1 ≡ 1 + i = omega arith in
        sym (part_block b (i + 1) x₁) ∙ back ∙ e₁ ∙ ap₂ (acted p m (j - 1)) e lent_block ∙ ap (kept p m b j x₀) d

    one_more : {s : List ℕ} → (1 ≤ i → s ≡ sums p (range 1 i) (kept p m b j x₀))
        → collected p i s (block b (i + 1) x₁) ≡ sums p (range 1 (i + 1)) (kept p m b j x₀)
    one_more e =
        collected_sums p (range 1 i) (1 + i) i (kept p m b j x₀) (length_range 1 i) e part_kept
        ∙ ap (λ (s : List ℕ). sums p s (kept p m b j x₀)) (sym (range_snoc 1 i) ∙ ap (range 1) (sym (add-one i)))

    -- w₂ has the sum, and then the block is back as v₂ and the rest of w₂ as u₂
    pub parts_done_more : (w₂ v₂ u₂ : List ℕ) → b + b ≤ length w → length w₂ ≡ length w₁ → take b w₂ ≡ collected p i (take b w₁) (block b (i + 1) x₁)
        → v₂ ≡ acted p m (j - (i + 1)) (l - (i + 1)) (mid_of at n x₁) → length v₂ ≡ length (mid_of at n x₁) → length u₂ ≡ length (mid_of b (length w₂ - b) w₂)
        → PartsDone p m j l b x₀ (put_mid at n x₁ v₂) w₀ (put_mid b (length w₂ - b) w₂ u₂) (i + 1)
    parts_done_more w₂ v₂ u₂ enough s sum e₂ s₂ t₂ =
        let value : v₂ ≡ on_block p m j l (i + 1) (mid_of at n x) =
        e₂ ∙ ap (acted p m (j - (i + 1)) (l - (i + 1))) (back ∙ e₁) ∙ sym (on_block_next p m j l i (mid_of at n x)) in
        record {
          done = subst (λ (y : List ℕ). Passed b (on_block p m j l) x₀ y (i + 1 + 1)) (sym (put_put at n x v₁ (omega arith) size_1 v₂))
              (passed_more v₂ h.done fits value (s₂ ∙ ap length back ∙ s₁));
          sum = λ some. work_sum p b w u₁ w₂ u₂ t₁ s t₂ i (block b (i + 1) x₁) enough sum ∙ one_more h.sum;
          same = work_size p b w u₁ w₂ u₂ t₁ s t₂ ∙ h.same;
        }

-- ---- all steps

pub parts_done_all : {p : Parameters} {m j l b : ℕ} {x₀ x w₀ w v : List ℕ} → 1 ≤ l → length x₀ ≡ suc l * b → PartsDone p m j l b x₀ x w₀ w l
    → v ≡ shifted p b x (take b w) → v ≡ joint p m b j l x₀
unfolding joint kept on_block blocks scale
parts_done_all {p} {m} {j} {l} {b} {x₀} {x} some size h e =
    let F : ℕ → List ℕ = λ i. on_block p m j l i (block b i x₀) in
    let one : l + 1 ≡ 1 + l = omega arith in
    let first : length (block b 0 x₀) ≡ b = block_size b 0 x₀ (omega (arith, size)) in
    let whole : x ≡ block b 0 x₀ ++ blocks l (λ i. F (1 + i)) =
    passed_all h.done (size ∙ ap (λ (k : ℕ). k * b) (sym (add-one l))) ∙ ap (λ (k : ℕ). blocks k F) one ∙ blocks_add 1 l F in
    let rest : blocks l (λ i. F (1 + i)) ≡ blocks l (λ i. acted p m (j - suc i) (l - suc i) (kept p m b j x₀ (suc i))) =
    blocks_cong l _ _ (λ i k. let s : 1 + i ≡ suc i = omega arith in ap F s) in
    e ∙ ap₂ {C = List ℕ} (λ u v. u ++ v)
    (ap (scale ℕ (ring p) p.q) (ap (drop b) whole ∙ drop_at (block b 0 x₀) (blocks l (λ i. F (1 + i))) b first ∙ rest) ∙ map_blocks ((ring p).mul p.q) l _)
    (ap₂ (λ u s. plus ℕ (ring p) u (scale ℕ (ring p) p.r s))
    (ap (take b) whole ∙ take_at (block b 0 x₀) (blocks l (λ i. F (1 + i))) b first) (h.sum some))
