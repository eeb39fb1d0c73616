-- One level of the nested method as three parts of x: the blocks below m - j, the blocks from there to m - j + l, which depend on one another in the result,
-- and the blocks above. Rests on Sums, algebra's Level, and lists' Blocks and Cuts.
--
--   pieces p d b a j l x   the three parts, of blocks of rank d and b words, of which the second is from block a on
use mathlib.Core.Path.{◌≡◌, sym, ap, ap₂, ◌∙◌}
use mathlib.Core.List.{List, ◌++◌, append_assoc}
use Prim.Native.Nat.{ℕ, zero, suc, ◌+◌, ◌*◌, ◌-◌, ◌≤◌, zero-le}
use native.Mathlib.Nat.{add-mul, mul-le-mul_right}
use native.Mathlib.Omega.{arith}
use lib.ListN.{length, take, drop, length-drop}
use Rattle.lists.specs.Lists.{range}
use Rattle.lists.specs.Numbers.{factorial}
use Rattle.lists.specs.Blocks.{block, blocks}
use Rattle.lists.proofs.Blocks.{blocks_cong, block_drop}
use Rattle.lists.proofs.Parts.{next_block}
use Rattle.algebra.specs.Element.{plus, scale}
use Rattle.algebra.specs.Nested.{Counted, free, ◌⧺◌, row, ◌⊞◌, ◌⊠◌, sum_along, part, level, nested_act}
use Rattle.algebra.proofs.Level.{row_value}
use Rattle.element_calls.specs.declared.Parameters.{Parameters}
use Rattle.element_calls.specs.Coefficients.{ring}
use Rattle.cycles.specs.Steps.{sums, acted, kept, joint}
use Rattle.cycles.proofs.Sums.{sums_range, sum_along_sums}
use Rattle.lists.proofs.Cuts.{block_take}

-- ---- the blocks of the second part depend on these blocks alone

joint_cong : (p : Parameters) (m b j l : ℕ) (x y : List ℕ) → 1 ≤ l → ((i : ℕ) → i ≤ l → block b i x ≡ block b i y) → joint p m b j l x ≡ joint p m b j l y
unfolding joint kept
joint_cong p m b j l x y some e =
    let k : (i : ℕ) → i ≤ l → kept p m b j x i ≡ kept p m b j y i = λ i h. ap (acted p m (j - 1) (i - 1)) (e i h) in
    ap₂ {C = List ℕ} (λ u v. u ++ v)
    (blocks_cong l _ _ (λ i h. ap (λ u. scale ℕ (ring p) p.q (acted p m (j - suc i) (l - suc i) u)) (k (suc i) h)))
    (ap₂ (plus ℕ (ring p)) (e 0 zero-le) (ap (scale ℕ (ring p) p.r) (sums_range p 1 l _ _ (λ i u v. k i (omega arith)))))

-- ---- a level

abbrev pub pieces : (p : Parameters) (d b a j l : ℕ) → List ℕ → List ℕ
pieces p d b a j l x =
    blocks a (λ k. acted p d j l (block b k x))
    ++ (joint p d b j l (take ((l + 1) * b) (drop (a * b) x)) ++ blocks (j - l) (λ k. acted p d (j - 1) l (block b k (drop ((a + (l + 1)) * b) x))))

module _ (p : Parameters) (d j l : ℕ) (x : List ℕ) where
  abbrev f : ℕ → ℕ → List ℕ → Counted ℕ
  f = nested_act ℕ (ring p) p.q p.r d

  abbrev b : ℕ
  b = factorial (suc d)

  abbrev a : ℕ
  a = suc d - j

  abbrev y : List ℕ
  y = drop (a * b) x

  abbrev P : ℕ → Counted ℕ
  P i = part ℕ (ring p) f (suc d) j x i

  part_kept : (i : ℕ) → (P i).value ≡ kept p d b j y i
  unfolding part kept acted
  part_kept i = ap (λ u. (f (j - 1) (i - 1) u).value) (sym (block_drop b a i x))

  line_1 : (row 0 a (λ k. f j l (block b k x))).value ≡ blocks a (λ k. acted p d j l (block b k x))
  unfolding acted
  line_1 = row_value 0 a _ ∙ blocks_cong a _ _ (λ k h. let e : 0 + k ≡ k = omega arith in ap (λ n. (f j l (block b n x)).value) e)

  line_2 : (row 1 l (λ i. ◌⊠◌ ℕ (ring p) p.q (f (j - i) (l - i) (P i).value))).value
      ≡ blocks l (λ i. scale ℕ (ring p) p.q (acted p d (j - suc i) (l - suc i) (kept p d b j y (suc i))))
  unfolding ◌⊠◌ acted
  line_2 = row_value 1 l _ ∙ blocks_cong l _ _ (λ i h.
      let e : 1 + i ≡ suc i = omega arith in
      ap (λ n. scale ℕ (ring p) p.q (f (j - n) (l - n) (P n).value).value) e
      ∙ ap (λ u. scale ℕ (ring p) p.q (f (j - suc i) (l - suc i) u).value) (part_kept (suc i)))

  line_3 : (◌⊞◌ ℕ (ring p) (free (block b a x)) (◌⊠◌ ℕ (ring p) p.r (sum_along ℕ (ring p) (range 1 l) P))).value
      ≡ plus ℕ (ring p) (block b 0 y) (scale ℕ (ring p) p.r (sums p (range 1 l) (kept p d b j y)))
  unfolding ◌⊞◌ ◌⊠◌ free
  line_3 =
      let e : a ≡ a + 0 = omega arith in
      ap₂ (λ u v. plus ℕ (ring p) u (scale ℕ (ring p) p.r v))
      (ap (λ n. block b n x) e ∙ sym (block_drop b a 0 x))
      (sum_along_sums p (range 1 l) P ∙ sums_range p 1 l _ _ (λ i u v. part_kept i))

  abbrev last : List ℕ
  last = blocks (j - l) (λ k. acted p d (j - 1) l (block b k (drop ((a + (l + 1)) * b) x)))

  line_4 : (row (a + l + 1) (j - l) (λ k. f (j - 1) l (block b k x))).value ≡ last
  unfolding acted
  line_4 =
      let e : a + l + 1 ≡ a + (l + 1) = omega arith in
      ap (λ n. (row n (j - l) (λ k. f (j - 1) l (block b k x))).value) e
      ∙ row_value (a + (l + 1)) (j - l) _ ∙ blocks_cong (j - l) _ _ (λ k h. ap (λ u. (f (j - 1) l u).value) (sym (block_drop b (a + (l + 1)) k x)))

  level_joint : (level ℕ (ring p) p.q p.r f (suc d) j l x).value ≡ blocks a (λ k. acted p d j l (block b k x)) ++ (joint p d b j l y ++ last)
  unfolding level ◌⧺◌ joint
  level_joint =
      ap₂ {C = List ℕ} (λ u v. u ++ v) line_1 (ap₂ {C = List ℕ} (λ u v. u ++ v) line_2 (ap₂ {C = List ℕ} (λ u v. u ++ v) line_3 line_4)
      ∙ sym (append_assoc
      (blocks l (λ i. scale ℕ (ring p) p.q (acted p d (j - suc i) (l - suc i) (kept p d b j y (suc i)))))
      (plus ℕ (ring p) (block b 0 y) (scale ℕ (ring p) p.r (sums p (range 1 l) (kept p d b j y))))
      last))

  -- the second part has l + 1 blocks
  module _ (size : length x ≡ suc (suc d) * b) (some : 1 ≤ l) (within : l ≤ j) (below : j ≤ suc d) where
    joint_part : joint p d b j l y ≡ joint p d b j l (take ((l + 1) * b) y)
    joint_part = joint_cong p d b j l y (take ((l + 1) * b) y) some (λ i h. sym (block_take b i ((l + 1) * b) y (inside i h) enough))
      where
        enough : (l + 1) * b ≤ length y
        enough =
            let n : (a + (l + 1)) * b ≤ suc (suc d) * b = mul-le-mul_right b (omega arith) in
            rw length-drop (omega (arith, size, n, add-mul a (l + 1) b))

        inside : (i : ℕ) → i ≤ l → i * b + b ≤ (l + 1) * b
        inside i h = let n : (i + 1) * b ≤ (l + 1) * b = mul-le-mul_right b (omega arith) in omega (arith, n, next_block i b)

    level_pieces : (level ℕ (ring p) p.q p.r f (suc d) j l x).value ≡ pieces p d b a j l x
    level_pieces = level_joint ∙ ap (λ (v : List ℕ). blocks a (λ k. acted p d j l (block b k x)) ++ (v ++ last)) joint_part

pub act_pieces : (p : Parameters) (m j l b : ℕ) (x : List ℕ) → 1 ≤ l → l ≤ j → j ≤ m → b ≡ factorial (suc (m - 1)) → length x ≡ suc m * b
    → acted p m j l x ≡ pieces p (m - 1) b (m - j) j l x
unfolding acted nested_act
act_pieces p zero j l b x some within below e size = absurd (omega arith)
act_pieces p (suc d) j zero b x some within below e size = absurd (omega arith)
act_pieces p (suc d) j (suc l) b x some within below e size =
    let s : d ≡ suc d - 1 = omega arith in
    let same : factorial (suc d) ≡ b = ap (λ n. factorial (suc n)) s ∙ sym e in
    level_pieces p d j (suc l) x (size ∙ ap (λ n. suc (suc d) * n) (sym same)) (omega arith) within below
    ∙ ap₂ (λ n c. pieces p n c (suc d - j) j (suc l) x) s same
