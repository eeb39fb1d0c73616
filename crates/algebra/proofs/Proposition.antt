-- Proposition 3.2 on coefficient lists: the blocks of h T_a(j,l). Rests on CycleBlocks, PairBlocks and Elements.
use mathlib.Core.Path.{◌≡◌, ap, ap₂, ◌∙◌}
use mathlib.Core.List.{List}
use Prim.Native.Nat.{ℕ, zero, suc, ◌+◌, ◌-◌, ◌≤◌, ◌<◌}
use native.Mathlib.Omega.{arith}
use lib.ListN.{length}
use Rattle.ring.specs.Ring.{Ops, Ring}
use Rattle.lists.specs.Lists.{range}
use Rattle.lists.specs.Numbers.{factorial}
use Rattle.lists.specs.Blocks.{block}
use Rattle.lists.proofs.Range.{mem_range}
use Rattle.perms.specs.Tower.{cycle}
use Rattle.perms.specs.Extend.{extend}
use Rattle.perms.proofs.Word.{word_cycle}
use Rattle.algebra.specs.Element.{coefficient, plus, scale, sum_over}
use Rattle.algebra.specs.Product.{act}
use Rattle.algebra.specs.Method.{Proposition3_2}
use Rattle.algebra.proofs.Words.{Rw}
use Rattle.algebra.proofs.Elements.{Has, has_own, has_eq, has_scale, has_plus, has_act, has_sum_over, equal_elements}
use Rattle.algebra.proofs.PairBlocks.{block_at, extended}
use Rattle.algebra.proofs.CycleBlocks.{cycle_above, cycle_below, parts, cycle_last, cycle_among}

-- at rank m + 1, with j + 1 in the place of j
module _ (A : Type 0) (o : Ops A) (q r : A) (𝓡 : Ring A o) (m j l : ℕ) (h : List A) (F : List ℕ → A)
    (l1 : 1 ≤ l) (lj : l ≤ suc j) (jm : j ≤ m) (e : Has A o (suc m) h F) where
  abbrev a : ℕ
  a = suc m - suc j

  abbrev b : ℕ → List A
  b k = block (factorial (suc m)) k h

  -- block k of h T_a(j,l)
  abbrev X : ℕ → List A
  X k = block (factorial (suc m)) k (act A o q r (suc m) (cycle (suc j) l) h)

  -- h_k T_a(i,s)
  abbrev t : ℕ → ℕ → ℕ → List A
  t i s k = act A o q r m (cycle i s) (b k)

  has_X : (k : ℕ) → k ≤ suc m → Has A o m (X k) (block_at (m + 2 - k) (Rw A o q r (cycle (suc j) l) F))
  has_X k n = extended k (has_act A o e q r (cycle (suc j) l) (word_cycle (suc m) (suc j) l (omega arith) lj)) n

  has_t : (i s k : ℕ) → s ≤ i → i ≤ m → k ≤ suc m → Has A o m (t i s k) (Rw A o q r (cycle i s) (block_at (m + 2 - k) F))
  has_t i s k si im n = has_act A o (extended k e n) q r (cycle i s) (word_cycle m i s im si)

  line_1 : (k : ℕ) → k < a → X k ≡ t (suc j) l k
  line_1 k i =
      equal_elements A o (has_X k (omega arith)) (has_t (suc j) l k lj (omega arith) (omega arith))
      (λ u p. ap (λ G. G u) (cycle_above A o q r (m + 2 - k) (suc j) l F (omega arith)))

  line_2 : (k : ℕ) → a ≤ k → k < a + l → X k ≡ scale A o q (t j (l - 1) (k + 1))
  line_2 k i n =
      equal_elements A o (has_X k (omega arith)) (has_scale A o (has_t j (l - 1) (k + 1) (omega arith) jm (omega arith)) q) (λ u p.
      let x : l ≡ k - a + suc (l - 1 - (k - a)) = omega arith in
      let y : m + 2 - k ≡ suc (m + 2 - (k + 1)) = omega arith in
      let z : k - a + (l - 1 - (k - a)) ≡ l - 1 = omega arith in
      ap₂ (λ s c. Rw A o q r (cycle (suc j) s) F (extend c u)) x y
      ∙ cycle_among A o q r 𝓡 m (m + 2 - (k + 1)) (k - a) (l - 1 - (k - a)) j F u p (omega arith) (omega arith) (omega arith) jm
      ∙ ap (λ s. o.mul q (Rw A o q r (cycle j s) (block_at (m + 2 - (k + 1)) F) u)) z)

  -- the sum over i = 1 to l of the parts
  abbrev S : List A
  S = sum_over A o m (range 1 l) (λ i. t j (i - 1) (a + i))

  has_S : Has A o m S (parts A o q r 𝓡 j l F)
  has_S = has_sum_over A o (range 1 l) (λ i mem.
      let within = mem_range 1 l mem in
      let x : m + 2 - (a + i) ≡ suc (suc j) - i = omega (arith, within) in
      has_eq A o (has_t j (i - 1) (a + i) (omega (arith, within)) jm (omega (arith, within))) (λ u p. ap (λ c. Rw A o q r (cycle j (i - 1)) (block_at c F) u) x))

  line_3 : X (a + l) ≡ plus A o (b a) (scale A o r S)
  line_3 =
      equal_elements A o (has_X (a + l) (omega arith)) (has_plus A o (extended a e (omega arith)) (has_scale A o has_S r)) (λ u p.
      let x : suc (suc j) ≡ m + 2 - a = omega arith in
      cycle_last A o q r 𝓡 m (m + 2 - (a + l)) j l F u p jm (omega arith) (omega arith)
      ∙ ap (λ c. o.add (F (extend c u)) (o.mul r (parts A o q r 𝓡 j l F u))) x)

  line_4 : (k : ℕ) → a + l < k → k ≤ suc m → X k ≡ t j l k
  line_4 k i n =
      equal_elements A o (has_X k n) (has_t j l k (omega arith) jm n)
      (λ u p. ap (λ G. G u) (cycle_below A o q r (m + 2 - k) j l F (omega arith) (omega arith)))

  lines : Proposition3_2 A o q r (suc m) (suc j) l h
  lines =
      let x : m ≡ suc m - 1 = omega arith in
      let y : j ≡ suc j - 1 = omega arith in
      record {
        line_1 = λ k i. line_1 k i ∙ ap (λ n. act A o q r n (cycle (suc j) l) (b k)) x;
        line_2 = λ k i n. line_2 k i n ∙ ap₂ (λ n s. scale A o q (act A o q r n (cycle s (l - 1)) (b (k + 1)))) x y;
        line_3 = line_3 ∙ ap₂ (λ n s. plus A o (b a) (scale A o r (sum_over A o n (range 1 l) (λ i. act A o q r n (cycle s (i - 1)) (b (a + i)))))) x y;
        line_4 = λ k i n. line_4 k i n ∙ ap₂ (λ n s. act A o q r n (cycle s l) (b k)) x y;
      }

pub proposition : (A : Type 0) (o : Ops A) (q r : A) (𝓡 : Ring A o) (m j l : ℕ) (h : List A)
    → 1 ≤ l → l ≤ j → j ≤ m → length h ≡ factorial (suc m) → Proposition3_2 A o q r m j l h
proposition A o q r 𝓡 zero j l h l1 lj jm e = absurd (omega arith)
proposition A o q r 𝓡 (suc m) zero l h l1 lj jm e = absurd (omega arith)
proposition A o q r 𝓡 (suc m) (suc j) l h l1 lj jm e = lines A o q r 𝓡 m j l h (coefficient A o h) l1 lj (omega arith) (has_own A o e)
