-- The product by blocks of the right factor (3.3): h g is the sum over k of (h g_k) T_a(l,k), for g = (g_0, .., g_l). It goes by
-- standard words, which end in the word of a(l, k); so u a(l, k) is longer than u by k. Rests on Enumeration, Convolution, Elements, and perms' Standard
-- and Lengths.
use mathlib.Core.Path.{◌≡◌, refl, sym, ap, ap₂, ◌∙◌, fun_ext}
use mathlib.Core.List.{List, ◌++◌, map}
use Prim.Native.Nat.{ℕ, zero, suc, ◌+◌, ◌-◌, ◌≤◌}
use native.Mathlib.Nat.{zero-add}
use native.Mathlib.Omega.{arith}
use lib.ListN.{length, length-append}
use Rattle.ring.specs.Ring.{Ops, Ring}
use Rattle.ring.specs.Sum.{sum}
use Rattle.ring.proofs.Sum.{sum_map, sum_append}
use Rattle.ring.proofs.Combination.{comb}
use Rattle.lists.specs.Lists.{range}
use Rattle.lists.specs.Numbers.{factorial}
use Rattle.lists.specs.Blocks.{block, blocks}
use Rattle.lists.proofs.Range.{mem_range}
use Rattle.perms.specs.Permutation.{Perm, len}
use Rattle.perms.specs.Tower.{cycle, tower_of, standard}
use Rattle.perms.proofs.Word.{word_cycle, length_cycle}
use Rattle.perms.proofs.Standard.{standard_extend}
use Rattle.perms.proofs.Lengths.{standard_shortest}
use Rattle.algebra.specs.Place.{join, perms}
use Rattle.algebra.specs.Element.{coefficient, sum_over}
use Rattle.algebra.specs.Product.{act, times}
use Rattle.algebra.proofs.Functions.{Eq, sum_all}
use Rattle.algebra.proofs.Ranges.{sum_range, sum_snoc}
use Rattle.algebra.proofs.Enumeration.{join_extend, perm_join, perms_perm}
use Rattle.algebra.proofs.Words.{Rw, Rw_append, Rw_cong, Rw_comb}
use Rattle.algebra.proofs.Convolution.{prod, prod_words}
use Rattle.algebra.proofs.Elements.{has_own, has_act, has_times, has_block, has_sum_over, equal_elements}

standard_join : {m : ℕ} (k : ℕ) (u : List ℕ) → k ≤ suc m → Perm m u → standard (tower_of (join m k u)) ≡ standard (tower_of u) ++ cycle (suc m) k
standard_join {m} k u l p =
    ap (λ w. standard (tower_of w)) (join_extend k u l p)
    ∙ standard_extend (m + 2 - k) u (record { low = omega arith; high = omega arith; rest = p })
    ∙ ap (λ i. standard (tower_of u) ++ cycle (suc m) i) (omega arith)

pub len_join : {m : ℕ} (k : ℕ) (u : List ℕ) → k ≤ suc m → Perm m u → len (join m k u) ≡ len u + k
len_join {m} k u l p =
    (standard_shortest (suc m) (join m k u) (perm_join k u l p)).short
    ∙ ap length (standard_join k u l p)
    ∙ length-append (standard (tower_of u)) (cycle (suc m) k)
    ∙ omega (arith, length_cycle (suc m) k, (standard_shortest m u p).short)

module _ (A : Type 0) (o : Ops A) (𝓡 : Ring A o) where
  sum_blocks : {B : Type 0} (n : ℕ) (g : ℕ → List B) (f : B → A) → sum A o (blocks n g) f ≡ sum A o (range 0 n) (λ k. sum A o (g k) f)
  unfolding blocks range sum
  sum_blocks zero g f = refl
  sum_blocks (suc n) g f =
      sum_append A o 𝓡 (blocks n g) (g n) f
      ∙ ap₂ (λ x k. o.add x (sum A o (g k) f)) (sum_blocks n g f) (sym (zero-add n))
      ∙ sym (sum_snoc A o 𝓡 0 n (λ k. sum A o (g k) f))

  pub sum_perms_blocks : (m : ℕ) (f : List ℕ → A) → sum A o (perms (suc m)) f ≡ sum A o (range 0 (m + 2)) (λ k. sum A o (perms m) (λ u. f (join m k u)))
  unfolding perms
  sum_perms_blocks m f =
      sum_blocks (m + 2) (λ k. map (join m k) (perms m)) f
      ∙ ap (sum A o (range 0 (m + 2))) (fun_ext (λ k. sum_map A o (join m k) (perms m) f))

module _ (A : Type 0) (o : Ops A) (q r : A) (𝓡 : Ring A o) where
  -- on coefficient functions, through standard words
  standard_prod : ℕ → (List ℕ → A) → (List ℕ → A) → List ℕ → A
  standard_prod l F G = comb A o (perms l) G (λ v. Rw A o q r (standard (tower_of v)) F)

  prod_standard : {l m : ℕ} (F G : List ℕ → A) → l ≤ m → Eq m (prod A o q r l F G) (standard_prod l F G)
  unfolding standard_prod
  prod_standard {l} F G k = prod_words A o q r 𝓡 (λ v. standard (tower_of v)) F G k (standard_shortest l)

  standard_blocks : (l : ℕ) (F G : List ℕ → A) (w : List ℕ)
      → standard_prod (suc l) F G w ≡ sum A o (range 0 (l + 2)) (λ k. Rw A o q r (cycle (suc l) k) (standard_prod l F (λ u. G (join l k u))) w)
  unfolding standard_prod comb
  standard_blocks l F G w = sum_perms_blocks A o 𝓡 l _ ∙ sum_range A o 0 (l + 2) _ _ (λ k _ n. each k (omega arith))
    where
      each : (k : ℕ) → k ≤ suc l → sum A o (perms l) (λ u. o.mul (G (join l k u)) (Rw A o q r (standard (tower_of (join l k u))) F w))
          ≡ Rw A o q r (cycle (suc l) k) (standard_prod l F (λ u. G (join l k u))) w
      each k n =
          sum_all A o (Perm l) (perms l) _ _ (perms_perm l) (λ u c. ap (o.mul (G (join l k u)))
          (ap (λ x. Rw A o q r x F w) (standard_join k u n c) ∙ ap (λ H. H w) (Rw_append A o q r (standard (tower_of u)) (cycle (suc l) k) F)))
          ∙ sym (ap (λ H. H w) (Rw_comb A o q r 𝓡 (cycle (suc l) k) (perms l) (λ u. G (join l k u)) (λ u. Rw A o q r (standard (tower_of u)) F)))

  -- and through any, for g of rank l + 1
  prod_blocks : {m : ℕ} (l : ℕ) (F G : List ℕ → A) → suc l ≤ m
      → Eq m (prod A o q r (suc l) F G) (λ w. sum A o (range 0 (l + 2)) (λ k. Rw A o q r (cycle (suc l) k) (prod A o q r l F (λ u. G (join l k u))) w))
  prod_blocks {m} l F G lm w p =
      prod_standard F G lm w p
      ∙ standard_blocks l F G w
      ∙ sym (sum_range A o 0 (l + 2) _ _ (λ k _ n.
      Rw_cong A o q r (cycle (suc l) k) (word_cycle m (suc l) k lm (omega arith)) (prod_standard F (λ u. G (join l k u)) (omega arith)) w p))

  pub recursion : (m l : ℕ) (h g : List A) → suc l ≤ m → length h ≡ factorial (suc m) → length g ≡ factorial (suc (suc l))
      → times A o q r m (suc l) h g ≡ sum_over A o m (range 0 (l + 2)) (λ k. act A o q r m (cycle (suc l) k) (times A o q r m l h (block (factorial (suc l)) k g)))
  recursion m l h g lm e d =
      equal_elements A o (has_times A o (has_own A o e) lm (has_own A o d) q r)
      (has_sum_over A o (range 0 (l + 2)) (λ k i.
      let within = mem_range 0 (l + 2) i in
      let n : k ≤ suc l = omega (arith, within) in
      has_act A o (has_times A o (has_own A o e) (omega arith) (has_block A o k (has_own A o d) n) q r) q r (cycle (suc l) k) (word_cycle m (suc l) k lm n)))
      (prod_blocks l (coefficient A o h) (coefficient A o g) lm)
