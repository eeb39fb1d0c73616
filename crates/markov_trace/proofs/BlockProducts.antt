-- Block k of x y, for an embedded x, is x times block k of y. Rests on Blocks and LeftWords, and algebra's Convolution and Recursion.
use mathlib.Core.Path.{◌≡◌, refl, ap, ap₂, ◌∙◌, sym}
use mathlib.Core.List.{List, [], ◌∷◌}
use Prim.Native.Nat.{ℕ, suc, ◌+◌, ◌≤◌}
use native.Mathlib.Omega.{arith}
use Rattle.ring.specs.Ring.{Ops, Ring}
use Rattle.ring.specs.Sum.{sum}
use Rattle.ring.proofs.Ring.{add_zero, zero_mul}
use Rattle.ring.proofs.Sum.{sum_zero}
use Rattle.ring.proofs.Combination.{comb}
use Rattle.lists.specs.Lists.{range}
use Rattle.perms.specs.Permutation.{Perm, Letter, Word}
use Rattle.perms.specs.ShortestWord.{shortest_word}
use Rattle.perms.proofs.ShortestWord.{shortest_word_shortest}
use Rattle.algebra.specs.Place.{join, perms}
use Rattle.algebra.specs.Element.{coefficient}
use Rattle.algebra.proofs.Functions.{Eq, sum_all}
use Rattle.algebra.proofs.Ranges.{sum_range}
use Rattle.algebra.proofs.Enumeration.{perms_perm, perm_join}
use Rattle.algebra.proofs.Generator.{step, L}
use Rattle.algebra.proofs.Words.{Lw, L_cong}
use Rattle.algebra.proofs.Convolution.{prod, prodΛ, prod_Λ}
use Rattle.algebra.proofs.Elements.{has_own, has_eq, has_times, equal_elements}
use Rattle.algebra.proofs.Recursion.{sum_perms_blocks}
use Rattle.markov_trace.proofs.Algebra.{H, same, times}
use Rattle.markov_trace.proofs.Joins.{short_join, lft_join, asc_l_join}
use Rattle.markov_trace.proofs.Blocks.{block, up, has_blocks, up_first, up_rest}
use Rattle.markov_trace.proofs.LeftWords.{left_alike}

module _ (A : Type 0) (o : Ops A) (q r : A) where
  L_join : {m i : ℕ} (k : ℕ) (G : List ℕ → A) → k ≤ suc m → Letter m i → Eq m (λ u. L A o q r i G (join m k u)) (L A o q r i (λ u. G (join m k u)))
  unfolding L
  L_join {m} {i} k G h l u p = ap₂ (λ b w. step A o q r b (G w) (G (join m k u))) (asc_l_join k i u h l p) (lft_join k i u h l p)

  Lw_join : {m : ℕ} (k : ℕ) (x : List ℕ) (G : List ℕ → A) → k ≤ suc m → Word m x → Eq m (λ u. Lw A o q r x G (join m k u)) (Lw A o q r x (λ u. G (join m k u)))
  unfolding Lw
  Lw_join k [] G h a u p = refl
  Lw_join k (i ∷ x) G h a u p = L_join k (Lw A o q r x G) h a.0 u p ∙ L_cong A o q r i (Lw_join k x G h a.1) u p

  module _ (𝓡 : Ring A o) {m : ℕ} (x : H A m) where
    abbrev X : List ℕ → A
    X = coefficient A o (up A o x).list

    -- the summands of x G: those of block 0 alone
    up_sum : (f : List ℕ → A) → sum A o (perms (suc m)) (λ w. o.mul (X w) (f w)) ≡ sum A o (perms m) (λ v. o.mul (coefficient A o x.list v) (f (join m 0 v)))
    unfolding range sum
    up_sum f =
        let two : m + 2 ≡ suc (suc m) = omega arith in
        sum_perms_blocks A o 𝓡 m (λ w. o.mul (X w) (f w))
        ∙ ap (λ n. sum A o (range 0 n) (λ k. sum A o (perms m) (λ v. o.mul (X (join m k v)) (f (join m k v))))) two
        ∙ ap₂ o.add
        (sum_all A o (Perm m) (perms m) _ _ (perms_perm m) (λ v c. ap (λ y. o.mul y (f (join m 0 v))) (up_first A o x v c)))
        (sum_range A o 1 (suc m) _ _ (λ k l n.
        sum_all A o (Perm m) (perms m) _ _ (perms_perm m) (λ v c. ap (λ y. o.mul y (f (join m k v))) (up_rest A o x k l (omega arith) v c) ∙ zero_mul A o 𝓡 _)
        ∙ sum_zero A o 𝓡 (perms m)) ∙ sum_zero A o 𝓡 (range 1 (suc m)))
        ∙ add_zero A o 𝓡 _

    up_prod : (k : ℕ) (G : List ℕ → A) → k ≤ suc m → Eq m (λ u. prod A o q r (suc m) X G (join m k u)) (prod A o q r m (coefficient A o x.list) (λ u. G (join m k u)))
    unfolding prodΛ comb
    up_prod k G h u p =
        let w = join m k u in
        let d : Perm (suc m) w = perm_join k u h p in
        prod_Λ A o q r (suc m) 𝓡 X G w d
        ∙ up_sum (λ v. Lw A o q r (shortest_word (suc m) v) G w)
        ∙ sum_all A o (Perm m) (perms m) _ _ (perms_perm m) (λ v c.
        let s = shortest_word_shortest m v c in
        ap (o.mul (coefficient A o x.list v))
        (left_alike A o q r 𝓡 G (shortest_word_shortest (suc m) (join m 0 v) (perm_join 0 v (omega arith) c)) (short_join s) w d
        ∙ Lw_join k (shortest_word m v) G h s.word u p))
        ∙ sym (prod_Λ A o q r m 𝓡 (coefficient A o x.list) (λ u. G (join m k u)) u p)

    pub block_times : (k : ℕ) (y : H A (suc m)) → k ≤ suc m → block A o k (times A o q r (up A o x) y) ≡ times A o q r x (block A o k y)
    unfolding times
    block_times k y h = same (equal_elements A o
        (has_eq A o (has_blocks A o k (times A o q r (up A o x) y)) (λ u p.
        (has_times A o (has_own A o (up A o x).size) (omega arith) (has_own A o y.size) q r).values (join m k u) (perm_join k u h p)))
        (has_times A o (has_own A o x.size) (omega arith) (has_blocks A o k y) q r)
        (up_prod k (coefficient A o y.list) h))
