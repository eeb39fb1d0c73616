-- The nested method's value of h g is the definition's, for g of rank l ≤ m, in every commutative ring: in the rising order of the parts, and so in any.
-- Rests on Recursion, NestedAct, SumAlong and Orders.
use mathlib.Core.Path.{◌≡◌, sym, ap, ◌∙◌}
use mathlib.Core.List.{List}
use Prim.Native.Nat.{ℕ, zero, suc, ◌+◌, ◌≤◌}
use native.Mathlib.Omega.{arith}
use lib.ListN.{length, get_or}
use Rattle.ring.specs.Ring.{Ops, Ring}
use Rattle.ring.specs.Sum.{sum}
use Rattle.ring.proofs.Ring.{add_zero}
use Rattle.ring.proofs.Combination.{comb}
use Rattle.ring.proofs.Rearranged.{adds_ring}
use Rattle.lists.specs.Lists.{range, tally}
use Rattle.lists.specs.Numbers.{factorial, series}
use Rattle.lists.specs.Blocks.{block}
use Rattle.lists.proofs.Range.{length_range, all_range}
use Rattle.lists.proofs.Blocks.{block_length}
use Rattle.perms.specs.Permutation.{identity, below, len}
use Rattle.perms.specs.Tower.{cycle}
use Rattle.perms.specs.ShortestWord.{first_letters, shortest_word}
use Rattle.algebra.specs.Place.{place, perms}
use Rattle.algebra.specs.Element.{coefficient, scale, sum_over}
use Rattle.algebra.specs.Product.{act, times}
use Rattle.algebra.specs.Nested.{rising, EachOnce, Counted, free, onward, ◌⊠◌, sum_along, nested_act, nested}
use Rattle.algebra.proofs.Words.{Rw}
use Rattle.algebra.proofs.Convolution.{prod}
use Rattle.algebra.proofs.CoefficientActions.{act_length, times_length}
use Rattle.algebra.proofs.Elements.{has_own, has_scale, has_times, equal_elements}
use Rattle.algebra.proofs.Recursion.{recursion}
use Rattle.algebra.proofs.SumAlong.{sum_value}
use Rattle.algebra.proofs.Orders.{summand, any_order}
use Rattle.algebra.proofs.NestedAct.{act_value}

module _ (A : Type 0) (o : Ops A) (q r : A) (𝓡 : Ring A o) where
  times_zero : (m : ℕ) (h g : List A) → length h ≡ factorial (suc m) → length g ≡ 1 → scale A o (get_or g 0 o.zero) h ≡ times A o q r m 0 h g
  unfolding prod comb sum perms identity range tally below len first_letters shortest_word Rw coefficient place series factorial
  times_zero m h g e d =
      equal_elements A o (has_scale A o (has_own A o e) (get_or g 0 o.zero)) (has_times A o (has_own A o e) (omega arith) (has_own A o {m = 0} d) q r)
      (λ w p. sym (add_zero A o 𝓡 (o.mul (get_or g 0 o.zero) (coefficient A o h w))))

  module _ (m l : ℕ) (h g : List A) (lm : suc l ≤ m) (e : length h ≡ factorial (suc m)) (d : length g ≡ factorial (suc (suc l))) where
    abbrev g' : ℕ → List A
    g' k = block (factorial (suc l)) k g

    -- (h g_k) T_a(l+1,k)
    abbrev t : ℕ → List A
    t k = act A o q r m (cycle (suc l) k) (times A o q r m l h (g' k))

    abbrev f : ℕ → Counted A
    f = summand A o q r rising m l h g

    part_length : (k : ℕ) → length (times A o q r m l h (g' k)) ≡ factorial (suc m)
    part_length k = times_length A o q r m l h (g' k) e

    step_value : ((k : ℕ) → k ≤ suc l → (nested A o q r rising m l h (g' k)).value ≡ times A o q r m l h (g' k))
        → (sum_along A o (rising (suc l)) f).value ≡ times A o q r m (suc l) h g
    unfolding onward rising
    step_value ih =
        let two : suc (suc l) ≡ l + 2 = omega arith in
        sum_value A o 𝓡 m (range 0 (suc (suc l))) f t (omega (arith, length_range 0 (suc (suc l))))
        (all_range _ 0 (suc (suc l)) (λ k _ n. (each k (omega arith), act_length A o q r m (cycle (suc l) k) _ (part_length k))))
        ∙ ap (λ n. sum_over A o m (range 0 n) t) two
        ∙ sym (recursion A o q r 𝓡 m l h g lm e d)
      where
        each : (k : ℕ) → k ≤ suc l → (nested_act A o q r m (suc l) k (nested A o q r rising m l h (g' k)).value).value ≡ t k
        each k n = ap (λ x. (nested_act A o q r m (suc l) k x).value) (ih k n) ∙ act_value A o q r 𝓡 m (suc l) k _ n lm (part_length k)

  rising_value : (m l : ℕ) (h g : List A) → l ≤ m → length h ≡ factorial (suc m) → length g ≡ factorial (suc l)
      → (nested A o q r rising m l h g).value ≡ times A o q r m l h g
  unfolding nested ◌⊠◌ free factorial
  rising_value m zero h g lm e d = times_zero m h g e d
  rising_value m (suc l) h g lm e d = step_value m l h g lm e d (λ k n.
      rising_value m l h (block (factorial (suc l)) k g) (omega arith) e (block_length (factorial (suc l)) (suc (suc l)) k g (omega arith) d))

  pub value : {order : ℕ → List ℕ} → EachOnce order → (m l : ℕ) (h g : List A) → l ≤ m → length h ≡ factorial (suc m) → length g ≡ factorial (suc l)
      → (nested A o q r order m l h g).value ≡ times A o q r m l h g
  value any m l h g lm e d = ap (λ x. x.value) (any_order A o (adds_ring A o 𝓡) q r any m l h g lm e d) ∙ rising_value m l h g lm e d
