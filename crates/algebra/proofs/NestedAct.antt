-- The nested method's value of h T_a(j,l) is the definition's, in every commutative ring. Rests on Proposition, Level and SumAlong.
use mathlib.Core.Path.{◌≡◌, refl, sym, ap, ap₂, ◌∙◌}
use mathlib.Core.List.{List, [], ◌∷◌, ◌++◌}
use Prim.Native.Nat.{ℕ, zero, suc, ◌+◌, ◌-◌, ◌*◌, ◌≤◌, ◌<◌}
use native.Mathlib.Omega.{arith}
use lib.ListN.{length}
use Rattle.ring.specs.Ring.{Ops, Ring}
use Rattle.lists.specs.Lists.{range}
use Rattle.lists.specs.Numbers.{factorial}
use Rattle.lists.specs.Blocks.{block}
use Rattle.lists.proofs.Range.{length_range, all_range}
use Rattle.lists.proofs.Blocks.{block_length, by_blocks}
use Rattle.perms.specs.Tower.{cycle}
use Rattle.perms.proofs.Word.{cycle_add}
use Rattle.algebra.specs.Element.{plus, scale, sum_over}
use Rattle.algebra.specs.Product.{letter, act}
use Rattle.algebra.specs.Nested.{Counted, free, ◌⊞◌, ◌⊠◌, sum_along, part, level, nested_act}
use Rattle.algebra.specs.Method.{Proposition3_2}
use Rattle.algebra.proofs.CoefficientActions.{act_length}
use Rattle.algebra.proofs.Proposition.{proposition}
use Rattle.algebra.proofs.Level.{level_blocks}
use Rattle.algebra.proofs.SumAlong.{sum_value}

module _ (A : Type 0) (o : Ops A) (q r : A) (𝓡 : Ring A o) where
  act_append : (m : ℕ) (x y : List ℕ) (h : List A) → act A o q r m (x ++ y) h ≡ act A o q r m y (act A o q r m x h)
  unfolding act
  act_append m [] y h = refl
  act_append m (i ∷ x) y h = act_append m x y (letter A o q r m i h)

  -- f is the action on elements of rank m
  module _ (m : ℕ) (f : ℕ → ℕ → List A → Counted A)
      (ih : (j l : ℕ) (x : List A) → l ≤ j → j ≤ m → length x ≡ factorial (suc m) → (f j l x).value ≡ act A o q r m (cycle j l) x)
      (j l : ℕ) (h : List A) (l1 : 1 ≤ l) (lj : l ≤ j) (jm : j ≤ suc m) (e : length h ≡ suc (suc m) * factorial (suc m)) where
    abbrev b : ℕ → List A
    b k = block (factorial (suc m)) k h

    b_length : (k : ℕ) → k ≤ suc m → length (b k) ≡ factorial (suc m)
    b_length k n = block_length (factorial (suc m)) (suc (suc m)) k h (omega arith) e

    abbrev P : ℕ → Counted A
    P i = part A o f (suc m) j h i

    P_value : (i : ℕ) → 1 ≤ i → i < 1 + l → (P i).value ≡ act A o q r m (cycle (j - 1) (i - 1)) (b (suc m - j + i))
    unfolding part
    P_value i x y = ih (j - 1) (i - 1) (b (suc m - j + i)) (omega arith) (omega arith) (b_length (suc m - j + i) (omega arith))

    t_length : (i : ℕ) → 1 ≤ i → i < 1 + l → length (act A o q r m (cycle (j - 1) (i - 1)) (b (suc m - j + i))) ≡ factorial (suc m)
    t_length i x y = act_length A o q r m (cycle (j - 1) (i - 1)) (b (suc m - j + i)) (b_length (suc m - j + i) (omega arith))

    -- part i that goes on by a(j-i,l-i) is h_(m+1-j+i) T_a(j-1,l-1)
    onward_value : (i : ℕ) → 1 ≤ i → i < 1 + l → (f (j - i) (l - i) (P i).value).value ≡ act A o q r m (cycle (j - 1) (l - 1)) (b (suc m - j + i))
    onward_value i x y =
        ih (j - i) (l - i) (P i).value (omega arith) (omega arith) (ap length (P_value i x y) ∙ t_length i x y)
        ∙ ap (act A o q r m (cycle (j - i) (l - i))) (P_value i x y)
        ∙ sym (act_append m (cycle (j - 1) (i - 1)) (cycle (j - i) (l - i)) (b (suc m - j + i)))
        ∙ ap (λ x. act A o q r m x (b (suc m - j + i)))
        (sym (ap (cycle (j - 1)) sum ∙ cycle_add (j - 1) (i - 1) (l - i) ∙ ap (λ n. cycle (j - 1) (i - 1) ++ cycle n (l - i)) rest))
      where
        sum : l - 1 ≡ i - 1 + (l - i)
        sum = omega arith

        rest : j - 1 - (i - 1) ≡ j - i
        rest = omega arith

    level_value : Proposition3_2 A o q r (suc m) j l h → (level A o q r f (suc m) j l h).value ≡ act A o q r (suc m) (cycle j l) h
    unfolding ◌⊠◌ ◌⊞◌ free factorial
    level_value lines =
        let x : suc m - 1 ≡ m = omega arith in
        level_blocks A o q r f (suc m) j l h lj jm (λ k. block (factorial (suc m)) k (act A o q r (suc m) (cycle j l) h))
        (λ k n. ih j l (b k) lj (omega arith) (b_length k (omega arith)) ∙ sym (lines.line_1 k n ∙ ap (λ n. act A o q r n (cycle j l) (b k)) x))
        (λ i u v.
        let z : suc m - j + i - 1 + 1 ≡ suc m - j + i = omega arith in
        ap (scale A o q) (onward_value i u (omega arith))
        ∙ sym (lines.line_2 (suc m - j + i - 1) (omega arith) (omega arith) ∙ ap₂ (λ n k. scale A o q (act A o q r n (cycle (j - 1) (l - 1)) (b k))) x z))
        (ap (λ s. plus A o (b (suc m - j)) (scale A o r s)) parts ∙ sym lines.line_3)
        (λ k n t. ih (j - 1) l (b k) (omega arith) (omega arith) (b_length k t) ∙ sym (lines.line_4 k n t ∙ ap (λ n. act A o q r n (cycle (j - 1) l) (b k)) x))
        ∙ sym (by_blocks (factorial (suc m)) (suc (suc m)) (act A o q r (suc m) (cycle j l) h) (act_length A o q r (suc m) (cycle j l) h e))
      where
        parts : (sum_along A o (range 1 l) P).value ≡ sum_over A o (suc m - 1) (range 1 l) (λ i. act A o q r (suc m - 1) (cycle (j - 1) (i - 1)) (b (suc m - j + i)))
        parts =
            let y : m ≡ suc m - 1 = omega arith in
            sum_value A o 𝓡 m (range 1 l) P _ (omega (arith, length_range 1 l)) (all_range _ 1 l (λ i u v. (P_value i u v, t_length i u v)))
            ∙ ap (λ k. sum_over A o k (range 1 l) (λ i. act A o q r k (cycle (j - 1) (i - 1)) (b (suc m - j + i)))) y

  pub act_value : (m j l : ℕ) (h : List A) → l ≤ j → j ≤ m → length h ≡ factorial (suc m) → (nested_act A o q r m j l h).value ≡ act A o q r m (cycle j l) h
  unfolding nested_act free cycle act factorial
  act_value zero j zero h lj jm e = refl
  act_value zero j (suc l) h lj jm e = absurd (omega arith)
  act_value (suc m) j zero h lj jm e = refl
  act_value (suc m) j (suc l) h lj jm e =
      level_value m (nested_act A o q r m) (λ j l x u v w. act_value m j l x u v w) j (suc l) h (omega arith) lj jm e
      (proposition A o q r 𝓡 (suc m) j (suc l) h (omega arith) lj jm e)
