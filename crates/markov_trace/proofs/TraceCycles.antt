-- The trace of an embedded element is the element's, that of the unit is 1, and that of x T_a(m+1,j+1) is z times that of x T_a(m,j), for x of rank m.
-- Rests on Trace.
use mathlib.Core.Path.{◌≡◌, refl, sym, ap, ap₂, ◌∙◌}
use mathlib.Core.Logic.{◌≢◌}
use Prim.Native.Nat.{ℕ, zero, suc, ◌-◌, ◌≤◌, ◌<◌}
use native.Mathlib.Omega.{arith}
use lib.ListN.{length, get_or}
use Rattle.ring.specs.Ring.{Ops, Ring}
use Rattle.ring.proofs.Ring.{add_zero, mul_zero, mul_one}
use Rattle.ring.proofs.Sum.{sum_zero, sum_single}
use Rattle.lists.specs.Lists.{same as sameNumber, range}
use Rattle.lists.specs.Numbers.{factorial, series}
use Rattle.lists.proofs.Range.{length_range, get_or_range, get_or_map}
use Rattle.perms.specs.Permutation.{identity}
use Rattle.perms.proofs.Identity.{perm_identity}
use Rattle.perms.proofs.Split.{perm_zero}
use Rattle.algebra.specs.Place.{place}
use Rattle.algebra.specs.Element.{coefficient, basis}
use Rattle.algebra.proofs.Ranges.{sum_range}
use Rattle.algebra.proofs.Delta.{delta, delta_self}
use Rattle.algebra.proofs.Elements.{has_own, has_basis, has_scale, equal_elements}
use Rattle.markov_trace.specs.Trace.{trace}
use Rattle.markov_trace.proofs.Algebra.{H, same, scale, zero as zeroH, unit, base, times}
use Rattle.markov_trace.proofs.AlgebraLaws.{times_unit, zero_times, times_zero}
use Rattle.markov_trace.proofs.Blocks.{block, up, first_up, rest_up}
use Rattle.markov_trace.proofs.BlockProducts.{block_times}
use Rattle.markov_trace.proofs.Embedding.{up_unit}
use Rattle.markov_trace.proofs.Cycles.{cyc, own_cycle, other_cycle}
use Rattle.markov_trace.proofs.Trace.{tr as trace-of, term, trace_blocks, tr_zero}

module _ (A : Type 0) (o : Ops A) (q r z : A) (𝓡 : Ring A o) where
  infixl 60 ◌+ᴬ◌
  infixl 70 ◌·◌ ◌*ᴬ◌
  infixr 80 ◌⊙◌
  abbrev ◌·◌ : {m : ℕ} → H A m → H A m → H A m
  x · y = times A o q r x y

  abbrev ◌⊙◌ : {m : ℕ} → A → H A m → H A m
  c ⊙ x = scale A o c x

  abbrev ◌+ᴬ◌ : A → A → A
  x +ᴬ y = o.add x y

  abbrev ◌*ᴬ◌ : A → A → A
  x *ᴬ y = o.mul x y

  abbrev ι : {m : ℕ} → H A m → H A (suc m)
  ι x = up A o x

  abbrev tr : {m : ℕ} → H A m → A
  tr x = trace-of A o q r z 𝓡 x

  -- ---- embedded elements

  pub tr_up : {m : ℕ} (x : H A m) → tr (ι x) ≡ tr x
  tr_up {m} x =
      trace_blocks A o q r z 𝓡 (ι x)
      ∙ ap₂ (λ a b. a +ᴬ z *ᴬ b) (ap (λ h. tr h) (first_up A o x)) (sum_range A o 1 (suc m) _ _ (λ k l n.
      ap (λ h. tr (h · cyc A o m (k - 1))) (rest_up A o x k l (omega arith)) ∙ ap (λ h. tr h) (zero_times A o q r 𝓡 _) ∙ tr_zero A o q r z 𝓡 m)
      ∙ sum_zero A o 𝓡 (range 1 (suc m)))
      ∙ ap (o.add (tr x)) (mul_zero A o 𝓡 z)
      ∙ add_zero A o 𝓡 (tr x)

  pub tr_unit : (m : ℕ) → tr (unit A o m) ≡ o.one
  unfolding trace base basis place series identity range factorial sameNumber
  tr_unit zero = refl
  tr_unit (suc m) = ap (λ h. tr h) (sym (up_unit A o q r 𝓡 m)) ∙ tr_up (unit A o m) ∙ tr_unit m

  -- at rank 0 every element is its trace times the unit
  pub scalar : (x : H A 0) → x ≡ tr x ⊙ unit A o 0
  unfolding scale base trace coefficient place series identity range
  scalar x = same (equal_elements A o (has_own A o x.size) (has_scale A o (has_basis A o (perm_identity 0)) (tr x)) (λ w p.
      let e : w ≡ identity 0 = perm_zero w p in
      ap (coefficient A o x.list) e ∙ sym (ap (λ v. tr x *ᴬ delta A o (identity 0) v) e ∙ ap (o.mul (tr x)) (delta_self A o (identity 0)) ∙ mul_one A o 𝓡 (tr x))))

  module _ {m : ℕ} (x : H A m) (j : ℕ) (l : j ≤ m) where
    -- x T_a(m+1,j+1)
    abbrev X : H A (suc m)
    X = ι x · cyc A o (suc m) (suc j)

    X_own : block A o (suc j) X ≡ x
    X_own = block_times A o q r 𝓡 x (suc j) _ (omega arith) ∙ ap (λ y. x · y) (own_cycle A o (suc j) (omega arith)) ∙ times_unit A o q r 𝓡 x

    X_other : (k : ℕ) → k ≤ suc m → suc j ≢ k → block A o k X ≡ zeroH A o m
    X_other k n d = block_times A o q r 𝓡 x k _ n ∙ ap (λ y. x · y) (other_cycle A o (suc j) (omega arith) k n d) ∙ times_zero A o q r 𝓡 x

    pub tr_cycle : tr X ≡ z *ᴬ tr (x · cyc A o m j)
    tr_cycle =
        trace_blocks A o q r z 𝓡 X
        ∙ ap₂ (λ a b. a +ᴬ z *ᴬ b) (ap (λ h. tr h) (X_other 0 (omega arith) (omega arith)) ∙ tr_zero A o q r z 𝓡 m)
        (sum_single A o 𝓡 (range 1 (suc m)) f j 0 zeros
        ∙ get_or_map f (range 1 (suc m)) j 0 o.zero (omega (arith, length_range 1 (suc m)))
        ∙ ap f at_j
        ∙ ap₂ (λ h k. tr (h · cyc A o m k)) X_own (omega arith))
        ∙ 𝓡.zero_add _
      where
        f : ℕ → A
        f k = tr (term A o q r z 𝓡 X k)

        at_j : get_or (range 1 (suc m)) j 0 ≡ suc j
        at_j = get_or_range 1 (suc m) j (omega arith) ∙ omega arith

        zeros : (i : ℕ) → i < length (range 1 (suc m)) → i ≢ j → f (get_or (range 1 (suc m)) i 0) ≡ o.zero
        zeros i n d =
            let b : i < suc m = omega (arith, length_range 1 (suc m)) in
            let e : get_or (range 1 (suc m)) i 0 ≡ suc i = get_or_range 1 (suc m) i b ∙ omega arith in
            ap f e
            ∙ ap (λ h. tr (h · cyc A o m (suc i - 1))) (X_other (suc i) b (omega arith))
            ∙ ap (λ h. tr h) (zero_times A o q r 𝓡 _)
            ∙ tr_zero A o q r z 𝓡 m
