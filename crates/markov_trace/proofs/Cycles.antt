-- An element of rank m + 1 with the blocks x_0, x_1, .. is the sum over k of x_k T_a(m+1,k), and T_a(m+1,k+1) is T_(m+1) T_a(m,k). So a property of
-- sums and of x T_a(m+1,k), for all x of rank m, is one of all elements of rank m + 1. Rests on Embedding.
--
--   cyc m k         T_a(m,k)
--   made n h        the sum over k = 0 to n of h_k T_a(m+1,k)
use mathlib.Core.Path.{◌≡◌, refl, sym, ap, ap₂, ◌∙◌, subst}
use mathlib.Core.Logic.{◌≢◌}
use Prim.Native.Nat.{ℕ, zero, suc, ◌≤◌, ◌<◌}
use native.Mathlib.Omega.{arith}
use Rattle.ring.specs.Ring.{Ops, Ring}
use Rattle.lists.proofs.Test.{SameView, is, isnt, same?}
use Rattle.perms.specs.Permutation.{identity, of_word}
use Rattle.perms.specs.Tower.{cycle}
use Rattle.perms.specs.Laws.{a}
use Rattle.perms.proofs.Identity.{perm_identity}
use Rattle.perms.proofs.Reduced.{short_perm}
use Rattle.perms.proofs.CycleReduced.{cycle_shortest}
use Rattle.markov_trace.proofs.Algebra.{H, plus, zero as zeroH, unit, base, gen, times, acted}
use Rattle.markov_trace.proofs.AlgebraLaws.{unit_times, times_unit, acts, letter_acted, plus_zero, zero_plus, times_zero}
use Rattle.markov_trace.proofs.Joins.{short_join, cycle_join}
use Rattle.markov_trace.proofs.Blocks.{block, up, by_blocks, own_block, other_block}
use Rattle.markov_trace.proofs.BlockProducts.{block_times}
use Rattle.markov_trace.proofs.Embedding.{block_plus, up_base}

module _ (A : Type 0) (o : Ops A) where
  abbrev pub cyc : (m : ℕ) → ℕ → H A m
  cyc m k = base A o m (a m m k)

  pub cyc_zero : (m : ℕ) → cyc m 0 ≡ unit A o m
  unfolding cycle of_word
  cyc_zero m = refl

  module _ {m : ℕ} (k : ℕ) (l : k ≤ suc m) where
    pub own_cycle : block A o k (cyc (suc m) k) ≡ unit A o m
    own_cycle = ap (λ w. block A o k (base A o (suc m) w)) (cycle_join m k l) ∙ own_block A o k (identity m) l (perm_identity m)

    pub other_cycle : (j : ℕ) → j ≤ suc m → k ≢ j → block A o j (cyc (suc m) k) ≡ zeroH A o m
    other_cycle j n d = ap (λ w. block A o j (base A o (suc m) w)) (cycle_join m k l) ∙ other_block A o k (identity m) l (perm_identity m) j n d

module _ (A : Type 0) (o : Ops A) (q r : A) (𝓡 : Ring A o) where
  infixl 60 ◌⊕◌
  infixl 70 ◌·◌
  abbrev ◌·◌ : {m : ℕ} → H A m → H A m → H A m
  x · y = times A o q r x y

  abbrev ◌⊕◌ : {m : ℕ} → H A m → H A m → H A m
  x ⊕ y = plus A o x y

  abbrev ι : {m : ℕ} → H A m → H A (suc m)
  ι x = up A o x

  -- T_(m+1) at rank m + 1
  abbrev pub top : (m : ℕ) → H A (suc m)
  top m = gen A o (suc m) (suc m)

  pub cyc_suc : (m k : ℕ) → k ≤ m → cyc A o (suc m) (suc k) ≡ top m · ι (cyc A o m k)
  unfolding cycle
  cyc_suc m k l =
      let s = cycle_shortest m m k l (omega arith) in
      sym (unit_times A o q r 𝓡 (cyc A o (suc m) (suc k)))
      ∙ sym (acts A o q r 𝓡 (cycle_shortest (suc m) (suc m) (suc k) (omega arith) (omega arith)) (unit A o (suc m)))
      ∙ letter_acted A o q r 𝓡 (cycle m k) (unit A o (suc m)) record { low = omega arith; high = omega arith }
      ∙ ap (acted A o q r (cycle m k)) (unit_times A o q r 𝓡 (top m))
      ∙ acts A o q r 𝓡 (short_join s) (top m)
      ∙ ap (λ x. top m · x) (sym (up_base A o q r 𝓡 (a m m k) (short_perm s)))

  module _ {m : ℕ} where
    -- h_k T_a(m+1,k)
    abbrev term : H A (suc m) → ℕ → H A (suc m)
    term h k = ι (block A o k h) · cyc A o (suc m) k

    made : ℕ → H A (suc m) → H A (suc m)
    made zero h = term h 0
    made (suc n) h = made n h ⊕ term h (suc n)

    own_term : (h : H A (suc m)) (k : ℕ) → k ≤ suc m → block A o k (term h k) ≡ block A o k h
    own_term h k l = block_times A o q r 𝓡 (block A o k h) k (cyc A o (suc m) k) l ∙ ap (λ x. block A o k h · x) (own_cycle A o k l) ∙ times_unit A o q r 𝓡 _

    other_term : (h : H A (suc m)) (k j : ℕ) → k ≤ suc m → j ≤ suc m → k ≢ j → block A o j (term h k) ≡ zeroH A o m
    other_term h k j l n d =
        block_times A o q r 𝓡 (block A o k h) j (cyc A o (suc m) k) n ∙ ap (λ x. block A o k h · x) (other_cycle A o k l j n d) ∙ times_zero A o q r 𝓡 _

    made_above : (n : ℕ) (h : H A (suc m)) (k : ℕ) → n < k → k ≤ suc m → block A o k (made n h) ≡ zeroH A o m
    unfolding made
    made_above zero h k i l = other_term h 0 k (omega arith) l (omega arith)
    made_above (suc n) h k i l =
        block_plus A o q r 𝓡 k l (made n h) (term h (suc n))
        ∙ ap₂ (λ x y. x ⊕ y) (made_above n h k (omega arith) l) (other_term h (suc n) k (omega arith) l (omega arith))
        ∙ plus_zero A o q r 𝓡 _

    made_within : (n : ℕ) (h : H A (suc m)) (k : ℕ) → k ≤ n → n ≤ suc m → block A o k (made n h) ≡ block A o k h
    unfolding made
    made_within zero h zero i l = own_term h 0 l
    made_within zero h (suc k) i l = absurd (omega arith)
    made_within (suc n) h k i l = block_plus A o q r 𝓡 k (omega arith) (made n h) (term h (suc n)) ∙ go (made_within n h k) (same? k (suc n))
      where
        go : (k ≤ n → n ≤ suc m → block A o k (made n h) ≡ block A o k h) → SameView k (suc n)
            → block A o k (made n h) ⊕ block A o k (term h (suc n)) ≡ block A o k h
        go ih (is e t) =
            ap₂ (λ x y. x ⊕ y) (made_above n h k (omega arith) (omega arith)) (subst (λ j. block A o k (term h j) ≡ block A o k h) e (own_term h k (omega arith)))
            ∙ zero_plus A o q r 𝓡 _
        go ih (isnt e t) =
            ap₂ (λ x y. x ⊕ y) (ih (omega arith) (omega arith)) (other_term h (suc n) k l (omega arith) (omega arith)) ∙ plus_zero A o q r 𝓡 _

    module _ (P : H A (suc m) → Type 0) (sum : (x y : H A (suc m)) → P x → P y → P (x ⊕ y)) where
      pub over_cycles : ((x : H A m) (k : ℕ) → k ≤ suc m → P (ι x · cyc A o (suc m) k)) → (h : H A (suc m)) → P h
      unfolding made
      over_cycles one h = subst P (by_blocks A o (λ k l. made_within (suc m) h k l (omega arith))) (all (suc m) (omega arith))
        where
          all : (n : ℕ) → n ≤ suc m → P (made n h)
          all zero l = one (block A o 0 h) 0 l
          all (suc n) l = sum (made n h) (term h (suc n)) (all n (omega arith)) (one (block A o (suc n) h) (suc n) l)
