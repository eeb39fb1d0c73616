-- The embedding of rank m in rank m + 1 is a homomorphism of algebras, and takes T_w to T_w. Rests on AlgebraLaws and BlockProducts.
use mathlib.Core.Path.{◌≡◌, refl, sym, ap, ap₂, ◌∙◌}
use mathlib.Core.List.{List}
use Prim.Native.Nat.{ℕ, zero, suc, ◌≤◌}
use native.Mathlib.Omega.{arith}
use Rattle.ring.specs.Ring.{Ops, Ring}
use Rattle.perms.specs.Permutation.{Perm, identity}
use Rattle.perms.proofs.Identity.{perm_identity}
use Rattle.algebra.specs.Place.{join}
use Rattle.algebra.proofs.Enumeration.{perm_join}
use Rattle.algebra.proofs.Elements.{has_own, has_eq, has_plus, has_scale, equal_elements}
use Rattle.markov_trace.proofs.Algebra.{H, same, plus, scale, zero as zeroH, unit, base, times, has_zero}
use Rattle.markov_trace.proofs.AlgebraLaws.{plus_zero, times_zero, scale_zero}
use Rattle.markov_trace.proofs.Joins.{identity_join}
use Rattle.markov_trace.proofs.Blocks.{block, up, has_blocks, by_blocks, first_up, rest_up, own_block, other_block}
use Rattle.markov_trace.proofs.BlockProducts.{block_times}

module _ (A : Type 0) (o : Ops A) (q r : A) (𝓡 : Ring A o) where
  infixl 60 ◌⊕◌
  infixl 70 ◌·◌
  infixr 80 ◌⊙◌
  abbrev ◌·◌ : {m : ℕ} → H A m → H A m → H A m
  x · y = times A o q r x y

  abbrev ◌⊕◌ : {m : ℕ} → H A m → H A m → H A m
  x ⊕ y = plus A o x y

  abbrev ◌⊙◌ : {m : ℕ} → A → H A m → H A m
  c ⊙ x = scale A o c x

  abbrev ι : {m : ℕ} → H A m → H A (suc m)
  ι x = up A o x

  abbrev 𝟎 : {m : ℕ} → H A m
  𝟎 {m} = zeroH A o m

  -- ---- blocks of sums and multiples

  module _ {m : ℕ} (k : ℕ) (l : k ≤ suc m) where
    pub block_plus : (x y : H A (suc m)) → block A o k (x ⊕ y) ≡ block A o k x ⊕ block A o k y
    unfolding plus
    block_plus x y = same (equal_elements A o
        (has_eq A o (has_blocks A o k (x ⊕ y)) (λ u p. (has_plus A o (has_own A o x.size) (has_own A o y.size)).values (join m k u) (perm_join k u l p)))
        (has_plus A o (has_blocks A o k x) (has_blocks A o k y)) (λ u p. refl))

    pub block_scale : (c : A) (x : H A (suc m)) → block A o k (c ⊙ x) ≡ c ⊙ block A o k x
    unfolding scale
    block_scale c x = same (equal_elements A o
        (has_eq A o (has_blocks A o k (c ⊙ x)) (λ u p. (has_scale A o (has_own A o x.size) c).values (join m k u) (perm_join k u l p)))
        (has_scale A o (has_blocks A o k x) c) (λ u p. refl))

    block_zero : block A o k (zeroH A o (suc m)) ≡ zeroH A o m
    block_zero = same (equal_elements A o (has_eq A o (has_blocks A o k 𝟎) (λ u p. (has_zero A o (suc m)).values (join m k u) (perm_join k u l p)))
        (has_zero A o m) (λ u p. refl))

  -- ---- a homomorphism

  -- what has x and zeros as its blocks
  is_up : {m : ℕ} (x : H A m) (y : H A (suc m)) → block A o 0 y ≡ x → ((k : ℕ) → 1 ≤ k → k ≤ suc m → block A o k y ≡ 𝟎) → ι x ≡ y
  is_up {m} x y e f = by_blocks A o go
    where
      go : (k : ℕ) → k ≤ suc m → block A o k (ι x) ≡ block A o k y
      go zero l = first_up A o x ∙ sym e
      go (suc k) l = rest_up A o x (suc k) (omega arith) l ∙ sym (f (suc k) (omega arith) l)

  module _ {m : ℕ} where
    pub up_plus : (x y : H A m) → ι (x ⊕ y) ≡ ι x ⊕ ι y
    up_plus x y = is_up (x ⊕ y) (ι x ⊕ ι y) (block_plus 0 (omega arith) (ι x) (ι y) ∙ ap₂ (λ a b. a ⊕ b) (first_up A o x) (first_up A o y)) (λ k n l.
        block_plus k l (ι x) (ι y) ∙ ap₂ (λ a b. a ⊕ b) (rest_up A o x k n l) (rest_up A o y k n l) ∙ plus_zero A o q r 𝓡 𝟎)

    pub up_scale : (c : A) (x : H A m) → ι (c ⊙ x) ≡ c ⊙ ι x
    up_scale c x = is_up (c ⊙ x) (c ⊙ ι x) (block_scale 0 (omega arith) c (ι x) ∙ ap (λ a. c ⊙ a) (first_up A o x)) (λ k n l.
        block_scale k l c (ι x) ∙ ap (λ a. c ⊙ a) (rest_up A o x k n l) ∙ scale_zero A o q r 𝓡 c)

    pub up_times : (x y : H A m) → ι (x · y) ≡ ι x · ι y
    up_times x y = is_up (x · y) (ι x · ι y) (block_times A o q r 𝓡 x 0 (ι y) (omega arith) ∙ ap (λ a. x · a) (first_up A o y)) (λ k n l.
        block_times A o q r 𝓡 x k (ι y) l ∙ ap (λ a. x · a) (rest_up A o y k n l) ∙ times_zero A o q r 𝓡 x)

    pub up_base : (v : List ℕ) → Perm m v → ι (base A o m v) ≡ base A o (suc m) (join m 0 v)
    up_base v c = is_up (base A o m v) (base A o (suc m) (join m 0 v)) (own_block A o 0 v (omega arith) c) (λ k n l.
        other_block A o 0 v (omega arith) c k l (omega arith))

  pub up_zero : (m : ℕ) → ι (zeroH A o m) ≡ 𝟎
  up_zero m = is_up 𝟎 𝟎 (block_zero 0 (omega arith)) (λ k n l. block_zero k l)

  pub up_unit : (m : ℕ) → ι (unit A o m) ≡ unit A o (suc m)
  up_unit m = up_base (identity m) (perm_identity m) ∙ ap (base A o (suc m)) (sym (identity_join m))
