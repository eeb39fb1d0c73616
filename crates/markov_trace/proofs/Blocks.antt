-- Elements of rank m + 1 by their blocks of rank m: an element is known by its blocks, those of an embedded x are x and zeros, and T of u a(m + 1, k) has
-- T_u as block k and zeros elsewhere. Rests on Lengths, Algebra and Joins, and algebra's Elements and Place.
--
--   block k x     block k of x
--   up x          x of rank m as an element of rank m + 1
use mathlib.Core.Path.{◌≡◌, refl, sym, ap, ◌∙◌}
use mathlib.Core.Logic.{◌≢◌}
use mathlib.Core.List.{List}
use Prim.Native.Nat.{ℕ, zero, suc, ◌+◌, ◌*◌, ◌≤◌}
use native.Mathlib.Omega.{arith}
use lib.ListN.{length, get_or, get_or-append, get_or-replicate}
use lib.Seq.{get_or-append-add}
use Rattle.ring.specs.Ring.{Ops}
use Rattle.lists.specs.Numbers.{factorial}
use Rattle.lists.specs.Blocks.{block as blockList}
use Rattle.lists.proofs.Parts.{below_block}
use Rattle.perms.specs.Permutation.{Perm}
use Rattle.algebra.specs.Place.{place, join}
use Rattle.algebra.specs.Element.{coefficient, element}
use Rattle.algebra.proofs.Functions.{Eq}
use Rattle.algebra.proofs.Enumeration.{perm_join, Joined, joined}
use Rattle.algebra.proofs.Place.{place_join, place_below}
use Rattle.algebra.proofs.Delta.{delta, delta_no, delta_iff}
use Rattle.algebra.proofs.Coefficients.{element_length, coefficient_element, coefficient_basis, same_element}
use Rattle.algebra.proofs.Elements.{Has, has_own, has_basis, has_eq, has_block, equal_elements}
use Rattle.markov_trace.specs.Trace.{embed}
use Rattle.markov_trace.proofs.Lengths.{embed_length}
use Rattle.markov_trace.proofs.Algebra.{H, same, zero as zeroH, base, has_zero}
use Rattle.markov_trace.proofs.Joins.{join_last, join_rest}

module _ (A : Type 0) (o : Ops A) where
  unfoldable pub block : {m : ℕ} → ℕ → H A (suc m) → H A m
  block {m} k x = record { list = element A o m (λ u. coefficient A o x.list (join m k u)); size = element_length A o m _ }

  unfoldable pub up : {m : ℕ} → H A m → H A (suc m)
  up {m} x = record { list = embed A o m x.list; size = embed_length A o m x.list x.size }

  -- ---- blocks

  pub has_blocks : {m : ℕ} (k : ℕ) (x : H A (suc m)) → Has A o m (block k x).list (λ u. coefficient A o x.list (join m k u))
  unfolding block
  has_blocks {m} k x = record { size = element_length A o m _; values = coefficient_element A o m _ }

  pub block_list : {m : ℕ} (k : ℕ) (x : H A (suc m)) → k ≤ suc m → blockList (factorial (suc m)) k x.list ≡ (block k x).list
  block_list k x l = equal_elements A o (has_block A o k (has_own A o x.size) l) (has_blocks k x) (λ u p. refl)

  pub by_blocks : {m : ℕ} {x y : H A (suc m)} → ((k : ℕ) → k ≤ suc m → block k x ≡ block k y) → x ≡ y
  by_blocks {m} {x} {y} e = same (same_element A o (suc m) x.list y.list x.size y.size (λ w p. at w (joined w p)))
    where
      at : (w : List ℕ) → Joined m w → coefficient A o x.list w ≡ coefficient A o y.list w
      at w j =
          ap (coefficient A o x.list) j.whole
          ∙ sym ((has_blocks j.last x).values j.rest j.perm)
          ∙ ap (λ b. coefficient A o b.list j.rest) (e j.last j.small)
          ∙ (has_blocks j.last y).values j.rest j.perm
          ∙ ap (coefficient A o y.list) (sym j.whole)

  -- ---- the blocks of an embedded element

  module _ {m : ℕ} (x : H A m) where
    pub up_first : Eq m (λ u. coefficient A o (up x).list (join m 0 u)) (coefficient A o x.list)
    unfolding up embed coefficient
    up_first u p =
        ap (λ i. get_or (up x).list i o.zero) (omega (arith, place_join 0 u (omega arith) p))
        ∙ get_or-append x.list _ o.zero (place u) (omega (arith, place_below m u p, x.size))

    pub up_rest : (k : ℕ) → 1 ≤ k → k ≤ suc m → Eq m (λ u. coefficient A o (up x).list (join m k u)) (λ u. o.zero)
    unfolding up embed coefficient
    up_rest zero l n u p = absurd (omega arith)
    up_rest (suc k) l n u p =
        ap (λ i. get_or (up x).list i o.zero) there
        ∙ get_or-append-add x.list _ (k * factorial (suc m) + place u) o.zero
        ∙ get_or-replicate (suc m * factorial (suc m)) (k * factorial (suc m) + place u) o.zero o.zero
        (omega (arith, place_below m u p, below_block k (suc m) (factorial (suc m)) n))
      where
        there : place (join m (suc k) u) ≡ length x.list + (k * factorial (suc m) + place u)
        there = omega (arith, place_join (suc k) u n p, x.size)

    pub first_up : block 0 (up x) ≡ x
    first_up = same (equal_elements A o (has_blocks 0 (up x)) (has_own A o x.size) up_first)

    pub rest_up : (k : ℕ) → 1 ≤ k → k ≤ suc m → block k (up x) ≡ zeroH A o m
    rest_up k l n = same (equal_elements A o (has_blocks k (up x)) (has_zero A o m) (up_rest k l n))

  -- ---- the blocks of T of u a(m + 1, k)

  module _ {m : ℕ} (k : ℕ) (v : List ℕ) (l : k ≤ suc m) (c : Perm m v) where
    has_base : (j : ℕ) → j ≤ suc m → Has A o m (block j (base A o (suc m) (join m k v))).list (λ u. delta A o (join m k v) (join m j u))
    unfolding base
    has_base j n = has_eq A o (has_blocks j (base A o (suc m) (join m k v))) (λ u p.
        coefficient_basis A o (suc m) (join m k v) (perm_join k v l c) (join m j u) (perm_join j u n p))

    pub own_block : block k (base A o (suc m) (join m k v)) ≡ base A o m v
    unfolding base
    own_block = same (equal_elements A o (has_base k l) (has_basis A o c) (λ u p. delta_iff A o (join_rest k k v u l l c p) (ap (join m k))))

    pub other_block : (j : ℕ) → j ≤ suc m → k ≢ j → block j (base A o (suc m) (join m k v)) ≡ zeroH A o m
    other_block j n d = same (equal_elements A o (has_base j n) (has_zero A o m) (λ u p.
        delta_no A o (join m k v) (join m j u) (λ e. d (join_last k j v u l n c p e))))
