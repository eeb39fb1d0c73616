-- The blocks of a coefficient function of rank m + 1, and an operator on pairs on them. The block of the last image c is `block_at c F`; document 01's
-- block k is that of c = m + 2 - k. Rests on Generator, Elements and Enumeration, and on perms for generators and ascents of `extend c u`.
use mathlib.Core.Path.{◌≡◌, ap}
use mathlib.Core.List.{List}
use Prim.Native.Nat.{ℕ, suc, ◌+◌, ◌-◌, ◌≤◌, ◌<◌}
use Rattle.ring.specs.Ring.{Ops}
use Rattle.lists.specs.Lists.{count}
use Rattle.lists.specs.Numbers.{factorial}
use Rattle.lists.specs.Blocks.{block}
use Rattle.perms.specs.Extend.{extend}
use Rattle.perms.proofs.Extend.{rgt_above, rgt_upper, rgt_lower, rgt_below}
use Rattle.perms.proofs.ExtendAscent.{asc_above, asc_upper, asc_lower, asc_below}
use Rattle.algebra.specs.Pairs.{OnPair}
use Rattle.algebra.proofs.Enumeration.{join_extend}
use Rattle.algebra.proofs.Generator.{pick, P}
use Rattle.algebra.proofs.Elements.{Has, has_eq, has_block}

abbrev pub block_at : {A : Type 0} → ℕ → (List ℕ → A) → List ℕ → A
block_at c F u = F (extend c u)

pub extended : {A : Type 0} {o : Ops A} {m : ℕ} {h : List A} {F : List ℕ → A} (k : ℕ) → Has A o (suc m) h F → k ≤ suc m
    → Has A o m (block (factorial (suc m)) k h) (block_at (m + 2 - k) F)
extended {A} {o} {F = F} k a l = has_eq A o (has_block A o k a l) (λ u p. ap F (join_extend k u l p))

module _ {A : Type 0} (f : OnPair A) where
  -- c is above i and i + 1
  pub P_above : (i c : ℕ) (F : List ℕ → A) (u : List ℕ) → suc i < c → P f i F (extend c u) ≡ P f i (block_at c F) u
  unfolding P
  P_above i c F u h = rw (asc_above i c h u, rgt_above i c h u)

  -- c is i + 1
  pub P_upper : (i : ℕ) (F : List ℕ → A) (u : List ℕ) → 1 ≤ count i u → P f i F (extend (suc i) u) ≡ f.shorter (F (extend (suc i) u)) (F (extend i u))
  unfolding P pick
  P_upper i F u h = rw (asc_upper i u h, rgt_upper i u)

  -- c is i
  pub P_lower : (i : ℕ) (F : List ℕ → A) (u : List ℕ) → 1 ≤ count i u → P f i F (extend i u) ≡ f.longer (F (extend (suc i) u)) (F (extend i u))
  unfolding P pick
  P_lower i F u h = rw (asc_lower i u h, rgt_lower i u)

  -- c is below i + 1 and i + 2
  pub P_below : (i c : ℕ) (F : List ℕ → A) (u : List ℕ) → c ≤ i → P f (suc i) F (extend c u) ≡ P f i (block_at c F) u
  unfolding P
  P_below i c F u h = rw (asc_below i c h u, rgt_below i c h u)
