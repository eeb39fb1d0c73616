-- Ascents of a permutation. On the right, i is one if the value i stands before i + 1; on the left, if the image of the point i is below that
-- of i + 1. Each test changes under its own action. Rests on Perm, Image and Products.
use mathlib.Core.Path.{◌≡◌, refl, sym, ap, ap₂, ◌∙◌}
use mathlib.Core.Logic.{◌≢◌}
use mathlib.Core.Bool.{Bool, true, false, cond, not}
use mathlib.Core.List.{List, [], ◌∷◌}
use Prim.Native.Nat.{ℕ, zero, suc, ◌≤◌, ◌<◌}
use native.Mathlib.Omega.{arith}
use lib.ListN.{length, get_or}
use Rattle.lists.specs.Lists.{same, less, count, tally}
use Rattle.lists.proofs.Test.{SameView, is, isnt, LessView, lt, ge, same?, less?, less_yes, less_no}
use Rattle.perms.specs.Permutation.{Perm, image, swap, Letter}
use Rattle.perms.proofs.Swap.{same_swap, swap_lo, swap_hi}
use Rattle.perms.proofs.Perm.{rgt, lft, swap_at}
use Rattle.perms.proofs.Image.{perm_distinct}
use Rattle.perms.proofs.Products.{get_or_swap_at}

-- a stands in the list, and b not before it
unfoldable pub before : ℕ → ℕ → List ℕ → Bool
before a b [] = false
before a b (x ∷ w) = cond (same x a) true (cond (same x b) false (before a b w))

unfoldable pub asc_r : ℕ → List ℕ → Bool
asc_r i w = before i (suc i) w

unfoldable pub asc_l : ℕ → List ℕ → Bool
asc_l i w = less (image w i) (image w (suc i))

-- ---- on the right

pub before_rgt : (i a b : ℕ) (w : List ℕ) → before a b (rgt i w) ≡ before (swap i a) (swap i b) w
unfolding rgt before
before_rgt i a b [] = refl
before_rgt i a b (x ∷ w) = rw (same_swap i x a, same_swap i x b, before_rgt i a b w)

pub before_not : (a b : ℕ) (w : List ℕ) → a ≢ b → 1 ≤ count a w → before b a w ≡ not (before a b w)
unfolding before count tally
before_not a b [] n h = absurd (omega arith)
before_not a b (x ∷ w) n h = go (before_not a b w n) (same? x a) (same? x b)
  where
    go : (1 ≤ count a w → before b a w ≡ not (before a b w)) → SameView x a → SameView x b → before b a (x ∷ w) ≡ not (before a b (x ∷ w))
    go ih (is p e) (is q f) = absurd (n (sym p ∙ q))
    go ih (is p e) (isnt q f) = rw (e, f)
    go ih (isnt p e) (is q f) = rw (e, f)
    go ih (isnt p e) (isnt q f) = rw (e, f) (ih (omega (arith, rw e at h)))

pub asc_r_rgt : (i : ℕ) (w : List ℕ) → 1 ≤ count i w → asc_r i (rgt i w) ≡ not (asc_r i w)
unfolding asc_r
asc_r_rgt i w h = before_rgt i i (suc i) w ∙ ap₂ (λ a b. before a b w) (swap_lo i) (swap_hi i) ∙ before_not i (suc i) w (omega arith) h

pub flip_r : {m : ℕ} (i : ℕ) (w : List ℕ) → Letter m i → Perm m w → asc_r i (rgt i w) ≡ not (asc_r i w)
flip_r i w l c = asc_r_rgt i w (omega (arith, c.once i l.low (omega arith)))

-- ---- on the left

pub flip_l : {m : ℕ} (i : ℕ) (w : List ℕ) → Letter m i → Perm m w → asc_l i (lft i w) ≡ not (asc_l i w)
unfolding asc_l lft
flip_l zero w l c = absurd (omega arith)
flip_l (suc p) w l c = ap₂ less (at p ∙ ap (λ k. get_or w k 0) (swap_lo p)) (at (suc p) ∙ ap (λ k. get_or w k 0) (swap_hi p)) ∙ go (less? x y)
  where
    h : suc p < length w
    h = omega (arith, c.size)

    x : ℕ
    x = get_or w p 0

    y : ℕ
    y = get_or w (suc p) 0

    at : (k : ℕ) → get_or (swap_at p w) k 0 ≡ get_or w (swap p k) 0
    at k = get_or_swap_at p w k h

    differ : x ≢ y
    differ e = omega (arith, perm_distinct w c p (suc p) (omega arith) h e)

    go : LessView x y → less y x ≡ not (less x y)
    go (lt a e) = rw e (less_no (omega arith))
    go (ge a e) = rw e (less_yes (omega (arith, differ)))
