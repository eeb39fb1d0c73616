-- A generator on either side of a permutation: either s_i w = w s_j, and then the two tests for an ascent agree and both change; or neither
-- action changes the other's test. Rests on Ascent.
use mathlib.Core.Path.{◌≡◌, refl, sym, ap, ap₂, ◌∙◌}
use mathlib.Core.Logic.{◌≢◌}
use mathlib.Core.Bool.{Bool, true, false, cond, not}
use mathlib.Core.List.{List, [], ◌∷◌}
use Prim.Native.Nat.{ℕ, zero, suc, ◌+◌, ◌≤◌, ◌<◌}
use native.Mathlib.Nat.{le_of_suc-le-suc}
use native.Mathlib.Omega.{arith}
use lib.ListN.{length, get_or, length-map}
use lib.Seq.{ext_get_or}
use Rattle.lists.specs.Lists.{same, less}
use Rattle.lists.proofs.Test.{SameView, is, isnt, same?, same_yes, same_no, less_yes, less_no}
use Rattle.lists.proofs.Range.{get_or_map}
use Rattle.perms.specs.Permutation.{Perm, swap, Letter}
use Rattle.perms.proofs.Swap.{SwapView, lo, hi, off, swap?, swap_swap, swap_off, swap_lo, swap_hi, less_swap}
use Rattle.perms.proofs.Perm.{rgt, lft, swap_at, swap_at_length, Dist, dist_tail, perm_dist}
use Rattle.perms.proofs.Image.{perm_image, dist_head, perm_distinct}
use Rattle.perms.proofs.Products.{get_or_swap_at}
use Rattle.perms.proofs.Ascent.{before, asc_r, asc_l, before_not, flip_r, flip_l}

pub data Sides (i j : ℕ) (w : List ℕ) : Type 0 where
  agree : (b : Bool) → lft i w ≡ rgt j w → asc_l i w ≡ b → asc_r j w ≡ b → asc_l i (lft i w) ≡ not b → asc_r j (lft i w) ≡ not b → Sides i j w
  differ : asc_r j (lft i w) ≡ asc_r j w → asc_l i (rgt j w) ≡ asc_l i w → Sides i j w

-- ---- two neighbours that s_j takes to each other

before_at : (p : ℕ) (w : List ℕ) → Dist w → suc p < length w → before (get_or w p 0) (get_or w (suc p) 0) w ≡ true
unfolding before
before_at p [] d h = absurd (omega arith)
before_at zero (x ∷ w) d h = rw (same_yes {x = x} {a = x} refl)
before_at (suc p) (x ∷ w) d h =
    rw (same_no (dist_head x w d p (omega arith)), same_no (dist_head x w d (suc p) (omega arith)))
    (before_at p w (dist_tail x w d) (le_of_suc-le-suc h))

-- to swap the two positions is to swap the two values
swap_at_rgt : {m : ℕ} (p j : ℕ) (w : List ℕ) → Perm m w → suc p < length w → swap j (get_or w p 0) ≡ get_or w (suc p) 0
    → ((v : ℕ) → v ≢ get_or w p 0 → v ≢ get_or w (suc p) 0 → swap j v ≡ v) → swap_at p w ≡ rgt j w
unfolding rgt
swap_at_rgt p j w c h q fix =
    ext_get_or 0 (swap_at p w) (rgt j w) (swap_at_length p w ∙ sym (length-map w (swap j)))
    (λ k l. get_or_swap_at p w k h ∙ at k (omega (arith, swap_at_length p w)) (swap? p k) ∙ sym (get_or_map (swap j) w k 0 0 (omega (arith, swap_at_length p w))))
  where
    at : (k : ℕ) → k < length w → SwapView p k → get_or w (swap p k) 0 ≡ swap j (get_or w k 0)
    at k l (lo d e) = ap (λ n. get_or w n 0) e ∙ sym (ap (λ n. swap j (get_or w n 0)) d ∙ q)
    at k l (hi d e) = ap (λ n. get_or w n 0) e ∙ sym (ap (λ n. swap j (get_or w n 0)) d ∙ ap (swap j) (sym q) ∙ swap_swap j (get_or w p 0))
    at k l (off a b e) =
        ap (λ n. get_or w n 0) e
        ∙ sym (fix (get_or w k 0) (λ z. a (perm_distinct w c k p l (omega arith) z)) (λ z. b (perm_distinct w c k (suc p) l h z)))

-- ---- two that it does not

before_swap_at : (p j : ℕ) (w : List ℕ) → swap j (get_or w p 0) ≢ get_or w (suc p) 0 → before j (suc j) (swap_at p w) ≡ before j (suc j) w
unfolding before
before_swap_at zero j [] n = refl
before_swap_at zero j (x ∷ []) n = refl
before_swap_at zero j (x ∷ y ∷ w) n = go (same? x j) (same? x (suc j)) (same? y j) (same? y (suc j))
  where
    go : SameView x j → SameView x (suc j) → SameView y j → SameView y (suc j) → before j (suc j) (y ∷ x ∷ w) ≡ before j (suc j) (x ∷ y ∷ w)
    go (is p e) s (is q f) t = rw (e, f)
    go (is p e) s (isnt q f) (is r g) = absurd (n (ap (swap j) p ∙ swap_lo j ∙ sym r))
    go (is p e) s (isnt q f) (isnt r g) = rw (e, f, g)
    go (isnt p e) (is q f) (is r g) t = absurd (n (ap (swap j) q ∙ swap_hi j ∙ sym r))
    go (isnt p e) (is q f) (isnt r g) (is u v) = rw (e, f, g, v)
    go (isnt p e) (is q f) (isnt r g) (isnt u v) = rw (e, f, g, v)
    go (isnt p e) (isnt q f) s t = rw (e, f)
before_swap_at (suc p) j [] n = refl
before_swap_at (suc p) j (x ∷ w) n = ap (λ r. cond (same x j) true (cond (same x (suc j)) false r)) (before_swap_at p j w n)

-- ---- the two cases

pub sides : {m : ℕ} (i j : ℕ) (w : List ℕ) → Letter m i → Perm m w → Sides i j w
unfolding lft rgt asc_l asc_r
sides zero j w l c = absurd (omega arith)
sides {m} (suc p) j w l c = go (same? (swap j x) y) (swap? j x)
  where
    h : suc p < length w
    h = omega (arith, c.size)

    x : ℕ
    x = get_or w p 0

    y : ℕ
    y = get_or w (suc p) 0

    px : (1 ≤ x) × (x ≤ m + 1)
    px = perm_image w c p (omega arith)

    py : (1 ≤ y) × (y ≤ m + 1)
    py = perm_image w c (suc p) h

    together : (b : Bool) → swap j x ≡ y → ((v : ℕ) → v ≢ x → v ≢ y → swap j v ≡ v) → Letter m j → less x y ≡ b → before j (suc j) w ≡ b
        → Sides (suc p) j w
    together b q fix k u v =
        let e : swap_at p w ≡ rgt j w = swap_at_rgt p j w c h q fix in
        agree b e u v (flip_l (suc p) w l c ∙ ap not u) (ap (before j (suc j)) e ∙ flip_r j w k c ∙ ap not v)

    go : SameView (swap j x) y → SwapView j x → Sides (suc p) j w
    go (is q f) (lo a e) =
        together true q (λ v r s. swap_off j v (omega arith) (omega arith)) record { low = omega (arith, px); high = omega (arith, py) }
        (less_yes (omega arith)) (ap₂ (λ a b. before a b w) (omega arith) (omega arith) ∙ before_at p w (perm_dist c) h)
    go (is q f) (hi a e) =
        together false q (λ v r s. swap_off j v (omega arith) (omega arith)) record { low = omega (arith, py); high = omega (arith, px) }
        (less_no (omega arith))
        (before_not (suc j) j w (omega arith) (omega (arith, c.once (suc j) (omega arith) (omega (arith, px))))
        ∙ ap not (ap₂ (λ a b. before a b w) (omega arith) (omega arith) ∙ before_at p w (perm_dist c) h))
    go (is q f) (off a b e) = absurd (omega (arith, perm_distinct w c p (suc p) (omega arith) h (sym e ∙ q)))
    go (isnt n f) s =
        differ (before_swap_at p j w n) (ap₂ less (get_or_map (swap j) w p 0 0 (omega arith)) (get_or_map (swap j) w (suc p) 0 0 h) ∙ less_swap j x y n)
