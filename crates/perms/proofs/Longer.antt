-- The length under a generator: at an ascent the permutation becomes longer by one, elsewhere shorter by one, on either side. So an ascent is
-- where the generator makes it longer. Rests on Ascent and lists' Range.
use mathlib.Core.Path.{◌≡◌, refl, sym, ap, ap₂, ◌∙◌}
use mathlib.Core.Bool.{Bool, true, false, not}
use mathlib.Core.List.{List, [], ◌∷◌}
use Prim.Native.Nat.{ℕ, zero, suc, ◌+◌, ◌≤◌, ◌<◌}
use native.Mathlib.Nat.{le_of_suc-le-suc}
use native.Mathlib.Omega.{arith}
use lib.ListN.{length, get_or}
use Rattle.lists.specs.Lists.{less, bit, count, tally}
use Rattle.lists.proofs.Test.{same_yes, same_no, same_sym, less_yes, less_no, less_true}
use Rattle.lists.proofs.Range.{less_step}
use Rattle.perms.specs.Permutation.{Perm, swap, below, len, Letter}
use Rattle.perms.proofs.Swap.{SwapView, lo, hi, off, swap?, swap_swap, swap_lo, swap_hi, less_swap}
use Rattle.perms.proofs.Perm.{rgt, swap_at, lft, rgt_rgt, lft_lft, count_rgt, tally_swap_at, perm_rgt, perm_lft, Dist, dist_tail, perm_dist}
use Rattle.perms.proofs.Ascent.{before, asc_r, asc_l, flip_r, flip_l}

-- ---- two neighbours change places

-- one pair more falls if they rise, one less if they fall
pub len_swap_at : (p : ℕ) (w : List ℕ) → suc p < length w
    → len (swap_at p w) + bit (less (get_or w (suc p) 0) (get_or w p 0)) ≡ len w + bit (less (get_or w p 0) (get_or w (suc p) 0))
unfolding len below tally
len_swap_at p [] h = absurd (omega arith)
len_swap_at zero (x ∷ []) h = absurd (omega arith)
len_swap_at zero (x ∷ y ∷ w) h = omega arith
len_swap_at (suc p) (x ∷ w) h = omega (arith, tally_swap_at (λ y. less y x) p w, len_swap_at p w (le_of_suc-le-suc h))

-- ---- the values i and i + 1 change places

below_step : (c : ℕ) (w : List ℕ) → below (suc c) w ≡ below c w + count c w
unfolding below count tally
below_step c [] = refl
below_step c (x ∷ w) = omega (arith, less_step x c, ap bit (same_sym x c), below_step c w)

-- in a list that does not have what s_i makes of x, as many are below that as were below x
below_rgt : (i x : ℕ) (w : List ℕ) → count (swap i x) w ≡ 0 → below (swap i x) (rgt i w) ≡ below x w
unfolding below rgt count tally
below_rgt i x [] e = refl
below_rgt i x (y ∷ w) e =
    ap₂ (λ b n. bit b + n)
    (less_swap i y x (λ q. omega (arith, rw (same_yes {x = y} {a = swap i x} (sym (swap_swap i y) ∙ ap (swap i) q)) at e)))
    (below_rgt i x w (omega arith))

-- in a list without i, the value i + 1 becomes one more below i + 1
below_lower : (i : ℕ) (w : List ℕ) → count i w ≡ 0 → below (suc i) (rgt i w) ≡ below i w + count (suc i) w
below_lower i w e = omega (
  arith,
  below_step i (rgt i w),
  rw (swap_hi i) at (below_rgt i (suc i) w (rw (swap_hi i) e)),
  below_step i w,
  rw (swap_lo i) at (count_rgt i i w),
)

head_once : (x : ℕ) (w : List ℕ) → Dist (x ∷ w) → count x w ≡ 0
unfolding count tally
head_once x w d = omega (arith, rw (same_yes {x = x} {a = x} refl) at (d x))

-- in a list without i, nothing changes
len_without : (i : ℕ) (w : List ℕ) → Dist w → count i w ≡ 0 → len (rgt i w) ≡ len w
unfolding len rgt count tally
len_without i [] d e = refl
len_without i (x ∷ w) d e = ap₂ ◌+◌ (below_rgt i x w (gone (swap? i x))) (len_without i w (dist_tail x w d) (omega arith))
  where
    gone : SwapView i x → count (swap i x) w ≡ 0
    gone (lo p f) = omega (arith, rw (same_yes p) at e)
    gone (hi p f) = rw f (omega arith)
    gone (off p q f) = rw f (head_once x w d)

len_rgt : (i : ℕ) (w : List ℕ) → Dist w → count (suc i) w ≡ 1 → before i (suc i) w ≡ true → len (rgt i w) ≡ suc (len w)
unfolding len rgt before count tally
len_rgt i [] d h u = absurd (omega arith)
len_rgt i (x ∷ w) d h u = go (len_rgt i w (dist_tail x w d)) (swap? i x)
  where
    go : (count (suc i) w ≡ 1 → before i (suc i) w ≡ true → len (rgt i w) ≡ suc (len w)) → SwapView i x
        → below (swap i x) (rgt i w) + len (rgt i w) ≡ suc (below x w + len w)
    go ih (lo p e) =
        let n : count i w ≡ 0 = rw p at (head_once x w d) in
        rw (e, p) (omega (arith, below_lower i w n, len_without i w (dist_tail x w d) n, rw (same_no {x = x} {a = suc i} (omega arith)) at h))
    go ih (hi p e) = omega (arith, ap bit (rw (same_no {x = x} {a = i} (omega arith), same_yes p) at u))
    go ih (off p q e) =
        omega (arith, below_rgt i x w (rw e (head_once x w d)), ih (omega (arith, rw (same_no q) at h)) (rw (same_no p, same_no q) at u))

-- ---- an ascent makes longer

pub up_l : {m : ℕ} (i : ℕ) (w : List ℕ) → Letter m i → Perm m w → asc_l i w ≡ true → len (lft i w) ≡ suc (len w)
unfolding asc_l lft
up_l zero w l c u = absurd (omega arith)
up_l (suc p) w l c u =
    let h : get_or w p 0 < get_or w (suc p) 0 = less_true (get_or w p 0) (get_or w (suc p) 0) u in
    omega (arith, rw (u, less_no {x = get_or w (suc p) 0} {a = get_or w p 0} (omega arith)) at (len_swap_at p w (omega (arith, c.size))))

pub up_r : {m : ℕ} (i : ℕ) (w : List ℕ) → Letter m i → Perm m w → asc_r i w ≡ true → len (rgt i w) ≡ suc (len w)
unfolding asc_r
up_r i w l c u = len_rgt i w (perm_dist c) (c.once (suc i) (omega arith) (omega (arith, l.high))) u

down_l : {m : ℕ} (i : ℕ) (w : List ℕ) → Letter m i → Perm m w → asc_l i w ≡ false → len w ≡ suc (len (lft i w))
down_l i w l c u = ap len (sym (lft_lft i w)) ∙ up_l i (lft i w) l (perm_lft i c) (flip_l i w l c ∙ ap not u)

down_r : {m : ℕ} (i : ℕ) (w : List ℕ) → Letter m i → Perm m w → asc_r i w ≡ false → len w ≡ suc (len (rgt i w))
down_r i w l c u = ap len (sym (rgt_rgt i w)) ∙ up_r i (rgt i w) l (perm_rgt l c) (flip_r i w l c ∙ ap not u)

step_le : (u : Bool) (a b : ℕ) → (u ≡ true → b ≡ suc a) → (u ≡ false → a ≡ suc b) → b ≤ suc a
step_le true a b f g = omega (arith, f refl)
step_le false a b f g = omega (arith, g refl)

pub len_lft_le : {m : ℕ} (i : ℕ) (w : List ℕ) → Letter m i → Perm m w → len (lft i w) ≤ suc (len w)
len_lft_le i w l c = step_le (asc_l i w) (len w) (len (lft i w)) (up_l i w l c) (down_l i w l c)

pub len_rgt_le : {m : ℕ} (i : ℕ) (w : List ℕ) → Letter m i → Perm m w → len (rgt i w) ≤ suc (len w)
len_rgt_le i w l c = step_le (asc_r i w) (len w) (len (rgt i w)) (up_r i w l c) (down_r i w l c)

test_is : (u : Bool) (a b : ℕ) → (u ≡ true → b ≡ suc a) → (u ≡ false → a ≡ suc b) → u ≡ less a b
test_is true a b f g = sym (less_yes (omega (arith, f refl)))
test_is false a b f g = sym (less_no (omega (arith, g refl)))

pub asc_l_longer : {m : ℕ} (i : ℕ) (w : List ℕ) → Letter m i → Perm m w → asc_l i w ≡ less (len w) (len (lft i w))
asc_l_longer i w l c = test_is (asc_l i w) (len w) (len (lft i w)) (up_l i w l c) (down_l i w l c)

pub asc_r_longer : {m : ℕ} (i : ℕ) (w : List ℕ) → Letter m i → Perm m w → asc_r i w ≡ less (len w) (len (rgt i w))
asc_r_longer i w l c = test_is (asc_r i w) (len w) (len (rgt i w)) (up_r i w l c) (down_r i w l c)
