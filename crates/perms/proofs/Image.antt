-- The images of a permutation by index: each is a point, each point is the image at some index, and no two are the same. Rests on Perm.
use mathlib.Core.Path.{◌≡◌, refl, sym, ap}
use mathlib.Core.Logic.{◌≢◌}
use mathlib.Core.List.{List, [], ◌∷◌}
use Prim.Native.Nat.{ℕ, zero, suc, ◌+◌, ◌≤◌, ◌<◌}
use native.Mathlib.Nat.{le_of_suc-le-suc}
use native.Mathlib.Omega.{arith}
use lib.ListN.{length, get_or}
use Rattle.lists.specs.Lists.{count, tally}
use Rattle.lists.proofs.Test.{SameView, is, isnt, LessView, lt, ge, same?, less?, same_yes}
use Rattle.perms.specs.Permutation.{Perm}
use Rattle.perms.proofs.Perm.{Dist, dist_tail, perm_dist}

count_get_or : (w : List ℕ) (i : ℕ) → i < length w → 1 ≤ count (get_or w i 0) w
unfolding count tally
count_get_or [] i h = absurd (omega arith)
count_get_or (x ∷ w) zero h = rw (same_yes {x = x} {a = x} refl) (omega arith)
count_get_or (x ∷ w) (suc i) h = omega (arith, count_get_or w i (le_of_suc-le-suc h))

pub perm_image : {m : ℕ} (w : List ℕ) → Perm m w → (i : ℕ) → i < length w → (1 ≤ get_or w i 0) × (get_or w i 0 ≤ m + 1)
perm_image {m} w c i h = go (get_or w i 0) (count_get_or w i h) (less? (m + 1) (get_or w i 0))
  where
    go : (v : ℕ) → 1 ≤ count v w → LessView (m + 1) v → (1 ≤ v) × (v ≤ m + 1)
    go v k (lt a e) = absurd (omega (arith, c.none v a))
    go zero k (ge a e) = absurd (omega (arith, c.zeroth))
    go (suc v) k (ge a e) = (omega arith, a)

-- an index at which v stands
pub record At (v : ℕ) (w : List ℕ) : Type 0 where
  pub index : ℕ
  pub inside : index < length w
  pub there : get_or w index 0 ≡ v

pub count_at : {v : ℕ} {w : List ℕ} → At v w → 1 ≤ count v w
count_at {v} {w} r = rw r.there at (count_get_or w r.index r.inside)

pub at_count : (v : ℕ) (w : List ℕ) → 1 ≤ count v w → At v w
unfolding count tally
at_count v [] h = absurd (omega arith)
at_count v (x ∷ w) h = go (at_count v w) (same? x v)
  where
    go : (1 ≤ count v w → At v w) → SameView x v → At v (x ∷ w)
    go ih (is p e) = record { index = 0; inside = omega arith; there = p }
    go ih (isnt n e) =
        let r : At v w = ih (omega (arith, rw e at h)) in
        record { index = suc r.index; inside = omega arith; there = r.there }

pub perm_at : {m : ℕ} (w : List ℕ) → Perm m w → (v : ℕ) → 1 ≤ v → v ≤ m + 1 → At v w
perm_at w c v a b = at_count v w (omega (arith, c.once v a b))

pub dist_head : (x : ℕ) (w : List ℕ) → Dist (x ∷ w) → (k : ℕ) → k < length w → x ≢ get_or w k 0
unfolding count tally
dist_head x w d k h e = omega (arith, rw (same_yes {x = x} {a = get_or w k 0} e) at (d (get_or w k 0)), count_get_or w k h)

dist_get_or : (w : List ℕ) → Dist w → (i k : ℕ) → i < length w → k < length w → get_or w i 0 ≡ get_or w k 0 → i ≡ k
dist_get_or [] d i k a b e = absurd (omega arith)
dist_get_or (x ∷ w) d zero zero a b e = refl
dist_get_or (x ∷ w) d zero (suc k) a b e = absurd (dist_head x w d k (le_of_suc-le-suc b) e)
dist_get_or (x ∷ w) d (suc i) zero a b e = absurd (dist_head x w d i (le_of_suc-le-suc a) (sym e))
dist_get_or (x ∷ w) d (suc i) (suc k) a b e = ap suc (dist_get_or w (dist_tail x w d) i k (le_of_suc-le-suc a) (le_of_suc-le-suc b) e)

pub perm_distinct : {m : ℕ} (w : List ℕ) → Perm m w → (i k : ℕ) → i < length w → k < length w → get_or w i 0 ≡ get_or w k 0 → i ≡ k
perm_distinct w c i k a b e = dist_get_or w (perm_dist c) i k a b e
