-- Fewer tests suffice for a permutation: m + 1 numbers among which each of 1 .. m + 1 occurs; or m + 1 different numbers from 1 to m + 1, as code
-- finds them when it asks of each whether it stood before. Rests on Above and Image.
use mathlib.Core.Path.{◌≡◌, refl}
use mathlib.Core.Logic.{◌≢◌}
use mathlib.Core.List.{List, [], ◌∷◌}
use Prim.Native.Nat.{ℕ, zero, suc, pred, ◌+◌, ◌-◌, ◌≤◌, ◌<◌, suc-le-suc}
use native.Mathlib.Omega.{arith}
use lib.ListN.{length, get_or, take}
use Rattle.lists.specs.Lists.{same, less, bit, count, tally}
use Rattle.lists.proofs.Test.{SameView, is, isnt, LessView, lt, ge, same?, less?, less_yes, same_true}
use Rattle.lists.proofs.Tally.{tally_mono}
use Rattle.perms.specs.Permutation.{Perm}
use Rattle.perms.specs.Tower.{above}
use Rattle.perms.proofs.Perm.{Dist}
use Rattle.perms.proofs.Image.{At, at_count}
use Rattle.perms.proofs.Above.{above_step, above_none}

length_above : (w : List ℕ) → length w ≡ count 0 w + above 0 w
unfolding count above tally
length_above [] = refl
length_above (x ∷ w) = go (length_above w) (same? x 0) (less? 0 x)
  where
    go : length w ≡ count 0 w + above 0 w → SameView x 0 → LessView 0 x → suc (length w) ≡ bit (same x 0) + count 0 w + (bit (less 0 x) + above 0 w)
    go ih (is p e) (lt a f) = absurd (omega arith)
    go ih (is p e) (ge a f) = rw (e, f) (omega arith)
    go ih (isnt p e) (lt a f) = rw (e, f) (omega arith)
    go ih (isnt p e) (ge a f) = absurd (omega arith)

-- a value above c counts
count_above : (c v : ℕ) (w : List ℕ) → c < v → count v w ≤ above c w
unfolding count above
count_above c v w h = tally_mono (λ x. same x v) (λ x. less c x) (λ x e. less_yes (omega (arith, same_true x v e))) w

above_each : (w : List ℕ) (k c : ℕ) → ((v : ℕ) → c < v → v ≤ c + k → 1 ≤ count v w) → k + above (c + k) w ≤ above c w
above_each w zero c h = let e : c + 0 ≡ c = omega arith in rw e (omega arith)
above_each w (suc k) c h =
    let e : c + suc k ≡ suc c + k = omega arith in
    rw e (omega (arith, above_step c w, h (suc c) (omega arith) (omega arith), above_each w k (suc c) (λ v a b. h v (omega arith) (omega arith))))

above_most : (w : List ℕ) → Dist w → (k c : ℕ) → above c w ≤ k + above (c + k) w
above_most w d zero c = let e : c + 0 ≡ c = omega arith in rw e (omega arith)
above_most w d (suc k) c =
    let e : c + suc k ≡ suc c + k = omega arith in
    rw e (omega (arith, above_step c w, d (suc c), above_most w d k (suc c)))

-- each of 1 .. m + 1 occurs
pub perm_of_each : {m : ℕ} (w : List ℕ) → length w ≡ m + 1 → ((v : ℕ) → 1 ≤ v → v ≤ m + 1 → 1 ≤ count v w) → Perm m w
perm_of_each {m} w s h = record {
  size = s;
  once = λ v. once v;
  none = λ v a. omega (arith, count_above (m + 1) v w a, full);
  zeroth = omega (arith, full);
}
  where
    full : (count 0 w ≡ 0) × (above (m + 1) w ≡ 0)
    full = let e : 0 + (m + 1) ≡ m + 1 = omega arith in
        omega (arith, length_above w, rw e at (above_each w (m + 1) 0 (λ v a b. h v a (omega arith))))

    once : (v : ℕ) → 1 ≤ v → v ≤ m + 1 → count v w ≡ 1
    once zero a b = absurd (omega arith)
    once (suc v) a b =
        let e : 0 + v ≡ v = omega arith in
        let f : suc v + (m - v) ≡ m + 1 = omega arith in
        omega (
          arith,
          h (suc v) a b,
          length_above w,
          above_step v w,
          rw e at (above_each w v 0 (λ x c d. h x c (omega arith))),
          rw f at (above_each w (m - v) (suc v) (λ x c d. h x (omega arith) (omega arith))),
        )

-- no value twice, and none out of 1 .. m + 1
perm_of_dist : {m : ℕ} (w : List ℕ) → length w ≡ m + 1 → Dist w → count 0 w ≡ 0 → ((v : ℕ) → m + 1 < v → count v w ≡ 0) → Perm m w
perm_of_dist {m} w s d z n = record { size = s; once = once; none = n; zeroth = z }
  where
    once : (v : ℕ) → 1 ≤ v → v ≤ m + 1 → count v w ≡ 1
    once zero a b = absurd (omega arith)
    once (suc v) a b =
        let e : 0 + v ≡ v = omega arith in
        let f : suc v + (m - v) ≡ m + 1 = omega arith in
        omega (arith, d (suc v), length_above w, above_step v w, above_none (m + 1) w n, rw e at (above_most w d v 0), rw f at (above_most w d (m - v) (suc v)))

-- ---- a list that is checked from its front

dist_of_new : (w : List ℕ) → ((i : ℕ) → i < length w → count (get_or w i 0) (take i w) ≡ 0) → Dist w
unfolding count tally
dist_of_new [] h v = omega arith
dist_of_new (x ∷ w) h v = go (dist_of_new w (λ i k. omega (arith, h (suc i) (suc-le-suc k))) v) (same? x v) (less? 0 (count v w))
  where
    go : count v w ≤ 1 → SameView x v → LessView 0 (count v w) → bit (same x v) + count v w ≤ 1
    go ih (is p e) (lt a f) =
        let r : At v w = at_count v w a in
        absurd (omega (arith, rw (r.there, e) at (h (suc r.index) (suc-le-suc r.inside))))
    go ih (is p e) (ge a f) = rw e (omega arith)
    go ih (isnt n e) l = rw e (omega arith)

count_none : (v : ℕ) (w : List ℕ) → ((i : ℕ) → i < length w → get_or w i 0 ≢ v) → count v w ≡ 0
count_none v w h = go (less? 0 (count v w))
  where
    go : LessView 0 (count v w) → count v w ≡ 0
    go (lt a e) = let r : At v w = at_count v w a in absurd (h r.index r.inside r.there)
    go (ge a e) = omega arith

pub perm_of_checked : (w : List ℕ)
    → ((i : ℕ) → i < length w → (1 ≤ get_or w i 0) × (get_or w i 0 ≤ length w) × (count (get_or w i 0) (take i w) ≡ 0))
    → 1 ≤ length w → Perm (pred (length w)) w
perm_of_checked w h s = perm_of_dist w (omega arith) (dist_of_new w (λ i k. (h i k).2))
    (count_none 0 w (λ i k. omega (arith, (h i k).0)))
    (λ v a. count_none v w (λ i k. omega (arith, (h i k).1)))
