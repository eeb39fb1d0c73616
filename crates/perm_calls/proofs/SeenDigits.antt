-- What the mask of the images seen tells: the digit of a value, whether it is among them, and so whether an image is bad; and the digits from that of
-- a new image on, how many larger ones are among them, which is an entry of the tower. Rests on Seen and perms' Perm, Above and Mask.
use mathlib.Core.Path.{◌≡◌, sym, ap, ◌∙◌}
use mathlib.Core.Logic.{◌≢◌}
use mathlib.Core.Bool.{Bool, true}
use mathlib.Core.List.{List}
use Prim.Native.Nat.{ℕ, zero, suc, ◌+◌, ◌-◌, ◌/◌, ◌%◌, ◌^◌, ◌≤◌, ◌<◌}
use native.Mathlib.Omega.{arith}
use lib.Count.{ones}
use lib.ListN.{length, get_or, take}
use Rattle.lists.specs.Lists.{less, bit, count}
use Rattle.lists.proofs.Test.{SameView, is, isnt, LessView, lt, ge, same?, less?, same_no, less_yes, less_no}
use Rattle.perms.specs.Tower.{above, entry, mask, number}
use Rattle.perms.proofs.Perm.{Dist}
use Rattle.perms.proofs.Above.{above_step, above_none}
use Rattle.perms.proofs.Mask.{ones_mask, mask_from, mask_digit}
use Rattle.perm_calls.specs.Calls.{bad_image}
use Rattle.perm_calls.proofs.Seen.{stands, Seen, New}

-- the digit of a value: whether it is among the images
seen_digit : {w : List ℕ} {seen i : ℕ} (x : ℕ) → Seen w seen i → 1 ≤ x → x ≤ 64 → seen / 2 ^ (x - 1) % 2 ≡ bit (less 0 (count x (take i w)))
seen_digit {w} {seen} {i} x s l h =
    let e : suc (x - 1) ≡ x = omega arith in
    ap (λ n. n / 2 ^ (x - 1) % 2) s.is ∙ mask_digit (stands (take i w)) (x - 1) 64 (omega arith) ∙ ap (λ n. bit (stands (take i w) n)) e

bit_stands : (n : ℕ) → n ≤ 1 → bit (less 0 n) ≡ n
bit_stands n h = go (less? 0 n)
  where
    go : LessView 0 n → bit (less 0 n) ≡ n
    go (lt l e) = omega (arith, ap bit e)
    go (ge l e) = omega (arith, ap bit e)

-- how many of k + 1 to k + m stand in a list of different numbers
number_above : (u : List ℕ) → Dist u → (k m : ℕ) → number (λ i. stands u (k + i)) m + above (k + m) u ≡ above k u
unfolding number
number_above u d k zero = let e : k + 0 ≡ k = omega arith in rw e (omega arith)
number_above u d k (suc m) =
    let e : k + suc m ≡ suc (k + m) = omega arith in
    rw e (omega (arith, number_above u d k m, above_step (k + m) u, bit_stands (count (suc (k + m)) u) (d (suc (k + m)))))

-- the digits from that of a new image on: how many larger ones are among the images
pub seen_entry : {w : List ℕ} {seen i : ℕ} → New w i → Seen w seen i → ones (seen / 2 ^ (get_or w i 0 - 1)) ≡ entry i w
unfolding entry
seen_entry {w} {seen} {i} x s =
    ap ones (ap (λ n. n / 2 ^ k) (s.is ∙ ap (mask p) all) ∙ mask_from p k (64 - k)) ∙ ones_mask (λ j. p (k + j)) (64 - k)
    ∙ omega (
      arith,
      number_above u s.dist k (64 - k),
      above_none (k + (64 - k)) u (λ v l. s.most v (omega (arith, all))),
      above_step k u,
      x.fresh,
      ap (λ n. count n u) at,
      ap (λ n. above n u) at,
    )
  where
    u : List ℕ
    u = take i w

    p : ℕ → Bool
    p = stands u

    k : ℕ
    k = get_or w i 0 - 1

    at : suc k ≡ get_or w i 0
    at = omega (arith, x.low)

    all : 64 ≡ k + (64 - k)
    all = omega (arith, x.high)

-- ---- which images are bad: 0, one above the number of images, and one in range whose digit is set

pub outside_bad : (w : List ℕ) (i : ℕ) → (get_or w i 0 ≢ 0 → length w < get_or w i 0) → bad_image w i ≡ true
unfolding bad_image
outside_bad w i h = go (same? (get_or w i 0) 0)
  where
    go : SameView (get_or w i 0) 0 → bad_image w i ≡ true
    go (is p e) = simp e
    go (isnt p e) = simp (e, less_yes (h p))

pub bad_digit : {w : List ℕ} {seen i : ℕ} → Seen w seen i → length w ≤ 64 → get_or w i 0 ≢ 0 → get_or w i 0 ≤ length w
    → seen / 2 ^ (get_or w i 0 - 1) % 2 ≡ bit (bad_image w i)
unfolding bad_image
bad_digit {w} {seen} {i} s l n h =
    let e : bad_image w i ≡ less 0 (count (get_or w i 0) (take i w)) = simp (same_no n, less_no h) in
    seen_digit (get_or w i 0) s (omega arith) (omega arith) ∙ ap bit (sym e)
