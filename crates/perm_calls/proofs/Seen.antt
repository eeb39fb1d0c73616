-- A loop that adds 2^(x - 1) for each image x holds, after i images, the mask of these; and which images are new to it. Rests on perms' Mask and
-- Image, lists' Prefix, and ImageVerdicts.
use mathlib.Core.Path.{◌≡◌, refl, sym, ap, ap₂, ◌∙◌}
use mathlib.Core.Logic.{◌≢◌}
use mathlib.Core.Bool.{Bool, true, false}
use mathlib.Core.List.{List}
use Prim.Native.Nat.{ℕ, suc, ◌+◌, ◌-◌, ◌*◌, ◌%◌, ◌^◌, ◌≤◌, ◌<◌}
use native.Mathlib.Omega.{arith}
use lib.Pow.{shl_exact}
use lib.ListN.{length, get_or, take, drop, take-append-drop}
use Rattle.lists.specs.Lists.{same, less, bit, count}
use Rattle.lists.proofs.Test.{SameView, is, isnt, same?, same_yes, same_no, less_yes, less_no}
use Rattle.lists.proofs.Tally.{tally_append}
use Rattle.lists.proofs.Prefix.{sum_prefix, count_sums}
use Rattle.perms.specs.Permutation.{Perm}
use Rattle.perms.specs.Tower.{mask}
use Rattle.perms.proofs.Perm.{Dist, perm_dist}
use Rattle.perms.proofs.Image.{perm_image}
use Rattle.perms.proofs.Mask.{mask_lt, mask_same, mask_none, mask_more}
use Rattle.perm_calls.specs.Calls.{bad_image}
use Rattle.perm_calls.proofs.ImageVerdicts.{good_image}

-- the test whether v stands in u
abbrev pub stands : List ℕ → ℕ → Bool
stands u v = less 0 (count v u)

-- the first i images are different and at most 64, and `seen` is their mask
pub record Seen (w : List ℕ) (seen i : ℕ) : Type 0 where
  pub is : seen ≡ mask (stands (take i w)) 64
  pub dist : Dist (take i w)
  pub most : (v : ℕ) → 64 < v → count v (take i w) ≡ 0

-- the image at index i is from 1 to 64 and not among those before it
pub record New (w : List ℕ) (i : ℕ) : Type 0 where
  pub low : 1 ≤ get_or w i 0
  pub high : get_or w i 0 ≤ 64
  pub fresh : count (get_or w i 0) (take i w) ≡ 0

pub seen_none : (w : List ℕ) → Seen w 0 0
seen_none w = record {
  is = sym (mask_same (λ v. false) (stands (take 0 w)) 64 (λ v l. less_no (omega (arith, none v))) ∙ mask_none 64);
  dist = λ v. omega (arith, none v);
  most = λ v l. none v;
}
  where
    none : (v : ℕ) → count v (take 0 w) ≡ 0
    none v = (count_sums v).none

pub seen_more : {w : List ℕ} {seen i : ℕ} → i < length w → New w i → Seen w seen i → Seen w (seen + (1 * 2 ^ (get_or w i 0 - 1)) % 2 ^ 64) (i + 1)
seen_more {w} {seen} {i} h x s = record {
  is = ap₂ ◌+◌ s.is power
      ∙ sym (mask_more (stands (take i w)) (stands (take (i + 1) w)) (y - 1) 64 (omega (arith, x.low, x.high)) before after others);
  dist = λ v. dist v (same? y v);
  most = λ v l. omega (arith, step v, s.most v l, ap bit (same_no {x = y} {a = v} (λ e. omega (arith, x.high))));
}
  where
    y : ℕ
    y = get_or w i 0

    at : suc (y - 1) ≡ y
    at = omega (arith, x.low)

    power : (1 * 2 ^ (y - 1)) % 2 ^ 64 ≡ 2 ^ (y - 1)
    power = shl_exact 1 (y - 1) 64 (omega arith) (omega (arith, x.low, x.high)) ∙ omega arith

    step : (v : ℕ) → count v (take (i + 1) w) ≡ count v (take i w) + bit (same y v)
    step v = sum_prefix (count_sums v) i w h

    before : stands (take i w) (suc (y - 1)) ≡ false
    before = rw at (less_no (omega (arith, x.fresh)))

    after : stands (take (i + 1) w) (suc (y - 1)) ≡ true
    after = rw at (less_yes (omega (arith, step y, ap bit (same_yes {x = y} refl))))

    others : (v : ℕ) → v ≢ suc (y - 1) → stands (take (i + 1) w) v ≡ stands (take i w) v
    others v n = ap (less 0) (omega (arith, step v, ap bit (same_no {x = y} {a = v} (λ e. n (sym e ∙ sym at)))))

    dist : (v : ℕ) → SameView y v → count v (take (i + 1) w) ≤ 1
    dist v (is e f) = omega (arith, step v, ap bit f, x.fresh, ap (λ n. count n (take i w)) e)
    dist v (isnt n f) = omega (arith, step v, ap bit f, s.dist v)

pub seen_fits : {w : List ℕ} {seen i : ℕ} → Seen w seen i → seen < 2 ^ 64
seen_fits {w} {seen} {i} s = rw s.is (mask_lt (stands (take i w)) 64)

-- ---- which images are new

pub good_new : (w : List ℕ) (i : ℕ) → length w ≤ 64 → bad_image w i ≡ false → New w i
good_new w i l e = let good = good_image w i e in record { low = good.0; high = omega (arith, good.1); fresh = good.2 }

count_take : (v j : ℕ) (w : List ℕ) → count v (take j w) ≤ count v w
unfolding count
count_take v j w = omega (arith, ap (count v) (take-append-drop j w), tally_append (λ x. same x v) (take j w) (drop j w))

pub perm_new : {m : ℕ} (w : List ℕ) → Perm m w → m < 64 → (i : ℕ) → i < length w → New w i
perm_new {m} w p h i l = record {
  low = (perm_image w p i l).0;
  high = omega (arith, (perm_image w p i l).1);
  fresh = omega (arith, sum_prefix (count_sums y) i w l, ap bit (same_yes {x = y} refl), count_take y (i + 1) w, perm_dist p y);
}
  where
    y : ℕ
    y = get_or w i 0
