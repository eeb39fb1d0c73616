-- What acceptance says of an image list: it is a permutation within document 01's sizes. Rests on perms' Valid and refusals' Verdicts.
use mathlib.Core.Path.{◌≡◌, refl}
use mathlib.Core.Logic.{◌≢◌}
use mathlib.Core.Bool.{Bool, false, ◌||◌}
use mathlib.Core.List.{List}
use Prim.Native.Nat.{ℕ, pred, ◌≤◌, ◌<◌}
use native.Mathlib.Omega.{arith}
use lib.ListN.{length, get_or, take}
use Rattle.lists.specs.Lists.{same, less, first, count}
use Rattle.lists.proofs.Test.{SameView, is, isnt, same?, same_no, less_yes, less_no, same_false, less_false, or_first, or_next}
use Rattle.lists.proofs.First.{passed}
use Rattle.refusals.specs.Refusals.{unless, Verdict}
use Rattle.refusals.specs.declared.Refusal.TheVariants.{Length, Image}
use Rattle.refusals.proofs.Verdicts.{accepts_first, accepts_next, accepts_unless}
use Rattle.perms.specs.Permutation.{Perm}
use Rattle.perms.proofs.Valid.{perm_of_checked}
use Rattle.perm_calls.specs.Calls.{bad_image, first_bad_image, images_verdict}
use Rattle.std.specs.Prelude.{Ok, Err}

-- ---- the verdict by the size

pub images_sized : (w : List ℕ) → length w ≢ 0 → length w ≤ 64 → images_verdict w ≡ unless (less (first_bad_image w) (length w)) (Image (first_bad_image w))
unfolding images_verdict
images_sized w a b = rw (same_no a, less_no b) refl

pub images_unsized : (w : List ℕ) → (length w ≢ 0 → 64 < length w) → images_verdict w ≡ Err Length
unfolding images_verdict
images_unsized w h = go (same? (length w) 0)
  where
    go : SameView (length w) 0 → images_verdict w ≡ Err Length
    go (is p e) = rw e refl
    go (isnt p e) = rw (e, less_yes (h p)) refl

-- ---- accepted images

pub good_image : (w : List ℕ) (i : ℕ) → bad_image w i ≡ false → (1 ≤ get_or w i 0) × (get_or w i 0 ≤ length w) × (count (get_or w i 0) (take i w) ≡ 0)
unfolding bad_image
good_image w i e = (
  omega (arith, same_false x 0 (or_first a b both)),
  less_false (length w) x (or_next a b both),
  omega (arith, less_false 0 (count x (take i w)) (or_next (a || b) d e)),
)
  where
    x : ℕ
    x = get_or w i 0

    a : Bool
    a = same x 0

    b : Bool
    b = less (length w) x

    d : Bool
    d = less 0 (count x (take i w))

    both : (a || b) ≡ false
    both = or_first (a || b) d e

pub images_accepted : (w : List ℕ) → images_verdict w ≡ Ok tt → (1 ≤ length w) × (length w ≤ 64) × Perm (pred (length w)) w
unfolding images_verdict first_bad_image
images_accepted w e = (
  some,
  less_false 64 (length w) (or_next a b sizes),
  perm_of_checked w (λ i h. good_image w i (passed (bad_image w) 0 (length w) i (omega arith) (omega (arith, all)))) some,
)
  where
    a : Bool
    a = same (length w) 0

    b : Bool
    b = less 64 (length w)

    bad : ℕ
    bad = first (bad_image w) 0 (length w)

    rest : Verdict
    rest = unless (less bad (length w)) (Image bad)

    sizes : (a || b) ≡ false
    sizes = accepts_unless (a || b) Length (accepts_first (unless (a || b) Length) rest e)

    some : 1 ≤ length w
    some = omega (arith, same_false (length w) 0 (or_first a b sizes))

    all : length w ≤ bad
    all = less_false bad (length w) (accepts_unless (less bad (length w)) (Image bad) (accepts_next (unless (a || b) Length) rest e))
