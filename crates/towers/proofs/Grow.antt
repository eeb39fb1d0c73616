-- A loop that extends an image list by one value for each entry of a tower holds, after i entries, the permutation of the first i.
-- Rests on perms' ImagesOf.
use mathlib.Core.Path.{◌≡◌, sym, ap, ap₂, ◌∙◌}
use mathlib.Core.List.{List, ◌++◌}
use Prim.Native.Nat.{ℕ, suc, ◌+◌, ◌-◌, ◌≤◌, ◌<◌}
use native.Mathlib.Numerals.{add-one}
use native.Mathlib.Omega.{arith}
use lib.ListN.{length, get_or, set, take, drop, length-set, length-append, length-drop}
use lib.Seq.{length-take-le, take_at, take-suc-set, get_or-take}
use Rattle.lists.specs.Lists.{range}
use Rattle.perms.specs.Permutation.{identity, Perm}
use Rattle.perms.specs.Extend.{extend}
use Rattle.perms.specs.Tower.{Tower, of_cycles, images_of}
use Rattle.perms.proofs.Image.{perm_image}
use Rattle.perms.proofs.Extend.{length_extend}
use Rattle.perms.proofs.ImagesOf.{tower_take, perm_is, images_of_take}

pub record Grown (t images : List ℕ) (i : ℕ) : Type 0 where
  pub size : length images ≡ suc (length t)
  pub first : take (i + 1) images ≡ images_of (take i t)

pub grown_none : (t images : List ℕ) → length images ≡ suc (length t) → Grown t (set images 0 1) 0
unfolding images_of of_cycles identity range
grown_none t images e = record { size = length-set images 0 1 ∙ e; first = take-suc-set images 0 1 (omega arith) }

-- the images so far are points
pub grown_small : (t images : List ℕ) (i : ℕ) → Tower (length t) t → i ≤ length t → Grown t images i → (k : ℕ) → k < i + 1 → get_or images k 0 ≤ i + 1
grown_small t images i c h g k l =
    let p : Perm i (images_of (take i t)) = perm_is i (take i t) (tower_take t i c h) in
    omega (arith, get_or-take (i + 1) images k 0 l, ap (λ w. get_or w k 0) g.first, perm_image (images_of (take i t)) p k (omega (arith, p.size)))

pub grown_more : (t images next : List ℕ) (i : ℕ) → Tower (length t) t → i < length t → Grown t images i
    → next ≡ extend (i + 2 - get_or t i 0) (take (i + 1) images) ++ drop (suc (i + 1)) images → Grown t next (i + 1)
grown_more t images next i c h g e = record { size = ap length e ∙ whole; first = ap (take (i + 1 + 1)) e ∙ take_at front back (i + 1 + 1) long ∙ new }
  where
    x : ℕ
    x = i + 2 - get_or t i 0

    front : List ℕ
    front = extend x (take (i + 1) images)

    back : List ℕ
    back = drop (suc (i + 1)) images

    long : length front ≡ i + 1 + 1
    long = length_extend x (take (i + 1) images) ∙ omega (arith, length-take-le (i + 1) images (omega (arith, g.size)))

    whole : length (front ++ back) ≡ suc (length t)
    whole = length-append front back ∙ omega (arith, long, length-drop (suc (i + 1)) images, g.size)

    new : front ≡ images_of (take (i + 1) t)
    new = ap₂ extend (omega arith) g.first ∙ sym (ap (λ n. images_of (take n t)) (add-one i) ∙ images_of_take t i c h)
