-- The first entries of a tower are the tower of the first images. Rests on Tower.
use mathlib.Core.Path.{◌≡◌, sym, ap₂, ◌∙◌}
use mathlib.Core.List.{List}
use Prim.Native.Nat.{ℕ, suc, pred, ◌≤◌, ◌<◌}
use native.Mathlib.Omega.{arith}
use lib.ListN.{length, get_or, take}
use lib.Seq.{length-take-le, get_or-take, take-take, ext_get_or}
use Rattle.perms.specs.Tower.{above, entry, tower_of}
use Rattle.perms.proofs.Tower.{get_or_tower, length_tower}

entry_take : (w : List ℕ) (i j : ℕ) → i < j → entry i (take j w) ≡ entry i w
unfolding entry
entry_take w i j h = ap₂ above (get_or-take j w i 0 h) (take-take i j w (omega arith))

pub get_or_tower_prefix : (w : List ℕ) (j k : ℕ) → j ≤ length w → suc k < j → get_or (tower_of (take j w)) k 0 ≡ entry (suc k) w
get_or_tower_prefix w j k l h = get_or_tower (take j w) k (omega (arith, length-take-le j w l)) ∙ entry_take w (suc k) j h

pub length_tower_prefix : (w : List ℕ) (j : ℕ) → j ≤ length w → length (tower_of (take j w)) ≡ pred j
length_tower_prefix w j l = length_tower (take j w) ∙ omega (arith, length-take-le j w l)

pub tower_prefix : (w : List ℕ) (j : ℕ) → j ≤ length w → tower_of (take j w) ≡ take (pred j) (tower_of w)
tower_prefix w j l = ext_get_or 0 (tower_of (take j w)) (take (pred j) (tower_of w)) (size ∙ sym long) at
  where
    size : length (tower_of (take j w)) ≡ pred j
    size = length_tower_prefix w j l

    long : length (take (pred j) (tower_of w)) ≡ pred j
    long = length-take-le (pred j) (tower_of w) (omega (arith, length_tower w))

    at : (k : ℕ) → k < length (tower_of (take j w)) → get_or (tower_of (take j w)) k 0 ≡ get_or (take (pred j) (tower_of w)) k 0
    at k h =
        let low : suc k < j = omega (arith, size) in
        get_or_tower_prefix w j k l low ∙ sym (get_or-take (pred j) (tower_of w) k 0 (omega arith) ∙ get_or_tower w k (omega arith))
