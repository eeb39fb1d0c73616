-- Where the sizes fit, the part, the sum and the multiple are written. Rests on lists' Test.
use mathlib.Core.Path.{◌≡◌, refl, ◌∙◌}
use mathlib.Core.Bool.{and-false}
use mathlib.Core.List.{List}
use Prim.Native.Nat.{ℕ, ◌+◌, ◌≤◌, ◌<◌}
use native.Mathlib.Omega.{arith}
use lib.ListN.{length, take, drop}
use lib.Seq.{take_all}
use Rattle.ring.specs.Modular.{words}
use Rattle.lists.proofs.Test.{same_yes, same_no, less_yes, less_no}
use Rattle.algebra.specs.Element.{plus, scale}
use Rattle.word_lists.specs.Into.{load_into, sum_into, scale_into}

pub load_into_lem : (d s : List ℕ) (at : ℕ) → at + length d ≤ length s → load_into d s at ≡ take (length d) (drop at s)
unfolding load_into
load_into_lem d s at h = rw (less_no h) refl

pub load_into_none : (d s : List ℕ) (at : ℕ) → length s < at + length d → load_into d s at ≡ d
unfolding load_into
load_into_none d s at h = rw (less_yes h) refl

pub load_whole : (d s : List ℕ) → length d ≡ length s → load_into d s 0 ≡ s
load_whole d s e = load_into_lem d s 0 (omega arith) ∙ take_all (length d) s (omega arith)

pub sum_into_lem : (d h g : List ℕ) → length d ≡ length h → length h ≡ length g → sum_into d h g ≡ plus ℕ words h g
unfolding sum_into
sum_into_lem d h g e f = rw (same_yes e, same_yes f) refl

-- the first two sizes differ, or the last two
pub sum_into_first : (d h g : List ℕ) → ¬ (length d ≡ length h) → sum_into d h g ≡ d
unfolding sum_into
sum_into_first d h g n = rw (same_no n) refl

pub sum_into_last : (d h g : List ℕ) → ¬ (length h ≡ length g) → sum_into d h g ≡ d
unfolding sum_into
sum_into_last d h g n = rw (same_no n, and-false) refl

pub scale_into_lem : (d : List ℕ) (c : ℕ) (s : List ℕ) → length d ≡ length s → scale_into d c s ≡ scale ℕ words c s
unfolding scale_into
scale_into_lem d c s e = rw (same_yes e) refl

pub scale_into_none : (d : List ℕ) (c : ℕ) (s : List ℕ) → ¬ (length d ≡ length s) → scale_into d c s ≡ d
unfolding scale_into
scale_into_none d c s n = rw (same_no n) refl
