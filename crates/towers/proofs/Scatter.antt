-- A loop that stores each point i + 1 at the index of its image makes the inverse. Rests on perms' Inverses.
use mathlib.Core.Path.{◌≡◌, ap, ◌∙◌}
use mathlib.Core.List.{List}
use Prim.Native.Nat.{ℕ, suc, pred, ◌+◌, ◌-◌, ◌≤◌, ◌<◌}
use native.Mathlib.Omega.{arith}
use lib.ListN.{length, get_or, set, length-set}
use lib.Seq.{get_or-set_same, get_or-set_other}
use Rattle.lists.proofs.Test.{SameView, is, isnt, same?}
use Rattle.perms.specs.Permutation.{Perm, inverse}
use Rattle.perms.proofs.Image.{perm_image, perm_distinct}
use Rattle.perms.proofs.Inverses.{inverse_of_scatter}

-- the first i points stand at their images' indexes
pub record Scattered (w points₀ points : List ℕ) (i : ℕ) : Type 0 where
  pub same : length points ≡ length points₀
  pub done : (k : ℕ) → k < i → get_or points (pred (get_or w k 0)) 0 ≡ suc k

pub scattered_more : {m : ℕ} (w points₀ points : List ℕ) (i : ℕ) → Perm m w → length points₀ ≡ length w → i < length w → Scattered w points₀ points i
    → Scattered w points₀ (set points (get_or w i 0 - 1) (i + 1)) (i + 1)
scattered_more {m} w points₀ points i p size h s = record { same = length-set points at (i + 1) ∙ s.same; done = λ k l. go k l (same? k i) }
  where
    at : ℕ
    at = get_or w i 0 - 1

    inside : at < length points
    inside = omega (arith, s.same, perm_image w p i h, p.size)

    go : (k : ℕ) → k < i + 1 → SameView k i → get_or (set points at (i + 1)) (pred (get_or w k 0)) 0 ≡ suc k
    go k l (is e f) = let here : pred (get_or w k 0) ≡ at = omega (arith, ap (λ n. get_or w n 0) e) in
        ap (λ n. get_or (set points at (i + 1)) n 0) here ∙ get_or-set_same points at (i + 1) 0 inside ∙ omega arith
    go k l (isnt n f) = get_or-set_other points at (pred (get_or w k 0)) (i + 1) 0 apart ∙ s.done k (omega arith)
      where
        apart : pred (get_or w k 0) ≡ at → ⊥
        apart e = n (perm_distinct w p k i (omega arith) h (omega (arith, perm_image w p k (omega arith), perm_image w p i h)))

pub scattered_all : {m : ℕ} (w points₀ points : List ℕ) (i : ℕ) → Perm m w → length points₀ ≡ length w → length w ≤ i → Scattered w points₀ points i → points ≡ inverse w
scattered_all w points₀ points i p size h s = inverse_of_scatter w points p (s.same ∙ size) (λ k l. s.done k (omega arith))
