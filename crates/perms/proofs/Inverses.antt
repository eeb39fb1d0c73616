-- The inverse at an index is the point whose image is there; it is the only list that holds each point at the index of its image. Rests on Image,
-- and lists' First and Range.
use mathlib.Core.Path.{◌≡◌, sym, ap, ◌∙◌}
use mathlib.Core.List.{List}
use Prim.Native.Nat.{ℕ, suc, pred, ◌≤◌, ◌<◌}
use native.Mathlib.Omega.{arith}
use lib.ListN.{length, get_or, length-map}
use lib.Seq.{ext_get_or}
use Rattle.lists.specs.Lists.{same, range, first}
use Rattle.lists.proofs.Test.{same_yes, same_true}
use Rattle.lists.proofs.First.{first_holds}
use Rattle.lists.proofs.Range.{length_range, get_or_range, get_or_map}
use Rattle.perms.specs.Permutation.{Perm, image, inverse}
use Rattle.perms.proofs.Image.{perm_image, At, perm_at, perm_distinct}

pub length_inverse : (w : List ℕ) → length (inverse w) ≡ length w
unfolding inverse
length_inverse w = length-map (range 1 (length w)) _ ∙ length_range 1 (length w)

pub image_inverse : {m : ℕ} (w : List ℕ) → Perm m w → (i : ℕ) → i < length w
    → (image w (get_or (inverse w) i 0) ≡ suc i) × (1 ≤ get_or (inverse w) i 0) × (get_or (inverse w) i 0 ≤ length w)
unfolding inverse
image_inverse w c i h = rw at_i (go (perm_at w c (suc i) (omega arith) (omega (arith, c.size))))
  where
    n : ℕ
    n = length w

    find : ℕ → ℕ
    find v = first (λ p. same (image w p) v) 1 n

    at_i : get_or (inverse w) i 0 ≡ find (suc i)
    at_i = get_or_map find (range 1 n) i 0 0 (omega (arith, length_range 1 n)) ∙ ap find (omega (arith, get_or_range 1 n i h))

    go : At (suc i) w → (image w (find (suc i)) ≡ suc i) × (1 ≤ find (suc i)) × (find (suc i) ≤ n)
    go r =
        let q = first_holds (λ p. same (image w p) (suc i)) 1 n (suc r.index) (omega arith) (omega arith) (same_yes r.there) in
        (same_true _ _ q.0, q.1, omega (arith, q.2))

pub inverse_at : {m : ℕ} (w : List ℕ) → Perm m w → (i : ℕ) → i < length w → get_or (inverse w) (pred (get_or w i 0)) 0 ≡ suc i
inverse_at w c i h =
    let v = perm_image w c i h in
    let q = image_inverse w c (pred (get_or w i 0)) (omega (arith, c.size)) in
    omega (arith, perm_distinct w c (pred (get_or (inverse w) (pred (get_or w i 0)) 0)) i (omega arith) h (omega arith))

pub inverse_of_scatter : {m : ℕ} (w out : List ℕ) → Perm m w → length out ≡ length w
    → ((i : ℕ) → i < length w → get_or out (pred (get_or w i 0)) 0 ≡ suc i) → out ≡ inverse w
inverse_of_scatter w out c s h = ext_get_or 0 out (inverse w) (s ∙ sym (length_inverse w)) (λ k l. at k (perm_at w c (suc k) (omega arith) (omega (arith, c.size))))
  where
    at : (k : ℕ) → At (suc k) w → get_or out k 0 ≡ get_or (inverse w) k 0
    at k r = (rw r.there at (h r.index r.inside)) ∙ sym (rw r.there at (inverse_at w c r.index r.inside))
