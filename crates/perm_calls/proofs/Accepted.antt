-- The checks accept every permutation and every tower within document 01's sizes: the record `Checks`. Rests on Verdicts, ImageVerdicts and perms' Image.
use mathlib.Core.Path.{◌≡◌, refl, sym, ◌∙◌}
use mathlib.Core.Bool.{Bool, false}
use mathlib.Core.List.{List, [], ◌∷◌}
use Prim.Native.Nat.{ℕ, zero, suc, pred, ◌+◌, ◌≤◌, ◌<◌}
use native.Mathlib.Nat.{le_of_suc-le-suc}
use native.Mathlib.Omega.{arith}
use lib.ListN.{length, get_or, take}
use Rattle.lists.specs.Lists.{less, first, count, tally}
use Rattle.lists.proofs.Test.{same_no, less_no}
use Rattle.lists.proofs.First.{first_past}
use Rattle.perms.specs.Permutation.{Perm}
use Rattle.perms.specs.Tower.{Tower}
use Rattle.perms.proofs.Perm.{Dist, dist_tail, perm_dist}
use Rattle.perms.proofs.Image.{perm_image, dist_head}
use Rattle.perm_calls.specs.Calls.{bad_image, first_bad_image, first_bad_entry, images_verdict, entries_verdict, tower_verdict, towers_verdict}
use Rattle.perm_calls.specs.Claims.{Checks}
use Rattle.perm_calls.proofs.ImageVerdicts.{images_sized, images_accepted}
use Rattle.perm_calls.proofs.Verdicts.{towers_sized, tower_accepted, towers_accepted}
use Rattle.std.specs.Prelude.{Ok}

-- no image of a permutation stands before itself
count_take : (w : List ℕ) → Dist w → (i : ℕ) → i < length w → count (get_or w i 0) (take i w) ≡ 0
unfolding count tally
count_take [] d i h = absurd (omega arith)
count_take (x ∷ w) d zero h = refl
count_take (x ∷ w) d (suc i) h = rw (same_no (dist_head x w d i (le_of_suc-le-suc h))) (omega (arith, count_take w (dist_tail x w d) i (le_of_suc-le-suc h)))

accept_images : (w : List ℕ) → (1 ≤ length w) × (length w ≤ 64) × Perm (pred (length w)) w → images_verdict w ≡ Ok tt
unfolding first_bad_image bad_image
accept_images w p = images_sized w (omega (arith, p.0)) p.1 ∙ rw (less_no {x = first (bad_image w) 0 (length w)} {a = length w} none) refl
  where
    good : (i : ℕ) → 0 ≤ i → i < 0 + length w → bad_image w i ≡ false
    good i k l = let r = perm_image w p.2 i (omega arith) in
        rw (
          same_no {x = get_or w i 0} {a = 0} (omega (arith, r.0)),
          less_no {x = length w} {a = get_or w i 0} (omega (arith, r.1, p.0)),
          count_take w (perm_dist p.2) i (omega arith),
          less_no {x = 0} {a = 0} (omega arith),
        )
        refl

    none : length w ≤ first (bad_image w) 0 (length w)
    none = omega (arith, first_past (bad_image w) 0 (length w) good)

accept_entries : (t : List ℕ) → Tower (length t) t → entries_verdict t ≡ Ok tt
unfolding entries_verdict first_bad_entry
accept_entries t c = rw (less_no {x = first bad 0 (length t)} {a = length t} (omega (arith, first_past bad 0 (length t) (λ i k l. less_no (c.within i))))) refl
  where
    bad : ℕ → Bool
    bad i = less (suc i) (get_or t i 0)

pub accept_tower : (t : List ℕ) → (length t ≤ 63) × Tower (length t) t → tower_verdict t ≡ Ok tt
unfolding tower_verdict
accept_tower t c = rw (less_no c.0) (accept_entries t c.1)

accept_towers : (t u : List ℕ) → (length t ≤ 63) × Tower (length t) t × Tower (length t) u → towers_verdict t u ≡ Ok tt
accept_towers t u c =
    let same_size = c.2.size in
    towers_sized t u c.0 (omega (arith, c.0, same_size)) (sym same_size)
    ∙ rw (accept_entries t c.1) (accept_entries u (record { size = refl; within = c.2.within }))

pub checks : Checks
checks = record {
  images = λ w. (images_accepted w, accept_images w);
  tower = λ t. (tower_accepted t, accept_tower t);
  towers = λ t u. (towers_accepted t u, accept_towers t u);
}
