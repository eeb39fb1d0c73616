-- The definition, computed: what the walk holds after no image, the first, and so on. Rests on the definitions alone.
use Rattle.std.proofs.Common.{◌≡◌, [], ◌∷◌, map, refl}
use Rattle.lists.specs.Lists.{same, less, range, first, tally, count}
use Rattle.perms.specs.Tower.{above, entry, tower_of}
use Rattle.perm_calls.specs.Calls.{bad_image}
use Rattle.image_walk.specs.Walk.{Entries, Bad, held}

good : map (held (3 ∷ 1 ∷ 4 ∷ 2 ∷ [])) (range 0 5) ≡ (Entries [] ∷ Entries [] ∷ Entries (1 ∷ []) ∷ Entries (1 ∷ 0 ∷ []) ∷ Entries (1 ∷ 0 ∷ 2 ∷ []) ∷ [])
unfolding same less range first tally count above entry tower_of bad_image held
good = refl

already_seen : map (held (2 ∷ 4 ∷ 2 ∷ 0 ∷ [])) (range 0 5) ≡ (Entries [] ∷ Entries [] ∷ Entries (0 ∷ []) ∷ Bad 2 ∷ Bad 2 ∷ [])
unfolding same less range first tally count above entry tower_of bad_image held
already_seen = refl

too_large : map (held (4 ∷ 1 ∷ 1 ∷ [])) (range 0 4) ≡ (Entries [] ∷ Bad 0 ∷ Bad 0 ∷ Bad 0 ∷ [])
unfolding same less range first tally count above entry tower_of bad_image held
too_large = refl

zero_image : map (held (1 ∷ 0 ∷ [])) (range 0 3) ≡ (Entries [] ∷ Entries [] ∷ Bad 1 ∷ [])
unfolding same less range first tally count above entry tower_of bad_image held
zero_image = refl
