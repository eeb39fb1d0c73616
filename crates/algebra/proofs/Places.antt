-- The places of `perms m` are 0, 1, .. up to (m + 1)! - 1, in this order. So there are (m + 1)! permutations of rank m, each at its place.
-- Rests on Place and lists' Blocks.
use mathlib.Core.Path.{◌≡◌, refl, sym, ap, ◌∙◌}
use mathlib.Core.List.{List, [], ◌++◌, map, map-map}
use Prim.Native.Nat.{ℕ, zero, suc, ◌+◌, ◌*◌, ◌<◌}
use native.Mathlib.Nat.{zero-add, zero-mul, suc-mul}
use native.Mathlib.Omega.{arith}
use lib.ListN
use lib.ListN.{length, get_or, length-map}
use Rattle.lists.specs.Lists.{range}
use Rattle.lists.specs.Numbers.{factorial, series}
use Rattle.lists.specs.Blocks.{blocks}
use Rattle.lists.proofs.Range.{length_range, get_or_range, get_or_map, range_append, range_shift}
use Rattle.lists.proofs.All.{map_all, all_get_or}
use Rattle.lists.proofs.Blocks.{map_blocks, blocks_cong}
use Rattle.perms.specs.Permutation.{Perm, identity}
use Rattle.algebra.specs.Place.{place, join, perms}
use Rattle.algebra.proofs.Enumeration.{perms_perm}
use Rattle.algebra.proofs.Place.{place_join, place_below, place_injective}

range_blocks : (B n : ℕ) → blocks n (λ k. range (k * B) B) ≡ range 0 (n * B)
unfolding blocks range
range_blocks B zero = ap (range 0) (sym (zero-mul B))
range_blocks B (suc n) =
    ap {B = List ℕ} (λ t. t ++ range (n * B) B) (range_blocks B n)
    ∙ ap (λ a. range 0 (n * B) ++ range a B) (sym (zero-add (n * B)))
    ∙ sym (ap (range 0) (suc-mul n B) ∙ range_append 0 (n * B) B)

-- ---- places

places : (m : ℕ) → map place (perms m) ≡ range 0 (factorial (suc m))
unfolding perms identity place series range factorial
places zero = refl
places (suc m) =
    map_blocks place (m + 2) (λ k. map (join m k) (perms m))
    ∙ blocks_cong (m + 2) _ _ (λ k h. each k (omega arith) (places m))
    ∙ range_blocks F (m + 2)
    ∙ ap (λ n. range 0 (n * F)) (omega arith)
  where
    F : ℕ
    F = factorial (suc m)

    each : (k : ℕ) → k < suc (suc m) → map place (perms m) ≡ range 0 F → map place (map (join m k) (perms m)) ≡ range (k * F) F
    each k h ih =
        map-map place (join m k) (perms m)
        ∙ map_all (Perm m) (λ u. place (join m k u)) (λ u. place u + k * F) (λ u p. place_join k u (omega arith) p) (perms m) (perms_perm m)
        ∙ sym (map-map (λ p. p + k * F) place (perms m))
        ∙ ap (map (λ p. p + k * F)) ih
        ∙ range_shift (k * F) 0 F
        ∙ ap (λ b. range b F) (zero-add (k * F))

pub length_perms : (m : ℕ) → length (perms m) ≡ factorial (suc m)
length_perms m = sym (length-map (perms m) place) ∙ ap length (places m) ∙ length_range 0 (factorial (suc m))

pub place_at : (m i : ℕ) → i < factorial (suc m) → place (get_or (perms m) i []) ≡ i
unfolding place series
place_at m i h = sym (ListN.get_or-map place (perms m) i []) ∙ ap (λ s. get_or s i 0) (places m) ∙ get_or_range 0 (factorial (suc m)) i h ∙ zero-add i

pub at_place : (m : ℕ) (w : List ℕ) → Perm m w → get_or (perms m) (place w) [] ≡ w
at_place m w p =
    let h : place w < factorial (suc m) = place_below m w p in
    place_injective m (get_or (perms m) (place w) []) w (all_get_or (Perm m) (perms m) (place w) [] (omega (arith, length_perms m)) (perms_perm m)) p
    (place_at m (place w) h)

-- what a list of values has at a permutation's place
pub map_at_place : {A : Type 0} (m : ℕ) (F : List ℕ → A) (z : A) (w : List ℕ) → Perm m w → get_or (map F (perms m)) (place w) z ≡ F w
map_at_place m F z w p = get_or_map F (perms m) (place w) [] z (omega (arith, length_perms m, place_below m w p)) ∙ ap F (at_place m w p)
