-- What document 01 says of the order of the coefficients: the record `Order` for every rank. Rests on Enumeration, Place, Places and lists' Blocks.
use mathlib.Core.Path.{◌≡◌, sym, ap, ◌∙◌}
use mathlib.Core.List.{List}
use Prim.Native.Nat.{ℕ, suc, ◌+◌, ◌*◌, ◌≤◌}
use native.Mathlib.Omega.{arith}
use lib.ListN.{length, get_or, drop}
use lib.Seq.{get_or-take, get_or-drop}
use Rattle.ring.specs.Ring.{Ops}
use Rattle.lists.specs.Numbers.{factorial}
use Rattle.lists.specs.Blocks.{block, blocks}
use Rattle.lists.proofs.Blocks.{block_length, by_blocks}
use Rattle.perms.specs.Permutation.{Perm}
use Rattle.algebra.specs.Place.{place, join}
use Rattle.algebra.specs.Element.{coefficient}
use Rattle.algebra.specs.Laws.{Order}
use Rattle.algebra.proofs.Enumeration.{perms_perm}
use Rattle.algebra.proofs.Place.{place_join, place_below}
use Rattle.algebra.proofs.Places.{length_perms, place_at, at_place}

module _ (A : Type 0) (o : Ops A) where
  pub coefficient_block : {m : ℕ} (h : List A) (k : ℕ) (u : List ℕ) → k ≤ suc m → Perm m u
      → coefficient A o h (join m k u) ≡ coefficient A o (block (factorial (suc m)) k h) u
  unfolding coefficient block
  coefficient_block {m} h k u l p =
      ap (λ i. get_or h i o.zero) there
      ∙ sym (get_or-take F (drop (k * F) h) (place u) o.zero (place_below m u p) ∙ get_or-drop (k * F) h (place u) o.zero)
    where
      F : ℕ
      F = factorial (suc m)

      there : place (join m k u) ≡ k * F + place u
      there = omega (arith, place_join k u l p)

  whole : (m : ℕ) (h : List A) → length h ≡ factorial (suc (suc m)) → h ≡ blocks (m + 2) (λ k. block (factorial (suc m)) k h)
  unfolding factorial
  whole m h e = let x : suc (suc m) ≡ m + 2 = omega arith in
      by_blocks (factorial (suc m)) (suc (suc m)) h e ∙ ap (λ n. blocks n (λ k. block (factorial (suc m)) k h)) x

  pub order : (m : ℕ) → Order A o m
  unfolding factorial
  order m = record {
    perm = perms_perm m;
    number = length_perms m;
    place_below = place_below m;
    at_place = at_place m;
    place_at = place_at m;
    whole = whole m;
    block_size = λ h k e l. block_length (factorial (suc m)) (suc (suc m)) k h (omega arith) e;
    block_at = coefficient_block;
  }
