-- The place of u a(m + 1, k) is that of u plus k times (m + 1)!. So a place of rank m is below (m + 1)!, and a permutation is known by its place.
-- Rests on Enumeration, lists' Series and perms' Tower.
use mathlib.Core.Path.{◌≡◌, sym, ap, ap₂, ◌∙◌}
use mathlib.Core.List.{List}
use Prim.Native.Nat.{ℕ, zero, suc, pred, ◌+◌, ◌-◌, ◌*◌, ◌/◌, ◌%◌, ◌≤◌, ◌<◌}
use native.Mathlib.Omega.{arith}
use lib.ListN.{length}
use lib.Arith.{digits_lt, digits_div, digits_mod}
use Rattle.lists.specs.Numbers.{factorial, series}
use Rattle.lists.proofs.Series.{series_cong}
use Rattle.perms.specs.Permutation.{Perm}
use Rattle.perms.specs.Extend.{extend}
use Rattle.perms.specs.Tower.{entry}
use Rattle.perms.proofs.Extend.{length_extend}
use Rattle.perms.proofs.Split.{Tail, perm_zero}
use Rattle.perms.proofs.Tower.{entry_extend, entry_last}
use Rattle.algebra.specs.Place.{place, join}
use Rattle.algebra.proofs.Enumeration.{join_extend, Joined, joined}

-- ---- the place of a joined permutation

place_extend : {m : ℕ} (c : ℕ) (u : List ℕ) → Tail m c u → place (extend c u) ≡ place u + (m + 2 - c) * factorial (suc m)
unfolding place series
place_extend {m} c u t = rw (longer, shorter) (ap₂ ◌+◌ (series_cong 1 m _ _ same) (ap₂ (λ a j. a * factorial j) last (omega arith)))
  where
    longer : pred (length (extend c u)) ≡ suc m
    longer = omega (arith, length_extend c u, t.rest.size)

    shorter : pred (length u) ≡ m
    shorter = omega (arith, t.rest.size)

    same : (i : ℕ) → i < m → entry (1 + i) (extend c u) * factorial (1 + i) ≡ entry (1 + i) u * factorial (1 + i)
    same i h = ap (λ a. a * factorial (1 + i)) (entry_extend c (1 + i) u (omega (arith, t.rest.size)))

    last : entry (1 + m) (extend c u) ≡ m + 2 - c
    last = ap (λ j. entry j (extend c u)) (omega (arith, t.rest.size)) ∙ entry_last c u t

pub place_join : {m : ℕ} (k : ℕ) (u : List ℕ) → k ≤ suc m → Perm m u → place (join m k u) ≡ place u + k * factorial (suc m)
place_join {m} k u h p =
    ap place (join_extend k u h p)
    ∙ place_extend (m + 2 - k) u (record { low = omega arith; high = omega arith; rest = p })
    ∙ ap (λ d. place u + d * factorial (suc m)) (omega arith)

-- ---- a permutation is known by its place

pub place_below : (m : ℕ) (w : List ℕ) → Perm m w → place w < factorial (suc m)
unfolding place series factorial
place_below zero w p = rw (perm_zero w p) (omega arith)
place_below (suc m) w p = go (place_below m) (joined w p)
  where
    go : ((u : List ℕ) → Perm m u → place u < factorial (suc m)) → Joined m w → place w < suc (suc m) * factorial (suc m)
    go ih j =
        let k : j.last < suc (suc m) = omega (arith, j.small) in
        omega (arith, ap place j.whole ∙ place_join j.last j.rest j.small j.perm, digits_lt k (ih j.rest j.perm))

pub place_injective : (m : ℕ) (v w : List ℕ) → Perm m v → Perm m w → place v ≡ place w → v ≡ w
place_injective zero v w p q e = perm_zero v p ∙ sym (perm_zero w q)
place_injective (suc m) v w p q e = go (place_injective m) (joined v p) (joined w q)
  where
    F : ℕ
    F = factorial (suc m)

    digits : {x : List ℕ} → (j : Joined m x) → place x ≡ j.last * F + place j.rest
    digits j = ap place j.whole ∙ place_join j.last j.rest j.small j.perm ∙ omega arith

    go : ((v w : List ℕ) → Perm m v → Perm m w → place v ≡ place w → v ≡ w) → Joined m v → Joined m w → v ≡ w
    go ih j k = j.whole ∙ ap₂ (join m) last (ih j.rest k.rest j.perm k.perm rest) ∙ sym k.whole
      where
        same : j.last * F + place j.rest ≡ k.last * F + place k.rest
        same = sym (digits j) ∙ e ∙ digits k

        low : place j.rest < F
        low = place_below m j.rest j.perm

        low' : place k.rest < F
        low' = place_below m k.rest k.perm

        last : j.last ≡ k.last
        last = sym (digits_div j.last low) ∙ ap (λ n. n / F) same ∙ digits_div k.last low'

        rest : place j.rest ≡ place k.rest
        rest = sym (digits_mod j.last low) ∙ ap (λ n. n % F) same ∙ digits_mod k.last low'
