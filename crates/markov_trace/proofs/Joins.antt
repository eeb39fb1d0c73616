-- The permutations u a(m + 1, k) of rank m + 1, for u of rank m: u and k are known by it; a shortest word of u is one of that with k = 0; and a generator
-- of rank m on the left acts on u alone. Rests on perms' Extend, HigherRank and Products, and algebra's Enumeration and Place.
use mathlib.Core.Path.{◌≡◌, refl, sym, ap, ap₂, ◌∙◌, subst}
use mathlib.Core.List.{List, [], ◌∷◌}
use Prim.Native.Nat.{ℕ, zero, suc, pred, ◌+◌, ◌-◌, ◌*◌, ◌/◌, ◌%◌, ◌≤◌, ◌<◌}
use native.Mathlib.Nat.{le_of_suc-le-suc}
use native.Mathlib.Omega.{arith}
use lib.ListN.{length, get_or}
use lib.Arith.{digits_div, digits_mod}
use Rattle.lists.specs.Lists.{less}
use Rattle.lists.specs.Numbers.{factorial}
use Rattle.perms.specs.Permutation.{Perm, product, identity, Letter, of_word, Shortest}
use Rattle.perms.specs.Tower.{cycle}
use Rattle.perms.specs.Extend.{bump, extend}
use Rattle.perms.specs.Laws.{a}
use Rattle.perms.proofs.Perm.{lft, swap_at, perm_lft}
use Rattle.perms.proofs.Image.{perm_image}
use Rattle.perms.proofs.Identity.{perm_identity}
use Rattle.perms.proofs.Products.{identity_product}
use Rattle.perms.proofs.Word.{word_cycle}
use Rattle.perms.proofs.LeftRight.{perm_of_word}
use Rattle.perms.proofs.Ascent.{asc_l}
use Rattle.perms.proofs.Reduced.{short_perm, short_nil}
use Rattle.perms.proofs.Extend.{extend_snoc, less_bump, identity_suc}
use Rattle.perms.proofs.HigherRank.{higher, short_up}
use Rattle.perms.proofs.Tower.{get_or_extend}
use Rattle.algebra.specs.Place.{place, join}
use Rattle.algebra.proofs.Enumeration.{join_extend}
use Rattle.algebra.proofs.Place.{place_join, place_below, place_injective}

-- ---- u and k are known

module _ {m : ℕ} (k l : ℕ) (u v : List ℕ) (hk : k ≤ suc m) (hl : l ≤ suc m) (c : Perm m u) (d : Perm m v) (e : join m k u ≡ join m l v) where
  abbrev F : ℕ
  F = factorial (suc m)

  digits : k * F + place u ≡ l * F + place v
  digits = omega (arith, place_join k u hk c, place_join l v hl d, ap place e)

  pub join_last : k ≡ l
  join_last = sym (digits_div k (place_below m u c)) ∙ ap (λ n. n / F) digits ∙ digits_div l (place_below m v d)

  pub join_rest : u ≡ v
  join_rest = place_injective m u v c d (sym (digits_mod k (place_below m u c)) ∙ ap (λ n. n % F) digits ∙ digits_mod l (place_below m v d))

-- ---- words

pub short_join : {m : ℕ} {x v : List ℕ} → Shortest m x v → Shortest (suc m) x (join m 0 v)
unfolding higher
short_join {m} {x} {v} s = subst (Shortest (suc m) x) whole (short_up (omega arith) s)
  where
    whole : higher m (suc m - m) v ≡ join m 0 v
    whole =
        let one : suc m - m ≡ 1 = omega arith in
        let last : m + 0 + 2 ≡ m + 2 - 0 = omega arith in
        ap (λ k. higher m k v) one ∙ ap (λ c. extend c v) last ∙ sym (join_extend 0 v (omega arith) (short_perm s))

pub identity_join : (m : ℕ) → identity (suc m) ≡ join m 0 (identity m)
unfolding of_word
identity_join m = (short_join (short_nil m)).makes

pub cycle_join : (m k : ℕ) → k ≤ suc m → a (suc m) (suc m) k ≡ join m k (identity m)
unfolding join
cycle_join m k h =
    let x = cycle (suc m) k in
    sym (identity_product (suc m) (of_word (suc m) x) (perm_of_word (suc m) x (word_cycle (suc m) (suc m) k (omega arith) h)).size)
    ∙ ap (λ w. product w (of_word (suc m) x)) (identity_suc m ∙ extend_snoc (m + 2) (identity m) (λ i l. omega (arith, perm_image (identity m) (perm_identity m) i l)))

-- ---- on the left

swap_at_extend : (c p : ℕ) (u : List ℕ) → suc p < length u → swap_at p (extend c u) ≡ extend c (swap_at p u)
unfolding extend
swap_at_extend c zero [] h = absurd (omega arith)
swap_at_extend c zero (x ∷ []) h = absurd (omega arith)
swap_at_extend c zero (x ∷ y ∷ u) h = refl
swap_at_extend c (suc p) [] h = absurd (omega arith)
swap_at_extend c (suc p) (x ∷ u) h = ap {B = List ℕ} (λ w. bump c x ∷ w) (swap_at_extend c p u (le_of_suc-le-suc h))

module _ {m : ℕ} (k i : ℕ) (u : List ℕ) (h : k ≤ suc m) (l : Letter m i) (d : Perm m u) where
  abbrev c : ℕ
  c = m + 2 - k

  pub lft_join : lft i (join m k u) ≡ join m k (lft i u)
  unfolding lft
  lft_join =
      ap (lft i) (join_extend k u h d)
      ∙ swap_at_extend c (pred i) u (omega (arith, d.size))
      ∙ sym (join_extend k (lft i u) h (perm_lft i d))

  pub asc_l_join : asc_l i (join m k u) ≡ asc_l i u
  unfolding asc_l
  asc_l_join =
      ap (asc_l i) (join_extend k u h d)
      ∙ ap₂ less (get_or_extend c (pred i) u (omega (arith, d.size))) (get_or_extend c i u (omega (arith, d.size)))
      ∙ less_bump c (get_or u (pred i) 0) (get_or u i 0)
