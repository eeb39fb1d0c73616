-- The length of a permutation is the sum of its tower, and the standard word has as many letters: it is a shortest word. Rests on ImagesOf.
use mathlib.Core.Path.{◌≡◌, refl, sym, ap, ap₂, ◌∙◌}
use mathlib.Core.List.{List, [], ◌∷◌, ◌++◌}
use Prim.Native.Nat.{ℕ, zero, suc, ◌+◌, ◌-◌}
use native.Mathlib.Omega.{arith}
use lib.ListN.{length, length-append}
use Rattle.lists.specs.Lists.{less, bit, range, tally}
use Rattle.perms.specs.Permutation.{Perm, below, len, Shortest}
use Rattle.perms.specs.Extend.{bump, extend}
use Rattle.perms.specs.Tower.{above, tower_of, Tower, cycle, cycles, standard, images_of, total}
use Rattle.perms.proofs.Word.{length_cycle}
use Rattle.perms.proofs.Extend.{less_bump, less_room}
use Rattle.perms.proofs.Split.{Tail, Apart, split, perm_zero}
use Rattle.perms.proofs.Tower.{tower_is, above_perm, tower_extend}
use Rattle.perms.proofs.Standard.{word_standard, images_of_word}
use Rattle.perms.proofs.ImagesOf.{perm_is, there_and_back, back_and_there}

-- ---- the length of an extended list

below_extend : (c x : ℕ) (u : List ℕ) → below (bump c x) (extend c u) ≡ below x u + bit (less c (bump c x))
unfolding below extend tally
below_extend c x [] = omega arith
below_extend c x (y ∷ u) = rw (less_bump c y x) (omega (arith, below_extend c x u))

len_above : (c : ℕ) (u : List ℕ) → len (extend (suc c) u) ≡ len u + above c u
unfolding len extend above below tally
len_above c [] = refl
len_above c (x ∷ u) = omega (arith, below_extend (suc c) x u, ap bit (less_room c x), len_above c u)

len_extend : {m : ℕ} (c : ℕ) (u : List ℕ) → Tail m c u → len (extend c u) ≡ len u + (m + 2 - c)
len_extend zero u t = absurd (omega (arith, t.low))
len_extend {m} (suc c) u t = len_above c u ∙ ap (λ n. len u + n) (above_perm u t.rest (m + 2 - suc c) c (omega (arith, t.high)))

-- ---- the length and the tower

total_snoc : (a : ℕ) (t : List ℕ) → total (t ++ (a ∷ [])) ≡ total t + a
unfolding total
total_snoc a [] = omega arith
total_snoc a (b ∷ t) = omega (arith, total_snoc a t)

pub length_total : (m : ℕ) (w : List ℕ) → Perm m w → total (tower_of w) ≡ len w
unfolding total tower_of range len below tally
length_total zero w p = rw (perm_zero w p)
length_total (suc m) w p = go (length_total m) (split w p)
  where
    go : ((u : List ℕ) → Perm m u → total (tower_of u) ≡ len u) → Apart m w → total (tower_of w) ≡ len w
    go ih a =
        let t : Tail m a.top a.rest = a.fit in
        ap (λ v. total (tower_of v)) a.whole
        ∙ ap total (tower_extend a.top a.rest t)
        ∙ total_snoc (m + 2 - a.top) (tower_of a.rest)
        ∙ ap (λ n. n + (m + 2 - a.top)) (ih a.rest t.rest)
        ∙ sym (ap len a.whole ∙ len_extend a.top a.rest t)

pub len_images_of : (t : List ℕ) → Tower (length t) t → len (images_of t) ≡ total t
len_images_of t c = sym (length_total (length t) (images_of t) (perm_is (length t) t c)) ∙ ap total (back_and_there (length t) t c)

-- ---- the standard word

length_cycles : (j : ℕ) (t : List ℕ) → length (cycles j t) ≡ total t
unfolding cycles total
length_cycles j [] = refl
length_cycles j (b ∷ t) = length-append (cycle j b) (cycles (suc j) t) ∙ ap₂ ◌+◌ (length_cycle j b) (length_cycles (suc j) t)

pub length_standard : (t : List ℕ) → length (standard t) ≡ total t
unfolding standard
length_standard t = length_cycles 1 t

pub standard_shortest : (m : ℕ) (w : List ℕ) → Perm m w → Shortest m (standard (tower_of w)) w
standard_shortest m w p = record {
  word = word_standard (tower_of w) (tower_is m w p);
  makes = sym (images_of_word (tower_of w) (tower_is m w p)) ∙ there_and_back m w p;
  short = sym (length_standard (tower_of w) ∙ length_total m w p);
}
