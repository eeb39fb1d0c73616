-- A word on either side of a permutation: on the right its letters act first to last, on the left last to first. Both keep permutations, and at
-- the identity both make the product of the word. Rests on Perm and Products.
use mathlib.Core.Path.{◌≡◌, refl, ap, ◌∙◌}
use mathlib.Core.List.{List, [], ◌∷◌}
use Prim.Native.Nat.{ℕ}
use Rattle.perms.specs.Permutation.{Perm, identity, Word, of_word}
use Rattle.perms.proofs.Perm.{rgt_word, lft, perm_rgt, perm_lft}
use Rattle.perms.proofs.Identity.{perm_identity}
use Rattle.perms.proofs.Products.{generator_product, of_word_rgt}

unfoldable pub lft_word : List ℕ → List ℕ → List ℕ
lft_word [] w = w
lft_word (i ∷ x) w = lft i (lft_word x w)

perm_rgt_word : {m : ℕ} (x : List ℕ) {w : List ℕ} → Word m x → Perm m w → Perm m (rgt_word x w)
unfolding rgt_word
perm_rgt_word [] a c = c
perm_rgt_word (i ∷ x) a c = perm_rgt_word x a.1 (perm_rgt a.0 c)

pub perm_lft_word : {m : ℕ} (x : List ℕ) {w : List ℕ} → Perm m w → Perm m (lft_word x w)
unfolding lft_word
perm_lft_word [] c = c
perm_lft_word (i ∷ x) c = perm_lft i (perm_lft_word x c)

pub perm_of_word : (m : ℕ) (x : List ℕ) → Word m x → Perm m (of_word m x)
perm_of_word m x a = rw (of_word_rgt m x a) (perm_rgt_word x a (perm_identity m))

pub of_word_lft : (m : ℕ) (x : List ℕ) → Word m x → of_word m x ≡ lft_word x (identity m)
unfolding of_word lft_word
of_word_lft m [] a = refl
of_word_lft m (i ∷ x) a = generator_product i (of_word m x) (perm_of_word m x a.1) a.0 ∙ ap (lft i) (of_word_lft m x a.1)
