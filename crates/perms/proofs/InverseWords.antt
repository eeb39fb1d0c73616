-- The inverse of a permutation: it undoes itself, turns products around, has the same length, and its shortest words are those of the permutation read
-- from the end. Rests on Group, Products, LeftRight, Word, Ascending, Reduced and Lengths.
use mathlib.Core.Path.{◌≡◌, sym, ap, ap₂, ◌∙◌}
use mathlib.Core.List.{List, [], ◌∷◌, reverse, reverse-cons}
use Prim.Native.Nat.{ℕ, ◌≤◌}
use native.Mathlib.Omega.{arith}
use lib.ListN.{length-reverse}
use Rattle.perms.specs.Permutation.{Perm, product, identity, inverse, generator, len, Letter, Word, of_word, Shortest}
use Rattle.perms.specs.Tower.{tower_of, standard}
use Rattle.perms.specs.Laws.{Group}
use Rattle.perms.proofs.Perm.{rgt, rgt_rgt}
use Rattle.perms.proofs.Identity.{perm_identity}
use Rattle.perms.proofs.Products.{product_generator, perm_generator, of_word_append, of_word_rgt}
use Rattle.perms.proofs.Word.{word_append}
use Rattle.perms.proofs.LeftRight.{perm_of_word}
use Rattle.perms.proofs.Ascending.{rgt_word_le}
use Rattle.perms.proofs.Reduced.{len_identity, short_perm}
use Rattle.perms.proofs.Group.{perm_product, perm_inverse, group}
use Rattle.perms.proofs.Lengths.{standard_shortest}

-- ---- in the group

module _ {m : ℕ} where
  G : Group m
  G = group m

  -- nothing but the inverse of v undoes v
  inverse_only : (u v : List ℕ) → Perm m u → Perm m v → product u v ≡ identity m → u ≡ inverse v
  inverse_only u v c d e =
      sym (G.identity_right u c)
      ∙ ap (product u) (sym (G.inverse_right v d))
      ∙ sym (G.assoc u v (inverse v) c d (perm_inverse v d))
      ∙ ap (λ w. product w (inverse v)) e
      ∙ G.identity_left (inverse v) (perm_inverse v d)

  pub inverse_inverse : (w : List ℕ) → Perm m w → inverse (inverse w) ≡ w
  inverse_inverse w c = sym (inverse_only w (inverse w) c (perm_inverse w c) (G.inverse_right w c))

  inverse_product : (u v : List ℕ) → Perm m u → Perm m v → inverse (product u v) ≡ product (inverse v) (inverse u)
  inverse_product u v c d =
      let c' = perm_inverse u c in
      let d' = perm_inverse v d in
      sym (inverse_only (product (inverse v) (inverse u)) (product u v) (perm_product _ _ d' c') (perm_product u v c d)
      (G.assoc (inverse v) (inverse u) (product u v) d' c' (perm_product u v c d)
      ∙ ap (product (inverse v)) (sym (G.assoc (inverse u) u v c' c d) ∙ ap (λ w. product w v) (G.inverse_left u c) ∙ G.identity_left v d)
      ∙ G.inverse_left v d))

  inverse_generator : (i : ℕ) → Letter m i → inverse (generator m i) ≡ generator m i
  unfolding generator rgt
  inverse_generator i l =
      let c = perm_generator l in
      sym (inverse_only (generator m i) (generator m i) c c (product_generator i (generator m i) c l ∙ rgt_rgt i (identity m)))

inverse_identity : (m : ℕ) → inverse (identity m) ≡ identity m
inverse_identity m = let c = perm_identity m in sym (inverse_only (identity m) (identity m) c c ((group m).identity_left (identity m) c))

-- ---- words

word_reverse : (m : ℕ) (x : List ℕ) → Word m x → Word m (reverse x)
word_reverse m [] a = tt
word_reverse m (i ∷ x) a = rw (reverse-cons i x) (word_append m (reverse x) (i ∷ []) (word_reverse m x a.1) (a.0, tt))

inverse_word : (m : ℕ) (x : List ℕ) → Word m x → inverse (of_word m x) ≡ of_word m (reverse x)
unfolding of_word
inverse_word m [] a = inverse_identity m
inverse_word m (i ∷ x) a =
    let c = perm_generator a.0 in
    inverse_product (generator m i) (of_word m x) c (perm_of_word m x a.1)
    ∙ ap₂ product (inverse_word m x a.1) (inverse_generator i a.0 ∙ sym ((group m).identity_right (generator m i) c))
    ∙ of_word_append m (reverse x) (i ∷ []) (word_reverse m x a.1)
    ∙ ap (of_word m) (sym (reverse-cons i x))

-- ---- lengths

len_inverse_le : {m : ℕ} (w : List ℕ) → Perm m w → len (inverse w) ≤ len w
len_inverse_le {m} w p =
    let x = standard (tower_of w) in
    let s = standard_shortest m w p in
    let y = word_reverse m x s.word in
    omega (
      arith,
      rgt_word_le (reverse x) (identity m) y (perm_identity m),
      ap len (ap inverse (sym s.makes) ∙ inverse_word m x s.word ∙ of_word_rgt m (reverse x) y),
      s.short,
      len_identity m,
      length-reverse x,
    )

pub len_inverse : {m : ℕ} (w : List ℕ) → Perm m w → len (inverse w) ≡ len w
len_inverse w p = omega (arith, len_inverse_le w p, len_inverse_le (inverse w) (perm_inverse w p), ap len (inverse_inverse w p))

pub short_inverse : {m : ℕ} {x w : List ℕ} → Shortest m x w → Shortest m (reverse x) (inverse w)
short_inverse {m} {x} {w} s = record {
  word = word_reverse m x s.word;
  makes = sym (inverse_word m x s.word) ∙ ap inverse s.makes;
  short = len_inverse w (short_perm s) ∙ s.short ∙ sym (length-reverse x);
}
