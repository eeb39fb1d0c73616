-- A word as a function on points: its letters move a point one after another. The product of a word takes each point where the word does. Rests
-- on Word and Products.
use mathlib.Core.Path.{◌≡◌, refl, sym, ap, ◌∙◌, fun_ext}
use mathlib.Core.List.{List, [], ◌∷◌, ◌++◌, map, map-map, map-id}
use Prim.Native.Nat.{ℕ}
use Rattle.perms.specs.Permutation.{product, identity, swap, Word, of_word}
use Rattle.perms.proofs.Swap.{swap_swap}
use Rattle.perms.proofs.Perm.{rgt, rgt_word}
use Rattle.perms.proofs.Word.{word_append}
use Rattle.perms.proofs.Products.{of_word_rgt, of_word_append}

unfoldable pub walk : List ℕ → ℕ → ℕ
walk [] v = v
walk (i ∷ x) v = walk x (swap i v)

pub walk_injective : (x : List ℕ) (u v : ℕ) → walk x u ≡ walk x v → u ≡ v
unfolding walk
walk_injective [] u v e = e
walk_injective (i ∷ x) u v e = sym (swap_swap i u) ∙ ap (swap i) (walk_injective x (swap i u) (swap i v) e) ∙ swap_swap i v

pub walk_append : (x y : List ℕ) (v : ℕ) → walk (x ++ y) v ≡ walk y (walk x v)
unfolding walk
walk_append [] y v = refl
walk_append (i ∷ x) y v = walk_append x y (swap i v)

rgt_word_walk : (x w : List ℕ) → rgt_word x w ≡ map (walk x) w
unfolding rgt_word rgt walk
rgt_word_walk [] w = sym (map-id w)
rgt_word_walk (i ∷ x) w = rgt_word_walk x (map (swap i) w) ∙ map-map (walk x) (swap i) w

pub of_word_walk : (m : ℕ) (x : List ℕ) → Word m x → of_word m x ≡ map (walk x) (identity m)
of_word_walk m x a = of_word_rgt m x a ∙ rgt_word_walk x (identity m)

pub product_walk : (m : ℕ) (x y : List ℕ) → Word m x → Word m y → product (of_word m x) (of_word m y) ≡ map (λ v. walk y (walk x v)) (identity m)
product_walk m x y a b =
    of_word_append m x y a
    ∙ of_word_walk m (x ++ y) (word_append m x y a b)
    ∙ ap (λ f. map f (identity m)) (fun_ext (walk_append x y))
