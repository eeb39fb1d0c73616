-- Products of image lists: a generator on either side and a word on the right act as in Perm, and a product of words is the joined word. Rests on
-- Image and lists' Range.
use mathlib.Core.Path.{◌≡◌, sym, ap, ◌∙◌}
use mathlib.Core.List.{List, [], ◌∷◌, ◌++◌, map, map-map, map-id}
use Prim.Native.Nat.{ℕ, zero, suc, pred, ◌+◌, ◌≤◌, ◌<◌}
use native.Mathlib.Nat.{le_of_suc-le-suc}
use native.Mathlib.Omega.{arith}
use lib.ListN.{length, get_or, length-map}
use lib.Seq.{ext_get_or}
use Rattle.lists.proofs.Range.{get_or_range, get_or_map}
use Rattle.perms.specs.Permutation.{Perm, image, product, identity, swap, generator, Letter, Word, of_word}
use Rattle.perms.proofs.Swap.{swap_off, swap_lo, swap_hi, swap_suc}
use Rattle.perms.proofs.Perm.{rgt, rgt_word, swap_at, lft, swap_at_length, perm_rgt}
use Rattle.perms.proofs.Identity.{perm_identity}
use Rattle.perms.proofs.Image.{perm_image}

-- ---- images

pub length_product : (u v : List ℕ) → length (product u v) ≡ length u
unfolding product
length_product u v = length-map u (image v)

-- with i = p - 1: the image of p under uv is the image under v of that under u
pub image_product : (u v : List ℕ) (i : ℕ) → i < length u → get_or (product u v) i 0 ≡ image v (get_or u i 0)
unfolding product
image_product u v i h = get_or_map (image v) u i 0 0 h

pub image_identity : (m p : ℕ) → 1 ≤ p → p ≤ m + 1 → image (identity m) p ≡ p
unfolding identity
image_identity m p a b = omega (arith, get_or_range 1 (m + 1) (pred p) (omega arith))

image_generator : (m i p : ℕ) → 1 ≤ p → p ≤ m + 1 → image (generator m i) p ≡ swap i p
unfolding generator
image_generator m i p a b =
    get_or_map (swap i) (identity m) (pred p) 0 0 (omega (arith, (perm_identity m).size))
    ∙ ap (swap i) (image_identity m p a b)

-- two functions that agree on the points do the same to a permutation
map_perm : {m : ℕ} (f g : ℕ → ℕ) (w : List ℕ) → Perm m w → ((p : ℕ) → 1 ≤ p → p ≤ m + 1 → f p ≡ g p) → map f w ≡ map g w
map_perm f g w c h = ext_get_or 0 (map f w) (map g w) (length-map w f ∙ sym (length-map w g)) (λ i k. at i (omega (arith, length-map w f)))
  where
    at : (i : ℕ) → i < length w → get_or (map f w) i 0 ≡ get_or (map g w) i 0
    at i k = let p = perm_image w c i k in get_or_map f w i 0 0 k ∙ h (get_or w i 0) p.0 p.1 ∙ sym (get_or_map g w i 0 0 k)

-- ---- the laws of the product

pub product_assoc : {m : ℕ} (u v w : List ℕ) → Perm m u → length v ≡ m + 1 → product (product u v) w ≡ product u (product v w)
unfolding product
product_assoc u v w c s = map-map (image w) (image v) u ∙ map_perm _ _ u c (λ p a b. sym (image_product v w (pred p) (omega arith)))

pub product_identity : {m : ℕ} (w : List ℕ) → Perm m w → product w (identity m) ≡ w
unfolding product
product_identity {m} w c = map_perm (image (identity m)) (λ p. p) w c (image_identity m) ∙ map-id w

pub identity_product : (m : ℕ) (w : List ℕ) → length w ≡ m + 1 → product (identity m) w ≡ w
identity_product m w s = ext_get_or 0 (product (identity m) w) w (size ∙ sym s) (λ i h. at i (omega (arith, size)))
  where
    size : length (product (identity m) w) ≡ m + 1
    size = length_product (identity m) w ∙ (perm_identity m).size

    at : (i : ℕ) → i < m + 1 → get_or (product (identity m) w) i 0 ≡ get_or w i 0
    at i h = image_product (identity m) w i (omega (arith, (perm_identity m).size)) ∙ ap (image w) (image_identity m (suc i) (omega arith) (omega arith))

-- ---- generators

length_generator : (m i : ℕ) → length (generator m i) ≡ m + 1
unfolding generator
length_generator m i = length-map (identity m) (swap i) ∙ (perm_identity m).size

pub perm_generator : {m i : ℕ} → Letter m i → Perm m (generator m i)
unfolding generator rgt
perm_generator l = perm_rgt l (perm_identity _)

pub product_generator : {m : ℕ} (i : ℕ) (w : List ℕ) → Perm m w → Letter m i → product w (generator m i) ≡ rgt i w
unfolding product rgt
product_generator {m} i w c l = map_perm (image (generator m i)) (swap i) w c (image_generator m i)

pub get_or_swap_at : (p : ℕ) (w : List ℕ) (k : ℕ) → suc p < length w → get_or (swap_at p w) k 0 ≡ get_or w (swap p k) 0
get_or_swap_at p [] k h = absurd (omega arith)
get_or_swap_at zero (x ∷ []) k h = absurd (omega arith)
get_or_swap_at zero (x ∷ y ∷ w) zero h = ap (λ n. get_or (x ∷ y ∷ w) n 0) (sym (swap_lo 0))
get_or_swap_at zero (x ∷ y ∷ w) (suc zero) h = ap (λ n. get_or (x ∷ y ∷ w) n 0) (sym (swap_hi 0))
get_or_swap_at zero (x ∷ y ∷ w) (suc (suc k)) h = ap (λ n. get_or (x ∷ y ∷ w) n 0) (sym (swap_off 0 (suc (suc k)) (omega arith) (omega arith)))
get_or_swap_at (suc p) (x ∷ w) zero h = ap (λ n. get_or (x ∷ w) n 0) (sym (swap_off (suc p) 0 (omega arith) (omega arith)))
get_or_swap_at (suc p) (x ∷ w) (suc k) h = get_or_swap_at p w k (le_of_suc-le-suc h) ∙ ap (λ n. get_or (x ∷ w) n 0) (sym (swap_suc p k))

pub generator_product : {m : ℕ} (i : ℕ) (w : List ℕ) → Perm m w → Letter m i → product (generator m i) w ≡ lft i w
unfolding lft
generator_product zero w c l = absurd (omega arith)
generator_product {m} (suc p) w c l = ext_get_or 0 (product g w) (swap_at p w) (size ∙ sym (swap_at_length p w ∙ c.size)) (λ k h. at k (omega (arith, size)))
  where
    g : List ℕ
    g = generator m (suc p)

    size : length (product g w) ≡ m + 1
    size = length_product g w ∙ length_generator m (suc p)

    at : (k : ℕ) → k < m + 1 → get_or (product g w) k 0 ≡ get_or (swap_at p w) k 0
    at k h =
        image_product g w k (omega (arith, length_generator m (suc p)))
        ∙ ap (image w) (image_generator m (suc p) (suc k) (omega arith) (omega arith) ∙ swap_suc p k)
        ∙ sym (get_or_swap_at p w k (omega (arith, c.size, l.high)))

-- ---- words

length_of_word : (m : ℕ) (x : List ℕ) → length (of_word m x) ≡ m + 1
unfolding of_word
length_of_word m [] = (perm_identity m).size
length_of_word m (i ∷ x) = length_product (generator m i) (of_word m x) ∙ length_generator m i

pub product_of_word : {m : ℕ} (x u : List ℕ) → Word m x → Perm m u → product u (of_word m x) ≡ rgt_word x u
unfolding of_word rgt_word
product_of_word [] u a c = product_identity u c
product_of_word {m} (i ∷ x) u a c =
    sym (product_assoc u (generator m i) (of_word m x) c (length_generator m i))
    ∙ ap (λ v. product v (of_word m x)) (product_generator i u c a.0)
    ∙ product_of_word x (rgt i u) a.1 (perm_rgt a.0 c)

pub of_word_rgt : (m : ℕ) (x : List ℕ) → Word m x → of_word m x ≡ rgt_word x (identity m)
of_word_rgt m x a = sym (identity_product m (of_word m x) (length_of_word m x)) ∙ product_of_word x (identity m) a (perm_identity m)

pub of_word_append : (m : ℕ) (x y : List ℕ) → Word m x → product (of_word m x) (of_word m y) ≡ of_word m (x ++ y)
unfolding of_word
of_word_append m [] y a = identity_product m (of_word m y) (length_of_word m y)
of_word_append m (i ∷ x) y a =
    product_assoc (generator m i) (of_word m x) (of_word m y) (perm_generator a.0) (length_of_word m x)
    ∙ ap (product (generator m i)) (of_word_append m x y a.1)
