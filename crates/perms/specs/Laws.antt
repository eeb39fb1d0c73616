-- What document 01 says of permutations and towers, as claims about the definitions, for every rank.
--
--   Group            the permutations of rank m are a group under the product
--   at t i           the entry a_i of a tower t, with a_0 = 0
--   Towers           towers and permutations undo each other; tower product and inverse; lengths, standard words and descents
--   ByDescents       the word that is found by descents is a shortest word
--   a m j k          a(j, k) as a permutation of rank m
--   Proposition2_6   the four lines on a(m, k) a(j, l), for 1 ≤ j ≤ m, k ≤ m and l ≤ j
use Rattle.std.specs.Prelude.{◌≡◌, ◌↔◌, true, List, ◌∷◌, ℕ, pred, ◌+◌, ◌-◌, ◌≤◌, ◌<◌, get_or}
use Rattle.perms.specs.Permutation.{Perm, product, identity, inverse, generator, len, descent, Letter, of_word, Shortest}
use Rattle.perms.specs.ShortestWord.{shortest_word}
use Rattle.perms.specs.Tower.{tower_of, Tower, cycle, standard, images_of, total}

pub record Group (m : ℕ) : Type 0 where
  pub product_perm : (u v : List ℕ) → Perm m u → Perm m v → Perm m (product u v)
  pub identity_perm : Perm m (identity m)
  pub inverse_perm : (w : List ℕ) → Perm m w → Perm m (inverse w)
  pub generator_perm : (i : ℕ) → Letter m i → Perm m (generator m i)
  pub assoc : (u v w : List ℕ) → Perm m u → Perm m v → Perm m w → product (product u v) w ≡ product u (product v w)
  pub identity_left : (w : List ℕ) → Perm m w → product (identity m) w ≡ w
  pub identity_right : (w : List ℕ) → Perm m w → product w (identity m) ≡ w
  pub inverse_left : (w : List ℕ) → Perm m w → product (inverse w) w ≡ identity m
  pub inverse_right : (w : List ℕ) → Perm m w → product w (inverse w) ≡ identity m

abbrev pub at : List ℕ → ℕ → ℕ
at t i = get_or (0 ∷ t) i 0

pub record Towers (m : ℕ) : Type 0 where
  pub tower_is : (w : List ℕ) → Perm m w → Tower m (tower_of w)
  pub perm_is : (t : List ℕ) → Tower m t → Perm m (images_of t)
  pub there_and_back : (w : List ℕ) → Perm m w → images_of (tower_of w) ≡ w
  pub back_and_there : (t : List ℕ) → Tower m t → tower_of (images_of t) ≡ t
  pub inverse_tower : (t : List ℕ) → Tower m t → images_of (tower_of (inverse (images_of t))) ≡ inverse (images_of t)
  pub product_tower : (t u : List ℕ) → Tower m t → Tower m u → images_of (tower_of (product (images_of t) (images_of u))) ≡ product (images_of t) (images_of u)
  pub length_total : (w : List ℕ) → Perm m w → total (tower_of w) ≡ len w
  pub standard_shortest : (w : List ℕ) → Perm m w → Shortest m (standard (tower_of w)) w
  pub descents : (w : List ℕ) → Perm m w → (i : ℕ) → Letter m i → (descent m w i ≡ true) ↔ (at (tower_of w) (pred i) < at (tower_of w) i)

abbrev pub ByDescents : ℕ → Type 0
ByDescents m = (v : List ℕ) → Perm m v → Shortest m (shortest_word m v) v

abbrev pub a : ℕ → ℕ → ℕ → List ℕ
a m j k = of_word m (cycle j k)

pub record Proposition2_6 (m j k l : ℕ) : Type 0 where
  pub apart : k < m - j → product (a m m k) (a m j l) ≡ product (a m j l) (a m m k)
  pub joined : k ≡ m - j → product (a m m k) (a m j l) ≡ a m m (k + l)
  pub crossed : m - j < k → k ≤ m - j + l → product (a m m k) (a m j l) ≡ product (a m (j - 1) (l - 1)) (a m m (k - 1))
  pub passed : m - j + l < k → product (a m m k) (a m j l) ≡ product (a m (j - 1) l) (a m m k)
