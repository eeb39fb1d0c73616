-- Towers (document 01's word for inversion tables), standard words and masks (document 01, "Permutations and towers").
--
--   above x w         how many elements of w exceed x
--   entry j w         a_j: how many points before j + 1 have an image that exceeds that of j + 1
--   tower_of w        the tower (a_1, .., a_m) of w
--   Tower m t         t is a tower of rank m: m entries with a_j ≤ j
--   cycle j k         the word of a(j, k) = s_j s_(j-1) .. s_(j-k+1)
--   cycles j t        the words of a(j, b_1), a(j + 1, b_2), .. joined, for the entries b_1, b_2, .. of t
--   standard t        the standard word: the words of a(1, a_1) to a(m, a_m), joined
--   of_cycles m j t   the product of a(j, b_1), a(j + 1, b_2), .. as permutations of rank m
--   images_of t       the permutation of a tower: the product of a(1, a_1) to a(m, a_m)
--   total t           the sum of the entries
--   mask p m          the numbers i from 1 to m at which p holds, as a mask with i at bit i - 1
--   number p m        how many they are
use Rattle.std.specs.Prelude.{◌≡◌, Bool, List, [], ◌∷◌, ◌++◌, map, ℕ, zero, suc, pred, ◌+◌, ◌*◌, ◌^◌, ◌≤◌, length, get_or, take}
use Rattle.lists.specs.Lists.{less, bit, tally, range}
use Rattle.perms.specs.Permutation.{image, product, identity, of_word}

unfoldable pub above : ℕ → List ℕ → ℕ
above x w = tally (λ y. less x y) w

unfoldable pub entry : ℕ → List ℕ → ℕ
entry j w = above (image w (suc j)) (take j w)

unfoldable pub tower_of : List ℕ → List ℕ
tower_of w = map (λ j. entry j w) (range 1 (pred (length w)))

-- the entry at index i is a_(i+1)
pub record Tower (m : ℕ) (t : List ℕ) : Type 0 where
  pub size : length t ≡ m
  pub within : (i : ℕ) → get_or t i 0 ≤ suc i

unfoldable pub cycle : ℕ → ℕ → List ℕ
cycle j zero = []
cycle j (suc k) = j ∷ cycle (pred j) k

unfoldable pub cycles : ℕ → List ℕ → List ℕ
cycles j [] = []
cycles j (b ∷ t) = cycle j b ++ cycles (suc j) t

unfoldable pub standard : List ℕ → List ℕ
standard t = cycles 1 t

unfoldable pub of_cycles : ℕ → ℕ → List ℕ → List ℕ
of_cycles m j [] = identity m
of_cycles m j (b ∷ t) = product (of_word m (cycle j b)) (of_cycles m (suc j) t)

unfoldable pub images_of : List ℕ → List ℕ
images_of t = of_cycles (length t) 1 t

unfoldable pub total : List ℕ → ℕ
total [] = 0
total (a ∷ t) = a + total t

unfoldable pub mask : (ℕ → Bool) → ℕ → ℕ
mask p zero = 0
mask p (suc m) = mask p m + bit (p (suc m)) * 2 ^ m

unfoldable pub number : (ℕ → Bool) → ℕ → ℕ
number p zero = 0
number p (suc m) = number p m + bit (p (suc m))
