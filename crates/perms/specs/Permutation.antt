-- Permutations as image lists (document 01, "Permutations and towers").
--
--   Perm m w         w is a permutation of rank m: m + 1 images, each of the points 1 to m + 1 once
--   image w p        the image of the point p
--   product u v      uv, read left to right: u acts first
--   identity m       the permutation that fixes 1 to m + 1
--   inverse w        takes each point to the one whose image under w it is
--   swap i v         the image of the point v under s_i
--   generator m i    s_i as a permutation of rank m
--   below x w        how many elements of w are below x
--   len w            the length: pairs of points i < j whose images stand in falling order
--   descent m w i    the test whether s_i is in the descent set of w: ℓ(s_i w) < ℓ(w)
--   Letter m i       i is from 1 to m, and names s_i
--   Word m x         x is a list of letters
--   of_word m x      the product of the generators that x names, left to right
--   Shortest m x w   x is a shortest word (reduced word) of w
use Rattle.std.specs.Prelude.{◌≡◌, Bool, cond, List, [], ◌∷◌, map, ℕ, suc, pred, ◌+◌, ◌≤◌, ◌<◌, length, get_or}
use Rattle.lists.specs.Lists.{same, less, range, first, All, tally, count}

-- ---- permutations

pub record Perm (m : ℕ) (w : List ℕ) : Type 0 where
  pub size : length w ≡ m + 1
  pub once : (v : ℕ) → 1 ≤ v → v ≤ m + 1 → count v w ≡ 1
  pub none : (v : ℕ) → m + 1 < v → count v w ≡ 0
  pub zeroth : count 0 w ≡ 0

abbrev pub image : List ℕ → ℕ → ℕ
image w p = get_or w (pred p) 0

unfoldable pub product : List ℕ → List ℕ → List ℕ
product u v = map (image v) u

unfoldable pub identity : ℕ → List ℕ
identity m = range 1 (m + 1)

unfoldable pub inverse : List ℕ → List ℕ
inverse w = map (λ v. first (λ p. same (image w p) v) 1 (length w)) (range 1 (length w))

unfoldable pub swap : ℕ → ℕ → ℕ
swap i v = cond (same v i) (suc i) (cond (same v (suc i)) i v)

unfoldable pub generator : ℕ → ℕ → List ℕ
generator m i = map (swap i) (identity m)

-- ---- length and descents

unfoldable pub below : ℕ → List ℕ → ℕ
below x w = tally (λ y. less y x) w

unfoldable pub len : List ℕ → ℕ
len [] = 0
len (x ∷ w) = below x w + len w

unfoldable pub descent : ℕ → List ℕ → ℕ → Bool
descent m w i = less (len (product (generator m i) w)) (len w)

-- ---- words

pub record Letter (m i : ℕ) : Type 0 where
  pub low : 1 ≤ i
  pub high : i ≤ m

abbrev pub Word : ℕ → List ℕ → Type 0
Word m x = All (Letter m) x

unfoldable pub of_word : ℕ → List ℕ → List ℕ
of_word m [] = identity m
of_word m (i ∷ x) = product (generator m i) (of_word m x)

pub record Shortest (m : ℕ) (x w : List ℕ) : Type 0 where
  pub word : Word m x
  pub makes : of_word m x ≡ w
  pub short : len w ≡ length x
