-- The walk over the permutations of rank m: the vocabulary of the inner contracts, which no public contract cites.
--
--   by_length q m a g    the sum over w of q to the power ℓ(w) times a_w times g(w), for any operations o on A
--   lower w j            of an image list w: how many of the points 1 to j have an image below that of j + 1
--   fall f w             the sum over j of f(j) times `lower w j`
--   found t b f w        b at the index t less the fall of the inverse of w by the weights f
--   walked q m t a b f   the sum over w by length, of a_w times what is found
--   WalkPre m t a b f    a has a rank m from 1 to 6, and the weights f let one fall from the index t of b by no more than t
--   PairPre m a b        two elements of rank m, at most 6
use Rattle.std.specs.Prelude.{◌≡◌, List, ℕ, suc, ◌-◌, ◌*◌, ◌≤◌, ◌<◌, length, get_or}
use Rattle.ring.specs.Ring.{Ops}
use Rattle.ring.specs.Sum.{sum}
use Rattle.ring.specs.Modular.{words}
use Rattle.lists.specs.Lists.{less, bit}
use Rattle.lists.specs.Numbers.{factorial, series}
use Rattle.perms.specs.Permutation.{inverse, len}
use Rattle.algebra.specs.Place.{perms}
use Rattle.algebra.specs.Element.{coefficient}
use Rattle.algebra.specs.Pairing.{power}

unfoldable pub by_length : (A : Type 0) (o : Ops A) → A → ℕ → List A → (List ℕ → A) → A
by_length A o q m a g = sum A o (perms m) (λ w. o.mul (power A o q (len w)) (o.mul (coefficient A o a w) (g w)))

unfoldable pub lower : List ℕ → ℕ → ℕ
lower w j = series 0 j (λ i. bit (less (get_or w i 0) (get_or w j 0)))

unfoldable pub fall : (ℕ → ℕ) → List ℕ → ℕ
fall f w = series 0 (length w) (λ j. f j * lower w j)

unfoldable pub found : (top : ℕ) (b weights : List ℕ) → List ℕ → ℕ
found top b weights w = get_or b (top - fall (λ j. get_or weights j 0) (inverse w)) 0

unfoldable pub walked : (q m top : ℕ) (a b weights : List ℕ) → ℕ
walked q m top a b weights = by_length ℕ words q m a (found top b weights)

pub record WalkPre (m top : ℕ) (a b weights : List ℕ) : Type 0 where
  pub some : 1 ≤ m
  pub low : m ≤ 6
  pub left : length a ≡ factorial (suc m)
  pub within : top < length b
  pub reach : series 0 (suc m) (λ j. get_or weights j 0 * j) ≤ top

pub record PairPre (m : ℕ) (a b : List ℕ) : Type 0 where
  pub low : m ≤ 6
  pub left : length a ≡ factorial (suc m)
  pub right : length b ≡ factorial (suc m)
