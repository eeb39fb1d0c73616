-- One letter in the place of an element, for the parameters p: where all fits the result, and else the element as it was.
--
--   lettered w p m j x    x T_j, or x times the inverse of T_j, for which p has q' and q' - 1; x is of rank m
--   letter_fits m j n     whether j is a letter of rank m, at most 6, and n the number of words of an element
--   letter_in w p m j x   what the letter j leaves in the place of x
--   LetterPre, EachLetterPre   what the inner functions require
use Rattle.std.specs.Prelude.{◌≡◌, Bool, cond, not, ◌&&◌, List, ℕ, suc, ◌*◌, ◌≤◌, length}
use Rattle.lists.specs.Lists.{same, less}
use Rattle.lists.specs.Numbers.{factorial}
use Rattle.perms.specs.Permutation.{Letter}
use Rattle.algebra.specs.Pairs.{on_pairs}
use Rattle.element_calls.specs.declared.Parameters.{Parameters}
use Rattle.element_calls.specs.Coefficients.{ring}
use Rattle.block_loops.specs.declared.Way.{Way}
use Rattle.block_loops.specs.InPlace.{exchanging}

abbrev pub lettered : Way → Parameters → (m j : ℕ) → List ℕ → List ℕ
lettered w p m j x = on_pairs ℕ (ring p) (exchanging w p) m j x

unfoldable pub letter_fits : (m j n : ℕ) → Bool
letter_fits m j n = not (same j 0) && not (less m j) && not (less 6 m) && same n (factorial (suc m))

unfoldable pub letter_in : Way → Parameters → (m j : ℕ) → List ℕ → List ℕ
letter_in w p m j x = cond (letter_fits m j (length x)) (lettered w p m j x) x

-- ---- what the inner functions require

pub record LetterPre (m j : ℕ) (x : List ℕ) : Type 0 where
  pub rank : m ≤ 6
  pub letter : Letter m j
  pub size : length x ≡ factorial (suc m)

-- x is n blocks of rank m and b words
pub record EachLetterPre (m b n j : ℕ) (x : List ℕ) : Type 0 where
  pub rank : m ≤ 5
  pub block_size : b ≡ factorial (suc m)
  pub letter : 1 ≤ n → Letter m j
  pub size : length x ≡ n * b
