-- The order of the coefficients (document 01, "Elements and their product").
--
--   place w         where the coefficient of T_w stands: the sum of a_j times j!, for the tower (a_1, .., a_m) of w. It is the number whose
--                   digits in the factorial number system are the entries of the tower
--   join m k u      u a(m + 1, k), where u of rank m is taken as the permutation of rank m + 1 that also fixes the point m + 2
--   perms m         the permutations of rank m by rising place: for k = 0 to m in turn, u a(m, k) for all u of rank m - 1
use Rattle.std.specs.Prelude.{List, [], ◌∷◌, ◌++◌, map, ℕ, zero, suc, pred, ◌+◌, ◌*◌, length}
use Rattle.lists.specs.Numbers.{factorial, series}
use Rattle.lists.specs.Blocks.{blocks}
use Rattle.perms.specs.Permutation.{product, identity}
use Rattle.perms.specs.Tower.{entry}
use Rattle.perms.specs.Laws.{a}

unfoldable pub place : List ℕ → ℕ
place w = series 1 (pred (length w)) (λ j. entry j w * factorial j)

unfoldable pub join : ℕ → ℕ → List ℕ → List ℕ
join m k u = product (u ++ ((m + 2) ∷ [])) (a (suc m) (suc m) k)

unfoldable pub perms : ℕ → List (List ℕ)
perms zero = identity 0 ∷ []
perms (suc m) = blocks (m + 2) (λ k. map (join m k) (perms m))
