-- An image list with one more point: the vocabulary of an inner contract, which no public contract cites.
--
--   bump c v        v with room made for c: one more from c on
--   extend c u      u with room made for the value c, which is put last
use Rattle.std.specs.Prelude.{cond, List, [], ◌∷◌, ℕ, suc}
use Rattle.lists.specs.Lists.{less}

unfoldable pub bump : ℕ → ℕ → ℕ
bump c v = cond (less v c) v (suc v)

unfoldable pub extend : ℕ → List ℕ → List ℕ
extend c [] = c ∷ []
extend c (x ∷ u) = bump c x ∷ extend c u
