-- A shortest word of a permutation, by its descents and not by its tower.
--
--   first_letters n m v   n letters for v of rank m: the least i for which s_i v is shorter than v, and then the first letters for s_i v
--   shortest_word m v     the first ℓ(v) letters for v: each makes what is left one shorter, until it is the identity
use Rattle.std.specs.Prelude.{List, [], ◌∷◌, ℕ, zero, suc}
use Rattle.lists.specs.Lists.{first}
use Rattle.perms.specs.Permutation.{product, generator, len, descent}

unfoldable pub first_letters : ℕ → ℕ → List ℕ → List ℕ
first_letters zero m v = []
first_letters (suc n) m v =
    let i = first (descent m v) 1 m in
    i ∷ first_letters n m (product (generator m i) v)

unfoldable pub shortest_word : ℕ → List ℕ → List ℕ
shortest_word m v = first_letters (len v) m v
