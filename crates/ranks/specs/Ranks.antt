-- Sizes and counts of a rank (document 01, "Elements and their product" and "The count").
--
--   size m            M = (m + 1)! for the ranks 0 to 6, and 0 above them
--   needed m          the scratch of a product: (m + 6) M words
--   scratch_size m    the same for the ranks 0 to 6, and 0 above them
--   product_count m   C(m, m) for the ranks 0 to 6, and 0 above them
use Rattle.std.specs.Prelude.{cond, ℕ, suc, ◌+◌, ◌*◌}
use Rattle.lists.specs.Lists.{less}
use Rattle.lists.specs.Numbers.{factorial}
use Rattle.algebra.specs.Cost.{C}

unfoldable pub size : ℕ → ℕ
size m = cond (less 6 m) 0 (factorial (suc m))

unfoldable pub needed : ℕ → ℕ
needed m = (m + 6) * factorial (suc m)

unfoldable pub scratch_size : ℕ → ℕ
scratch_size m = cond (less 6 m) 0 (needed m)

unfoldable pub product_count : ℕ → ℕ
product_count m = cond (less 6 m) 0 (C m m)
