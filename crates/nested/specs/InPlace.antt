-- What `product` leaves in the place of its result, for the parameters p: where all fits the product, and else the result as it was.
--
--   product_fits m h g out n   whether h, g and out are the numbers of words of elements of rank m, at most 6, and n words of scratch suffice
--   product_in p m n out h g   h g in the place of out, with n words of scratch
use Rattle.std.specs.Prelude.{Bool, cond, not, ◌&&◌, List, ℕ, suc, ◌*◌, length}
use Rattle.lists.specs.Lists.{same, less}
use Rattle.lists.specs.Numbers.{factorial}
use Rattle.element_calls.specs.declared.Parameters.{Parameters}
use Rattle.nested.specs.Steps.{multiplied}

unfoldable pub product_fits : (m h g out n : ℕ) → Bool
product_fits m h g out n =
    let size = factorial (suc m) in not (less 6 m) && same h size && same g size && same out size && not (less n (m * size))

unfoldable pub product_in : Parameters → (m n : ℕ) (out h g : List ℕ) → List ℕ
product_in p m n out h g = cond (product_fits m (length h) (length g) (length out) n) (multiplied p m m h g) out
