-- What `act` leaves in the place of x, for the parameters p: where all fits x T_a(j,l), and else x as it was.
--
--   act_fits m j l n w   whether l ≤ j ≤ m ≤ 6, n is the number of words of an element of rank m and, for l ≥ 2, w words of work suffice
--   act_in p m j l w x   x T_a(j,l) in the place of x, with w words of work
use Rattle.std.specs.Prelude.{Bool, cond, not, ◌&&◌, List, ℕ, suc, length}
use Rattle.lists.specs.Lists.{same, less}
use Rattle.lists.specs.Numbers.{factorial}
use Rattle.element_calls.specs.declared.Parameters.{Parameters}
use Rattle.cycles.specs.Steps.{acted}

unfoldable pub act_fits : (m j l n w : ℕ) → Bool
act_fits m j l n w =
    let size = factorial (suc m) in not (less 6 m) && not (less m j) && not (less j l) && same n size && not (less 1 l && less w size)

unfoldable pub act_in : Parameters → (m j l w : ℕ) → List ℕ → List ℕ
act_in p m j l w x = cond (act_fits m j l (length x) w) (acted p m j l x) x
