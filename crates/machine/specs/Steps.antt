-- What the inner functions of the machine do, and what lemmas about registers ask.
--
--   Registers m size x   the registers of a sheet of rank m, and M
--   cleared m n x        the list in which each of the first n registers begins with the zero element of rank m
use Rattle.std.specs.Prelude.{◌≡◌, List, ℕ, zero, suc, ◌≤◌, length}
use Rattle.lists.specs.Numbers.{factorial}
use Rattle.machine.specs.Registers.{put, zeros}

pub record Registers (m size : ℕ) (x : List ℕ) : Type 0 where
  pub low : m ≤ 5
  pub whole : size ≡ factorial (suc m)
  pub four : length x ≡ 2880

unfoldable pub cleared : ℕ → ℕ → List ℕ → List ℕ
cleared m zero x = x
cleared m (suc n) x = put n (zeros m) (cleared m n x)
