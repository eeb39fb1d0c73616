-- The sizes of the slices of `associates`, for which no product is refused.
use Rattle.std.specs.Prelude.{◌≡◌, List, ℕ, suc, ◌+◌, ◌*◌, ◌≤◌, length}
use Rattle.lists.specs.Numbers.{factorial}

pub record Sizes (m : ℕ) (h g k part left right scratch : List ℕ) : Type 0 where
  pub rank : m ≤ 6
  pub h_size : length h ≡ factorial (suc m)
  pub g_size : length g ≡ factorial (suc m)
  pub k_size : length k ≡ factorial (suc m)
  pub part_size : length part ≡ factorial (suc m)
  pub left_size : length left ≡ factorial (suc m)
  pub right_size : length right ≡ factorial (suc m)
  pub scratch_size_lem : (m + 6) * factorial (suc m) ≤ length scratch
