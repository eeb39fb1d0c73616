-- What the inner functions of `towers` are lent.
--
--   OneTower t result        a tower t of at most 63 entries, and a buffer for a tower of its size
--   TwoTowers t u result     two towers of one size, at most 63 entries, and a buffer for a third
use Rattle.std.specs.Prelude.{◌≡◌, List, ℕ, ◌≤◌, length}
use Rattle.perms.specs.Tower.{Tower}

pub record OneTower (t result : List ℕ) : Type 0 where
  pub rank : length t ≤ 63
  pub tower : Tower (length t) t
  pub result_size : length result ≡ length t

pub record TwoTowers (t u result : List ℕ) : Type 0 where
  pub rank : length t ≤ 63
  pub left : Tower (length t) t
  pub right : Tower (length t) u
  pub result_size : length result ≡ length t
