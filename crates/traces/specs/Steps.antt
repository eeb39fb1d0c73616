-- What the inner functions require. No claim and no public contract cites it.
--
--   TracePre p m x   x is an element of rank m, at most 6, and the parameters p are coefficients
--   TurnPre m l x    x is an element of rank m, at most 6, and l is at most m, so that a(m, l) has a word
--   LevelPre m b x   x is m + 2 blocks of rank m and b words: an element of rank m + 1, at most 6
use Rattle.std.specs.Prelude.{◌≡◌, List, ℕ, suc, ◌+◌, ◌*◌, ◌≤◌, length}
use Rattle.lists.specs.Numbers.{factorial}
use Rattle.element_calls.specs.declared.Parameters.{Parameters}
use Rattle.element_calls.specs.Coefficients.{Coefficient}

pub record TracePre (p : Parameters) (m : ℕ) (x : List ℕ) : Type 0 where
  pub q_fits : Coefficient p p.q
  pub r_fits : Coefficient p p.r
  pub rank : m ≤ 6
  pub size : length x ≡ factorial (suc m)

pub record TurnPre (m l : ℕ) (x : List ℕ) : Type 0 where
  pub rank : m ≤ 6
  pub within : l ≤ m
  pub size : length x ≡ factorial (suc m)

pub record LevelPre (m b : ℕ) (x : List ℕ) : Type 0 where
  pub rank : m ≤ 5
  pub block_size : b ≡ factorial (suc m)
  pub size : length x ≡ (m + 2) * b
