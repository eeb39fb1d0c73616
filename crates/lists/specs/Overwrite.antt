-- A list with some of its elements replaced.
--
--   overwrite at h x   the list x with h in the place of its elements from an index on
use Rattle.std.specs.Prelude.{List, ◌++◌, ℕ, ◌+◌, length, take, drop}

unfoldable pub overwrite : ℕ → List ℕ → List ℕ → List ℕ
overwrite at h x = take at x ++ (h ++ drop (at + length h) x)
