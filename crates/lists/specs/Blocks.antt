-- Lists cut into blocks of one size.
--
--   block B k h     block k, from 0, of a list that is cut into blocks of B elements
--   blocks n f      the lists f(0), f(1), .., f(n - 1), one after another
use Rattle.std.specs.Prelude.{List, [], ◌++◌, ℕ, zero, suc, ◌*◌, take, drop}

unfoldable pub block : {A : Type 0} → ℕ → ℕ → List A → List A
block B k h = take B (drop (k * B) h)

unfoldable pub blocks : {A : Type 0} → ℕ → (ℕ → List A) → List A
blocks zero f = []
blocks (suc n) f = blocks n f ++ f n
