-- Numbers and bytes that are read.
--
--   number x                     the number of the bytes x, the lowest first
--   Below size r                 if r is a number, then size is at most 8, and the number below 256^size
--   Front size before after x    x is the next bytes of an input, as many as the size says: before them it has `before` left, and then `after`
use Rattle.std.specs.Prelude.{List, [], ◌∷◌, ℕ, ◌+◌, ◌*◌, ◌^◌, ◌≡◌, ◌≤◌, ◌<◌, length, Option, Some, None}
use Rattle.std.specs.Io.KnownBytes.{Consumes}

unfoldable pub number : List ℕ → ℕ
number [] = 0
number (b ∷ x) = b + 256 * number x

abbrev pub Below : ℕ → Option ℕ → Type 0
Below size (Some n) = (size ≤ 8) × (n < 256 ^ size)
Below size None = Unit {0}

abbrev pub Front : ℕ → Option (List ℕ) → Option (List ℕ) → List ℕ → Type 0
Front size before after x = (length x ≡ size) × Consumes before after x
