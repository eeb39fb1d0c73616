-- Factorials and sums of numbers.
--
--   factorial n     n!
--   series a n f    f(a) + f(a + 1) + .., n terms
use Rattle.std.specs.Prelude.{ℕ, zero, suc, ◌+◌, ◌*◌}

unfoldable pub factorial : ℕ → ℕ
factorial zero = 1
factorial (suc n) = suc n * factorial n

unfoldable pub series : ℕ → ℕ → (ℕ → ℕ) → ℕ
series a zero f = 0
series a (suc n) f = series a n f + f (a + n)
