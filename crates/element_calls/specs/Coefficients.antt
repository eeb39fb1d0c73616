-- The ring of the coefficients and the parameters of the algebra, as one value (document 01, "Elements and their product"), and those of the inverse of
-- q (document 02, Ticket 1). Code and contracts hand on a struct `Parameters` of q and r.
--
--   modulus p         the modulus of sums and products of coefficients: 2^64
--   ring p            the operations on coefficients
--   Coefficient p x   x is a coefficient: a number below the modulus
--   parameters_of q   q, and r = q - 1
--   inverse_parameters q   q' and q' - 1, for the inverse q' of q; where q has none, they stand for nothing
use Rattle.std.specs.Prelude.{ℕ, ◌<◌}
use Rattle.ring.specs.Ring.{Ops}
use Rattle.ring.specs.Modular.{word_modulus, modular, words}
use Rattle.inverses.specs.Inverses.{inverse}
use Rattle.algebra.specs.Product.{minus_one}
use Rattle.element_calls.specs.declared.Parameters.{Parameters}

unfoldable pub modulus : Parameters → ℕ
modulus p = word_modulus

abbrev pub ring : Parameters → Ops ℕ
ring p = modular (modulus p)

abbrev pub Coefficient : Parameters → ℕ → Type 0
Coefficient p x = x < modulus p

abbrev pub parameters_of : ℕ → Parameters
parameters_of q = record { q = q; r = minus_one ℕ words q }

abbrev pub inverse_parameters : ℕ → Parameters
inverse_parameters q = parameters_of (inverse word_modulus q)
