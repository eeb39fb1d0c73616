-- The vocabulary of the contract of `inverse_parameters` of `element_checks`; no claim cites it.
--
--   asked_parameters q x    the parameters that the action of the word x of signed letters takes for its inverse letters: those of the inverse of q where
--                           a letter is below 0 and q has an inverse, else those of q
use Rattle.std.specs.Prelude.{cond, ◌&&◌, List, ℕ, length, ℤ}
use Rattle.ring.specs.Modular.{word_modulus}
use Rattle.lists.specs.Lists.{less}
use Rattle.inverses.specs.Inverses.{has_inverse}
use Rattle.element_calls.specs.declared.Parameters.{Parameters}
use Rattle.element_calls.specs.Coefficients.{parameters_of, inverse_parameters}
use Rattle.element_calls.specs.Calls.{first_below}

unfoldable pub asked_parameters : ℕ → List ℤ → Parameters
asked_parameters q x = cond (less (first_below x) (length x) && has_inverse word_modulus q) (inverse_parameters q) (parameters_of q)
