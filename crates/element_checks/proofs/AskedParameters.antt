-- Which parameters the inverse letters of a word are given. Rests on Positions and lists' Test.
use Rattle.std.proofs.Common.{◌≡◌, refl, Bool, true, false, cond, ◌&&◌, List, ℕ, ℤ, pos, Some, None}
use Rattle.std.specs.List.{position}
use Rattle.std.specs.Option.{unwrap_or}
use Rattle.ring.specs.Modular.{word_modulus}
use Rattle.lists.proofs.Test.{less_yes, less_no}
use Rattle.inverses.specs.Inverses.{inverse, has_inverse, inverse_of}
use Rattle.signed_words.specs.Words.{is_below}
use Rattle.element_calls.specs.Coefficients.{parameters_of, inverse_parameters}
use Rattle.element_calls.specs.Calls.{first_below}
use Rattle.element_calls.specs.Steps.{asked_parameters}
use Rattle.element_checks.proofs.Positions.{found, found_none}

module _ (q : ℕ) (x : List ℤ) where
  pub asked_none : position is_below x ≡ None → parameters_of q ≡ asked_parameters q x
  unfolding asked_parameters first_below
  asked_none e = rw (less_no (found_none is_below (pos 0) x e)) refl

  pub asked_some : {i : ℕ} → position is_below x ≡ Some i → parameters_of (unwrap_or (inverse_of word_modulus q) q) ≡ asked_parameters q x
  unfolding asked_parameters first_below inverse_of
  asked_some e = let f = found is_below (pos 0) x e in rw (← f.0, less_yes f.1) (go (has_inverse word_modulus q))
    where
      go : (b : Bool) → parameters_of (unwrap_or (cond b (Some (inverse word_modulus q)) None) q) ≡ cond (true && b) (inverse_parameters q) (parameters_of q)
      go true = refl
      go false = refl
