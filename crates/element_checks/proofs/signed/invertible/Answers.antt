-- A word without a letter below 0 needs no inverse. Rests on Positions and element_calls' InverseVerdicts.
use Rattle.std.proofs.Common.{refl, sym, ◌∙◌, pos}
use Rattle.signed_words.specs.Words.{is_below}
use Rattle.element_calls.specs.Calls.{first_below}
use Rattle.element_calls.proofs.InverseVerdicts.{has_one, none_below, some_below}
use Rattle.element_checks.proofs.Positions.{found, found_none}
use Rattle.element_checks.proofs.signed.invertible.Goals as goal

pub returns-then-has_inverse : goal.returns-then-has_inverse
returns-then-has_inverse c = has_one _ _ (sym c.has_inverse.ensures ∙ c.if-has_inverse.true)

pub returns-in-Some : goal.returns-in-Some
unfolding first_below
returns-in-Some c =
    let f = found is_below (pos 0) _ (sym c.first_below.ensures ∙ c.in-Some.is) in
    some_below _ _ (sym c.has_inverse.ensures ∙ c.if-has_inverse.false) f.0 f.1

pub returns-in-None : goal.returns-in-None
unfolding first_below
returns-in-None c = none_below _ _ refl (found_none is_below (pos 0) _ (sym c.first_below.ensures ∙ c.in-None.is))
