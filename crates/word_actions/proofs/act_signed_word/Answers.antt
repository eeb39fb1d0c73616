-- All checks are one; then the letters act. Rests on SignedValues, algebra's WordSlices, and element_calls' SignedVerdicts and Calls.
use Rattle.std.proofs.Common.{rules, sym, ap₂, ◌∙◌}
use Rattle.algebra.proofs.WordSlices.{slice_element}
use Rattle.element_calls.specs.declared.Parameters.{Parameters}
use Rattle.element_calls.specs.Calls.{act_signed_word_call}
use Rattle.element_calls.proofs.SignedVerdicts.{signed_accepted}
use Rattle.element_calls.proofs.Calls.{write_done}
use Rattle.word_actions.specs.Steps.{signed_acted}
use Rattle.word_actions.proofs.SignedValues.{asked_is}
use Rattle.word_actions.proofs.act_signed_word.Goals as goal

pub act_signed_letters-requires : goal.act_signed_letters-requires
act_signed_letters-requires c =
    let g = signed_accepted _ _ _ _ (sym c.in_ok-check.ensures) in record { rank = g.0; letters = g.2; size = g.1 }

pub count_of_letters-requires : goal.count_of_letters-requires
count_of_letters-requires c = let g = signed_accepted _ _ _ _ (sym c.in_ok-check.ensures) in (g.3, g.0)

pub returns : goal.returns
unfolding act_signed_word_call
returns c =
    let u = c.args in
    let g = signed_accepted _ _ _ _ (sym c.in_ok-check.ensures) in
    write_done _ _ _ _ (sym c.in_ok-check.ensures)
    (c.act_signed_letters.ensures
    ∙ ap₂ (λ (a b : Parameters). signed_acted a b u.m u.word.now u.element.now) c.parameters_of-p.ensures c.inverse_parameters-back.ensures
    ∙ asked_is u.m u.q u.word.now u.element.now c.ranges.q.fits g.2 (slice_element g.1 (search rules)) g.4)
    c.count_of_letters.ensures
