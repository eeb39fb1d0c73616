-- The inverse is found where a letter asks for it. Rests on AskedParameters.
use Rattle.std.proofs.Common.{sym, ap, ◌∙◌}
use Rattle.std.specs.Option.{unwrap_or}
use Rattle.element_calls.specs.Coefficients.{parameters_of}
use Rattle.element_checks.proofs.AskedParameters.{asked_none, asked_some}
use Rattle.element_checks.proofs.signed.inverse_parameters.Goals as goal

pub returns-in-Some : goal.returns-in-Some
returns-in-Some c =
    c.parameters_of.ensures
    ∙ ap parameters_of (c.unwrap_or.ensures ∙ ap (λ o. unwrap_or o c.args.q) c.inverse_of.ensures)
    ∙ asked_some _ _ (sym c.first_below.ensures ∙ c.in-Some.is)

pub returns-in-None : goal.returns-in-None
returns-in-None c = c.parameters_of-in-None.ensures ∙ asked_none _ _ (sym c.first_below.ensures ∙ c.in-None.is)
