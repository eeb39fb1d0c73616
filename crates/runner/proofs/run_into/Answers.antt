-- The sheet and the registers are judged, the registers cleared, and the commands obeyed. Rests on Ran.
use Rattle.std.proofs.Common.{◌≡◌, Err, length, replicate, refl, sym, ap, ◌∙◌, rules}
use Rattle.std.proofs.lemmas.Result.{err_from_is_err_and}
use Rattle.refusals.specs.declared.Refusal.{Refusal}
use Rattle.refusals.specs.declared.Answer.{Answer}
use Rattle.runner.proofs.Ran.{sheet_refused, registers_refused, run_done}
use Rattle.runner.proofs.run_into.Goals as goal

pub returns-in_err-header : goal.returns-in_err-header
returns-in_err-header c =
    let r = err_from_is_err_and {T = Answer} {E = Refusal} {Q = λ y. y ≡ c.in_err-header.field-0.0} _ c.from_residual.ensures.1 in
    sheet_refused _ _ (sym c.begin.ensures ∙ c.in_err-header.was) (r.1 ∙ ap Err r.2)

pub returns-in_default : goal.returns-in_default
returns-in_default c = registers_refused _ _ (sym c.begin.ensures ∙ c.in_ok-header.was) c.in_default.ensures.cases refl

pub returns : goal.returns
returns c = let w = c.in-Some.ensures.cases in
    run_done _ _ (sym c.begin.ensures ∙ c.in_ok-header.was) w.long
    (c.fill.ensures.after (search rules) ∙ ap (λ x. replicate (length x) 0) w.same) c.obey_all-count.ensures refl
