-- Each return is one of the tests. Rests on lists' Test and operands' Allowed.
use Rattle.std.proofs.Common.{◌≡◌, true, ℕ, Ok, length, sym, ap, ◌∙◌}
use Rattle.lists.proofs.Test.{same_yes}
use Rattle.operands.specs.Operands.{may_run}
use Rattle.operands.proofs.Allowed.{in_range_lem}
use Rattle.costs.specs.Costs.{cost, cost_call}
use Rattle.machine.specs.Step.{obey, not_obeyed, step_call}
use Rattle.machine.proofs.step.Goals as goal

pub returns-then-not-may_run : goal.returns-then-not-may_run
unfolding step_call
returns-then-not-may_run c =
    rw (sym c.may_run.ensures ∙ c.if-not-may_run.true)
    (ap (λ x. record { answer = not_obeyed {A = ℕ}; lent = x }) (sym c.in-Some.ensures.cases.same))

pub returns : goal.returns
unfolding step_call cost_call
returns c =
    let u = c.args in
    let w = c.in-Some.ensures.cases in
    let runs : may_run u.header u.command ≡ true = sym c.may_run.ensures ∙ c.if-not-may_run.false in
    -- what `cost` answered
    let counted : cost u.header.rank u.command ≡ c.cost.result = sym (rw (in_range_lem u.header u.command runs) at c.cost.ensures) in
    let made = ap (obey u.header u.command) (sym w.same) ∙ sym c.obey.ensures in
    rw (runs, same_yes {x = length u.x.now} {a = 2880} w.long) (λ i. record { answer = Ok (counted i); lent = made i })
