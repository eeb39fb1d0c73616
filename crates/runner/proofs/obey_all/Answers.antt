-- The loop's invariant: the run comes to the cursor. Rests on Running and Turning.
use Rattle.std.proofs.Common.{◌≡◌, ℕ, Ok, sym, ap, ◌∙◌, arith}
use Rattle.runner.proofs.Turning.{along_within}
use Rattle.runner.proofs.Running.{running_none, running_more, running_all}
use Rattle.runner.proofs.obey_all.Goals as goal

pub loop-next-init : goal.loop-next-init
loop-next-init c = running_none _ c.requires (omega arith)

pub loop-next-smaller : goal.loop-next-smaller
loop-next-smaller c =
    let on = c.in-Ok-Some.is ∙ ap Ok c.in-Ok-Some.field-0-is in
    let next = running_more c.loop-next.invariant (c.turn.ensures ∙ ap (λ r. record { answer = r; lent = c.turn.new.x }) on) in
    omega (arith, next.0, along_within c.loop-next.invariant.along)

pub loop-next-preserved : goal.loop-next-preserved
loop-next-preserved c =
    let on = c.in-Ok-Some.is ∙ ap Ok c.in-Ok-Some.field-0-is in
    (running_more c.loop-next.invariant (c.turn.ensures ∙ ap (λ r. record { answer = r; lent = c.turn.new.x }) on)).1

pub returns-in_default : goal.returns-in_default
returns-in_default c = running_all c.loop-next.invariant c.turn.ensures
    (λ to e. let f = sym c.in_default.is ∙ e in let z : ◌≡◌ {A = ℕ} 0 1 = cc in omega arith)

pub returns-in_default-2 : goal.returns-in_default-2
returns-in_default-2 c = running_all c.loop-next.invariant c.turn.ensures
    (λ to e. let f = sym c.in_default.is ∙ e in let z : ◌≡◌ {A = ℕ} 0 1 = cc in omega arith)
