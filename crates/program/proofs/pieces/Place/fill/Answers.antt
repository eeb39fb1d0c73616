-- Rests on Filling and runner's Turning.
use Rattle.std.proofs.Common.{◌≡◌, ℕ, Ok, sym, ap, ◌∙◌, arith, rules}
use Rattle.runner.proofs.Turning.{along_within}
use Rattle.program.proofs.Filling.{filling_fits, filling_more, filling_ends, stays_none}
use Rattle.program.proofs.pieces.Place.fill.Goals as goal

pub overflow_add-used : goal.overflow_add-used
overflow_add-used c = omega (arith, filling_fits c.loop-used.invariant c.text-used.auto.buffer c.text-used.ensures)

pub returns-in_default : goal.returns-in_default
returns-in_default c =
    filling_ends c.loop-used.invariant c.text-used.auto.buffer c.text-used.ensures c.loop-used-test.true c.turn.ensures
    (stays_none c.in_default.is (search rules))

pub returns-in_default-2 : goal.returns-in_default-2
returns-in_default-2 c =
    filling_ends c.loop-used.invariant c.text-used.auto.buffer c.text-used.ensures c.loop-used-test.true c.turn.ensures
    (λ to e. let f = sym c.in_default.is ∙ e in let z : ◌≡◌ {A = ℕ} 0 1 = cc in omega arith)

pub loop-used-smaller : goal.loop-used-smaller
loop-used-smaller c =
    let f = c.loop-used.invariant in
    let on = c.in-Ok-Some.is ∙ ap Ok c.in-Ok-Some.field-0-is in
    let n = filling_more f c.text-used.auto.buffer c.text-used.ensures c.loop-used-test.true c.turn.ensures on in
    omega (arith, n.0, along_within f.along)

pub loop-used-preserved : goal.loop-used-preserved
loop-used-preserved c =
    let on = c.in-Ok-Some.is ∙ ap Ok c.in-Ok-Some.field-0-is in
    (filling_more c.loop-used.invariant c.text-used.auto.buffer c.text-used.ensures c.loop-used-test.true c.turn.ensures on).1
