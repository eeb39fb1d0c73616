-- The value of the trace, for whose rank the scratch suffices. Rests on element_calls' TraceCalls.
use Rattle.std.proofs.Common.{arith, sym, ap, ◌∙◌}
use Rattle.refusals.specs.Refusals.{value_of}
use Rattle.element_calls.proofs.TraceCalls.{trace_gives}
use Rattle.output.specs.Printed.{shown}
use Rattle.output.proofs.Values.{value, enough}
use Rattle.output.proofs.put_trace.Goals as goal

pub returns : goal.returns
unfolding shown
returns c =
    let low = c.args.registers.low in
    let gives = trace_gives _ _ _ _ _ (omega (arith, low)) c.element.ensures.size (enough low (omega arith)) in
    let word = c.unwrap_or.ensures ∙ value c.trace-traced.result ∙ sym (ap (λ o. value_of o.answer) c.trace-traced.ensures) ∙ gives in
    rw (word, c.element.ensures.is) at c.put_line.ensures
