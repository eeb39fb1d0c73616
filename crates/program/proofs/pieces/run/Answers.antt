-- A refused sheet prints its line, and another one all its pieces; each part handed over is of what the sheet prints. Rests on Printing, Written and
-- output's Front.
use Rattle.std.proofs.Common.{sym, refl, ◌∙◌, arith}
use lib.Seq.{length-take-le}
use Rattle.output.proofs.Front.{error_within}
use Rattle.program.proofs.Printing.{refusal_part, refusal_size, refusal_sent}
use Rattle.program.proofs.Written.{grown_none, front_written}
use Rattle.program.proofs.pieces.run.Goals as goal

pub slice_bounds-buffer-end : goal.slice_bounds-buffer-end
slice_bounds-buffer-end g c = error_within _ _ c.error-n.ensures

pub slice_bounds-hand_over-end : goal.slice_bounds-hand_over-end
slice_bounds-hand_over-end g c = sym (length-take-le _ _ (error_within _ _ c.error-n.ensures))

pub hand_over-requires : goal.hand_over-requires
hand_over-requires g c =
    let n = c.error-n.result in (
      refusal_part _ _ (sym c.begin.ensures ∙ c.in-Err.is) (omega arith) c.error-n.ensures n refl,
      omega (arith, length-take-le n c.error-n.new.buffer (error_within _ _ c.error-n.ensures)),
    )

pub returns-in-Err-clause-sent : goal.returns-in-Err-clause-sent
returns-in-Err-clause-sent g c =
    refusal_sent _ _ (sym c.begin.ensures ∙ c.in-Err.is) (omega arith) c.error-n.ensures _ refl _ c.hand_over.ensures.sent

pub returns-in-Err-clause-bytes : goal.returns-in-Err-clause-bytes
returns-in-Err-clause-bytes g c =
    let e = sym c.begin.ensures ∙ c.in-Err.is in
    let n = c.error-n.result in
    let part = refusal_part _ _ e (omega arith) c.error-n.ensures n refl in
    let size = refusal_size _ _ e (omega arith) c.error-n.ensures n refl in
    front_written grown_none (omega arith) part _ (λ w. omega (arith, size)) c.hand_over.ensures.bytes
