-- Rests on Printing and Written.
use Rattle.std.proofs.Common.{refl, arith}
use Rattle.runner.proofs.Turning.{along_within}
use Rattle.program.proofs.Printing.{printing_none, printing_part, printing_fits, printing_more}
use Rattle.program.proofs.Written.{grown_none, part_written, front_failed}
use Rattle.program.proofs.pieces.Place.print_all.Goals as goal

pub loop-sent-init : goal.loop-sent-init
loop-sent-init g c = (printing_none _ c.requires.0 c.requires.1, grown_none)

pub hand_over-requires : goal.hand_over-requires
hand_over-requires g c =
    let p = c.loop-sent.invariant.0 in
    let f = c.fill-filled in
    (printing_part _ p f.ensures _ refl, printing_fits _ p f.ensures f.array_long _ refl)

pub returns-in_err-sent-clause-bytes : goal.returns-in_err-sent-clause-bytes
returns-in_err-sent-clause-bytes g c =
    let p = c.loop-sent.invariant.0 in
    let part = printing_part _ p c.fill-filled.ensures _ refl in
    front_failed c.loop-sent.invariant.1 p.inside part _ c.from_residual.ensures.0 c.in_err-sent.ensures.bytes

pub loop-sent-smaller : goal.loop-sent-smaller
loop-sent-smaller g c =
    omega (arith, (c.fill-filled.ensures.on c.if-filled.false).0, along_within c.loop-sent.invariant.0.along)

pub loop-sent-preserved : goal.loop-sent-preserved
loop-sent-preserved g c =
    let p = c.loop-sent.invariant.0 in
    let f = c.fill-filled in
    let h = c.in_ok-sent.ensures in (
      (printing_more _ p f.ensures _ refl h.sent f.array_long c.if-filled.false).1,
      part_written c.loop-sent.invariant.1 p.inside (printing_part _ p f.ensures _ refl) h.sent h.bytes,
    )
