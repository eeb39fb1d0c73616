-- At rank 0 the trace is read off; else a level is made and the rest is traced. Rests on LevelByLevel.
use Rattle.std.proofs.Common.{arith, rules, ◌∙◌, ◌≤◌, length}
use Rattle.traces.proofs.LevelByLevel.{trace_last, one_word, level_pre, first_within, first_pre, traced_level}
use Rattle.traces.proofs.+traced.Goals as goal

pub bounds-x-0 : goal.bounds-x-0
bounds-x-0 t c = one_word c.requires c.if-m-eq0.true

pub returns-then-m-eq0 : goal.returns-then-m-eq0
returns-then-m-eq0 t c = trace_last _ _ _ _ c.if-m-eq0.true

pub lower-requires : goal.lower-requires
lower-requires t c = level_pre c.requires (omega arith) c.size-b.ensures

pub slice_bounds-traced-end : goal.slice_bounds-traced-end
slice_bounds-traced-end t c = omega (arith, first_within (level_pre c.requires (omega arith) c.size-b.ensures), c.lower.auto.x)

pub traced-requires : goal.traced-requires
traced-requires t c =
    let within : c.size-b.result ≤ length c.lower.new.x = omega (arith, first_within (level_pre c.requires (omega arith) c.size-b.ensures), c.lower.auto.x) in
    (omega arith, first_pre _ c.requires c.size-b.ensures within)

pub returns : goal.returns
returns t c =
    let u = c.args in
    c.traced.ensures
    ∙ traced_level u.p u.z u.m c.size-b.result u.x.now c.lower.new.x c.requires (omega arith) c.ranges.z.fits (search rules) c.lower.ensures
