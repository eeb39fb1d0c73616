-- The rank, the size and the scratch are judged; then the element is copied and traced, and the scratch is cleared. Rests on CallDone.
use Rattle.std.proofs.Common.{arith}
use Rattle.traces.proofs.CallDone.{Checked, checked, room, enough, same_2, traced_pre, call_done}
use Rattle.traces.proofs.trace.Goals as goal

pub slice_bounds-load-end : goal.slice_bounds-load-end
slice_bounds-load-end c =
    let u = c.args in
    let d : Checked u.m _ u.element.now u.scratch.now = checked c.in_ok-rank.ensures c.in_ok-sized.ensures c.in_ok-scratch.ensures c.size-size.ensures in
    omega (arith, room d)

pub traced-value-requires : goal.traced-value-requires
traced-value-requires c =
    let u = c.args in
    let d : Checked u.m _ u.element.now u.scratch.now = checked c.in_ok-rank.ensures c.in_ok-sized.ensures c.in_ok-scratch.ensures c.size-size.ensures in
    traced_pre d _ c.load.ensures u.q c.parameters_of.ensures c.ranges.q.fits

pub slice_bounds-clear-end : goal.slice_bounds-clear-end
slice_bounds-clear-end c =
    let u = c.args in
    let d : Checked u.m _ u.element.now u.scratch.now = checked c.in_ok-rank.ensures c.in_ok-sized.ensures c.in_ok-scratch.ensures c.size-size.ensures in
    omega (arith, enough d c.scratch_size-need.ensures, same_2 d _ c.load.ensures c.traced-value.new.x c.traced-value.auto.x)

pub returns : goal.returns
returns c =
    let u = c.args in
    let d : Checked u.m _ u.element.now u.scratch.now = checked c.in_ok-rank.ensures c.in_ok-sized.ensures c.in_ok-scratch.ensures c.size-size.ensures in
    call_done d _ c.load.ensures c.traced-value.new.x c.traced-value.auto.x u.q u.z c.parameters_of.ensures c.scratch_size-need.ensures
    c.traced-value.ensures c.clear.ensures
