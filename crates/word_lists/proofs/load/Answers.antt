-- The sizes are compared; then the loop writes the words of s from the index on. Rests on lists' Fill.
use Rattle.std.proofs.Common.{◌+◌, length, drop, refl, sym, ◌∙◌, arith, length-drop}
use lib.Seq.{length-take-le, get_or-take, get_or-drop}
use Rattle.lists.proofs.Test.{less_no}
use Rattle.lists.proofs.Fill.{filled_none, filled_more, filled_all}
use Rattle.word_lists.specs.Into.{load_into}
use Rattle.word_lists.proofs.load.Goals as goal

pub loop-i-init : goal.loop-i-init
loop-i-init c = (refl, filled_none _ _)

pub loop-i-preserved : goal.loop-i-preserved
loop-i-preserved c = (c.loop-i.invariant.0, filled_more _ c.loop-i.invariant.1 (omega arith) refl)

pub returns : goal.returns
unfolding load_into
returns c =
    let u = c.args in
    let n = length u.d.now in
    let rest = drop u.at u.s.now in
    rw (less_no {x = length u.s.now} {a = u.at + n} (omega arith))
    (filled_all _ c.loop-i.invariant.1 (omega arith) (length-take-le n rest (rw length-drop (omega arith)))
    (λ k l. sym (get_or-take n rest k 0 l ∙ get_or-drop u.at u.s.now k 0)))
