-- The loop writes the words of a(1, a_1), a(2, a_2), .. one after another.
use Rattle.std.proofs.Common.{arith}
use Rattle.tower_words.proofs.Spell.{spelled_none, spelled_inside, spelled_more}
use Rattle.tower_words.proofs.entry_loops.fill_word.Goals as goal

pub loop-i-init : goal.loop-i-init
loop-i-init c = (omega arith, spelled_none _ _)

pub slice_bounds-fill_cycle-end : goal.slice_bounds-fill_cycle-end
slice_bounds-fill_cycle-end c = rw c.from.ensures (spelled_inside (omega arith) c.requires.2 c.loop-i.invariant.1)

pub loop-i-preserved : goal.loop-i-preserved
loop-i-preserved c =
    let at = c.loop-i in
    (omega (arith, c.type_inv.tower at.i), rw c.from.ensures (spelled_more _ _ _ _ at.at at.i (omega arith) c.requires.2 at.invariant.1 (rw c.from.ensures at c.fill_cycle.ensures)))
