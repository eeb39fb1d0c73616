-- The loop writes the words of the sum. Rests on Loops and Into.
use Rattle.std.proofs.Common.{◌≡◌, ℕ, length, refl, sym, ◌∙◌, arith}
use Rattle.ring.specs.Modular.{words}
use Rattle.lists.proofs.Fill.{filled_more}
use Rattle.algebra.proofs.Lists.{plus_length}
use Rattle.word_lists.proofs.Loops.{written_all, plus_next}
use Rattle.word_lists.proofs.Into.{sum_into_lem}
use Rattle.word_lists.proofs.sum_into.Goals as goal

pub loop-i-preserved : goal.loop-i-preserved
loop-i-preserved c = let u = c.args in
    (c.loop-i.invariant.0, filled_more _ c.loop-i.invariant.1 (omega arith) (plus_next u.h.now u.g.now c.loop-i.i c.add.ensures refl refl (omega arith) (omega arith)))

pub returns : goal.returns
returns c =
    let u = c.args in
    let first : length u.d.now ≡ length u.h.now = omega arith in
    let next : length u.h.now ≡ length u.g.now = omega arith in
    written_all _ c.loop-i.invariant.1 (omega arith) (plus_length ℕ words u.h.now u.g.now next ∙ sym first)
    ∙ sym (sum_into_lem _ _ _ first next)
