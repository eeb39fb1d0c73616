-- The loop writes the words of the multiple, from the end. Rests on Loops and Into.
use Rattle.std.proofs.Common.{◌≡◌, ℕ, ◌-◌, length, refl, sym, ◌∙◌, arith}
use Rattle.ring.specs.Modular.{words}
use Rattle.algebra.proofs.Lists.{scale_length}
use Rattle.word_lists.proofs.Loops.{from_more, from_all, scale_next}
use Rattle.word_lists.proofs.Into.{scale_into_lem}
use Rattle.word_lists.proofs.scale_into.Goals as goal

pub loop-i-preserved : goal.loop-i-preserved
loop-i-preserved c = let u = c.args in let j = c.loop-i.i - 1 in
    from_more j _ c.loop-i.invariant (omega arith) (omega arith) (scale_next u.c u.s.now j c.mul.ensures refl (omega arith))

pub returns : goal.returns
returns c =
    let u = c.args in
    let same : length u.d.now ≡ length u.s.now = omega arith in
    from_all _ c.loop-i.invariant (omega arith) (scale_length ℕ words u.c u.s.now ∙ sym same) ∙ sym (scale_into_lem _ u.c _ same)
