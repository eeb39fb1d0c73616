-- In each step of the loop the letter acts on one block. Rests on EachBlock and lists' Passed.
use Rattle.std.proofs.Common.{List, ℕ, arith}
use Rattle.lists.proofs.Passed.{passed_none}
use Rattle.letters.specs.Letters.{lettered}
use Rattle.letters.proofs.EachBlock.{each_more}
use Rattle.letters.proofs.each.Goals as goal

pub loop-k-init : goal.loop-k-init
loop-k-init g c = passed_none _ _ _

pub loop-k-preserved : goal.loop-k-preserved
loop-k-preserved g c =
    let f : ℕ → List ℕ → List ℕ = λ i. lettered g.W.Direction.way c.args.p g.row.R c.args.j in
    let call = c.letter in
    each_more {f = f} c.requires (omega arith, c.loop-k.invariant) call.new.x c.loop-k-test.true call.ensures call.auto.x
