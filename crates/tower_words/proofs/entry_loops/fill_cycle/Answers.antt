-- The loop stores the letters of a(j, k) one by one.
use Rattle.std.proofs.Common.{length, sym, arith}
use Rattle.lists.proofs.Fill.{filled_all}
use Rattle.perms.specs.Tower.{cycle}
use Rattle.perms.proofs.Word.{length_cycle, get_or_cycle}
use Rattle.tower_words.proofs.entry_loops.fill_cycle.Goals as goal

pub returns : goal.returns
returns c =
    let j = c.args.j in
    let n = length c.args.word.now in
    filled_all (cycle j n) c.loop-i.invariant (omega arith) (length_cycle j n) (λ k l. sym (get_or_cycle j n k l))
