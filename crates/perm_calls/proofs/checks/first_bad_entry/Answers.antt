-- The loop is the search for the first entry a_j above j.
use Rattle.std.proofs.Common.{length, arith}
use Rattle.lists.proofs.Test.{less_yes, less_no}
use Rattle.lists.proofs.First.{first_here, first_next, first_none}
use Rattle.perm_calls.specs.Calls.{first_bad_entry}
use Rattle.perm_calls.proofs.checks.first_bad_entry.Goals as goal

pub returns-then-i-from : goal.returns-then-i-from
unfolding first_bad_entry
returns-then-i-from c = rw (← first_here _ (omega arith) c.loop-i.invariant (less_yes (omega arith)), less_yes c.loop-i-test.true)

pub loop-i-preserved : goal.loop-i-preserved
loop-i-preserved c = first_next _ (omega arith) c.loop-i.invariant (less_no (omega arith))

pub returns : goal.returns
unfolding first_bad_entry
returns c = let n = length c.args.tower.now in rw (← first_none _ (omega arith) c.loop-i.invariant, less_no {x = n} {a = n} (omega arith))
