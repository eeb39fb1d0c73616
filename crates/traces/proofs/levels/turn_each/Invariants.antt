-- In each step of the loop one block is turned. Rests on Turning and lists' Passed.
use Rattle.lists.proofs.Passed.{Passed}
use Rattle.traces.proofs.Turning.{on_block}
use Rattle.traces.proofs.levels.turn_each.Given as goal

abbrev pub invariant-loop-k : goal.invariant-loop-k
invariant-loop-k l = Passed l.b (on_block l.p l.m) l.initial.x l.x l.k
