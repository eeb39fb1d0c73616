use Rattle.std.proofs.Common.{◌*◌, ◌≤◌}
use Rattle.tower_words.proofs.Spell.{Spelled}
use Rattle.tower_words.proofs.entry_loops.fill_word.Given as goal

abbrev pub invariant-loop-i : goal.invariant-loop-i
invariant-loop-i l = (l.at ≤ 255 * l.i) × Spelled l.tower l.initial.word l.word l.at l.i
