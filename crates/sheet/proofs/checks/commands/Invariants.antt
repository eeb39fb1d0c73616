-- The reader is of the sheet, and the check from its offset on is the check of the whole sheet. Fewer bytes are left after each turn.
use Rattle.std.proofs.Common.{◌≡◌, ◌-◌, length}
use Rattle.sheet.specs.Check.{placed, first_refusal}
use Rattle.sheet.proofs.CheckFrom.{check_from}
use Rattle.sheet.proofs.checks.commands.Given as goal

abbrev pub invariant-loop-after : goal.invariant-loop-after
invariant-loop-after l = (l.reader.sheet.now ≡ l.sheet) × (check_from l.sheet l.reader.at ≡ first_refusal l.sheet (placed l.sheet))

abbrev pub decreases-loop-after : goal.decreases-loop-after
decreases-loop-after l = length l.sheet - l.reader.at
