-- The steps of the check, which inner contracts cite.
--
--   Judged                          how the check goes on: at an offset, or nowhere, as the end is accepted; or why the sheet is refused
--   judged_command n h at c after   how the check goes on from the command c at an offset, in a sheet of n bytes with the header h
--   judged n h at found             the same from what stands there
use Rattle.std.specs.Prelude.{cond, ℕ, Option, Some, None, Result, Ok, Err}
use Rattle.lists.specs.Lists.{less}
use Rattle.refusals.specs.declared.Refusal.{Refusal}
use Rattle.refusals.specs.declared.Refusal.TheVariants.{Unknown, CutOff, Order, Range, Ending, NoInverse}
use Rattle.sheet_format.specs.Format.{Decoded}
use Rattle.sheet_format.specs.declared.Header.{Header}
use Rattle.sheet_format.specs.declared.Command.{Command}
use Rattle.sheet_format.specs.declared.Missing.TheVariants.{NoCommand, Short, Nothing}
use Rattle.operands.specs.Operands.{in_range, invertible}
use Rattle.sheet.specs.Check.{is_end, in_order}

abbrev pub Judged : Type 0
Judged = Result (Option ℕ) Refusal

unfoldable pub judged_command : ℕ → Header → ℕ → Command → ℕ → Judged
judged_command n h at c after =
    cond (in_order at c)
    (cond (in_range h.rank c)
    (cond (invertible h.q c)
    (cond (is_end c) (cond (less after n) (Err (Ending after)) (Ok None)) (Ok (Some after)))
    (Err (NoInverse at)))
    (Err (Range at)))
    (Err (Order at))

abbrev pub judged : ℕ → Header → ℕ → Decoded → Judged
judged n h at (Err NoCommand) = Err (Unknown at)
judged n h at (Err Short) = Err (CutOff at)
judged n h at (Ok (c, after)) = judged_command n h at c after
judged n h at (Err Nothing) = Err (Ending at)
