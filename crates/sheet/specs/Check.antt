-- The check of a whole sheet, with the refusals 9 to 15 (document 01, "Where each thing is checked", and document 02, Ticket 1).
--
--   is_end c, is_begin c          the tests for the end command and for a begin command
--   in_order at c                 the first command is begin, and no later one
--   Placed                        an offset, with what stands there
--   following found rest          what follows a command that is not the end; rest gives what stands from an offset on
--   placed_from n s at            what stands in the sheet s from an offset on, up to the first end command or to what is no command, n at most
--   placed s                      the same of a whole sheet; a command has a byte or more, so that n is no limit
--   command_of found              the command that stands at an offset, if one does
--   commands ps                   the commands among what stands in a sheet
--   judge s at found              10 to 15: on what stands at an offset
--   first_refusal s ps            the first refusal by rising offset
--   check_sheet s                 the whole check
use Rattle.std.specs.Prelude.{Ok, Err, Bool, true, false, cond, not, ◌&&◌, ◌||◌, List, [], ◌∷◌, ◌++◌, ℕ, zero, suc, length}
use Rattle.lists.specs.Lists.{same, less}
use Rattle.refusals.specs.Refusals.{Verdict, ◌then◌, unless}
use Rattle.refusals.specs.declared.Refusal.TheVariants.{Bytes, Unknown, CutOff, Order, Range, Ending, NoInverse}
use Rattle.sheet_format.specs.Format.{Decoded, decode, header}
use Rattle.sheet_format.specs.declared.Command.{Command}
use Rattle.sheet_format.specs.declared.Command.TheVariants.{End, Begin, Change, Show}
use Rattle.sheet_format.specs.declared.Missing.TheVariants.{NoCommand, Short, Nothing}
use Rattle.operands.specs.Operands.{in_range, invertible}

-- ---- a command

abbrev pub is_end : Command → Bool
is_end End = true
is_end (Begin h) = false
is_end (Change u) = false
is_end (Show w) = false

abbrev pub is_begin : Command → Bool
is_begin End = false
is_begin (Begin h) = true
is_begin (Change u) = false
is_begin (Show w) = false

unfoldable pub in_order : ℕ → Command → Bool
in_order at c = cond (same at 0) (is_begin c) (not (is_begin c))

-- ---- a sheet

pub record Placed : Type 0 where
  pub offset : ℕ
  pub found : Decoded

abbrev pub following : Decoded → (ℕ → List Placed) → List Placed
following (Ok (c, after)) rest = cond (is_end c) [] (rest after)
following (Err why) rest = []

unfoldable pub placed_from : ℕ → List ℕ → ℕ → List Placed
placed_from zero s at = []
placed_from (suc n) s at = record { offset = at; found = decode s at } ∷ following (decode s at) (placed_from n s)

unfoldable pub placed : List ℕ → List Placed
placed s = placed_from (suc (length s)) s 0

abbrev pub command_of : Decoded → List Command
command_of (Ok (c, next)) = c ∷ []
command_of (Err why) = []

unfoldable pub commands : List Placed → List Command
commands [] = []
commands (p ∷ ps) = command_of p.found ++ commands ps

abbrev pub judge : List ℕ → ℕ → Decoded → Verdict
judge s at (Err NoCommand) = Err (Unknown at)
judge s at (Err Short) = Err (CutOff at)
judge s at (Ok (c, after)) =
    unless (not (in_order at c)) (Order at)
    then unless (not (in_range (header s).rank c)) (Range at)
    then unless (not (invertible (header s).q c)) (NoInverse at)
    then unless (is_end c && less after (length s)) (Ending after)
judge s at (Err Nothing) = Err (Ending at)

unfoldable pub first_refusal : List ℕ → List Placed → Verdict
first_refusal s [] = Ok tt
first_refusal s (p ∷ ps) = judge s p.offset p.found then first_refusal s ps

unfoldable pub check_sheet : List ℕ → Verdict
check_sheet s = unless (same (length s) 0 || less 4096 (length s)) Bytes then first_refusal s (placed s)
