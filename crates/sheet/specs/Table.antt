-- When a sheet is refused, as document 01's table says it, and 15 as document 02, Ticket 1, says it, without the order in which a check goes and
-- without its tests.
--
--   Ordered at c              the command c stands at offset 0 exactly where it is begin
--   Good s at c after         the command c stands at an offset of the sheet s, in order and within its bounds, and the offset after it; q is odd
--                             if c multiplies by an inverse generator
--   Link                      a command, and the offset after it
--   Leads s at ls to          good commands, none of them the end, lead from one offset to another
--   Reached s at              in a sheet of 1 to 4,096 bytes, they lead there from offset 0
--   OutOfOrder s at           a command stands at an offset, out of order
--   OutOfRange s at           a command stands at an offset, in order and with an operand out of range
--   Uninvertible s at         an inverse letter stands at an offset, in order and within its bounds, and q is even
--   Ended s after             a good end command is reached, and the offset after it
--   Says s why                what the table says of a refusal
--   Passes s                  an end command is reached, and nothing stands after it
--   Exactly s                 a sheet is refused exactly where the table says so, and accepted exactly where it passes; a refusal counts 0, and its
--                             place is at most 4,096
use Rattle.std.specs.Prelude.{◌≡◌, Ok, Err, List, [], ◌∷◌, ◌⊎◌, ◌≢◌, ℕ, ◌%◌, ◌≤◌, ◌<◌, length}
use Rattle.refusals.specs.Refusals.{verdict_report, Refuses}
use Rattle.refusals.specs.declared.Refusal.{Refusal}
use Rattle.refusals.specs.declared.Refusal.TheVariants.{Rank, Size, Scratch, Word, Letter, Length, Image, Entry, Buffer, Bytes, Unknown, CutOff, Order, Range, Ending, NoInverse}
use Rattle.sheet_format.specs.Format.{decode, header}
use Rattle.sheet_format.specs.declared.Update.TheVariants.{InverseLetter}
use Rattle.sheet_format.specs.declared.Command.{Command}
use Rattle.sheet_format.specs.declared.Command.TheVariants.{End, Change}
use Rattle.sheet_format.specs.declared.Missing.TheVariants.{NoCommand, Short}
use Rattle.operands.specs.Bounds.{Begins, Bounds}
use Rattle.sheet.specs.Check.{check_sheet}

abbrev pub Ordered : ℕ → Command → Type 0
Ordered at c = (at ≡ 0 → Begins c) × (Begins c → at ≡ 0)

pub record Good (s : List ℕ) (at : ℕ) (c : Command) (after : ℕ) : Type 0 where
  pub stands : decode s at ≡ Ok (c, after)
  pub order : Ordered at c
  pub range : Bounds (header s).rank c
  pub inverse : (r i : ℕ) → c ≡ Change (InverseLetter r i) → (header s).q % 2 ≡ 1

pub record Link : Type 0 where
  pub command : Command
  pub after : ℕ

abbrev pub Leads : List ℕ → ℕ → List Link → ℕ → Type 0
Leads s at [] to = at ≡ to
Leads s at (l ∷ ls) to = Good s at l.command l.after × (l.command ≢ End) × Leads s l.after ls to

pub record Reached (s : List ℕ) (at : ℕ) : Type 0 where
  pub least : 0 < length s
  pub most : length s ≤ 4096
  pub links : List Link
  pub leads : Leads s 0 links at

pub record OutOfOrder (s : List ℕ) (at : ℕ) : Type 0 where
  pub link : Link
  pub stands : decode s at ≡ Ok (link.command, link.after)
  pub order : Ordered at link.command → ⊥

pub record OutOfRange (s : List ℕ) (at : ℕ) : Type 0 where
  pub link : Link
  pub stands : decode s at ≡ Ok (link.command, link.after)
  pub order : Ordered at link.command
  pub range : Bounds (header s).rank link.command → ⊥

pub record Uninvertible (s : List ℕ) (at : ℕ) : Type 0 where
  pub register : ℕ
  pub letter : ℕ
  pub after : ℕ
  pub stands : decode s at ≡ Ok (Change (InverseLetter register letter), after)
  pub order : Ordered at (Change (InverseLetter register letter))
  pub range : Bounds (header s).rank (Change (InverseLetter register letter))
  pub even : (header s).q % 2 ≡ 0

pub record Ended (s : List ℕ) (after : ℕ) : Type 0 where
  pub at : ℕ
  pub reached : Reached s at
  pub good : Good s at End after

abbrev pub Says : List ℕ → Refusal → Type 0
Says s Bytes = (length s ≡ 0) ⊎ (4096 < length s)
Says s (Unknown at) = Reached s at × (decode s at ≡ Err NoCommand)
Says s (CutOff at) = Reached s at × (decode s at ≡ Err Short)
Says s (Order at) = Reached s at × OutOfOrder s at
Says s (Range at) = Reached s at × OutOfRange s at
Says s (NoInverse at) = Reached s at × Uninvertible s at
Says s (Ending at) = (Reached s at × (at ≡ length s)) ⊎ (Ended s at × (at < length s))
-- no sheet is refused for what another table row judges
Says s Rank = ⊥
Says s Size = ⊥
Says s Scratch = ⊥
Says s Word = ⊥
Says s (Letter i) = ⊥
Says s Length = ⊥
Says s (Image i) = ⊥
Says s (Entry i) = ⊥
Says s Buffer = ⊥

abbrev pub Passes : List ℕ → Type 0
Passes s = Ended s (length s)

pub record Exactly (s : List ℕ) : Type 0 where
  pub refused : (why : Refusal) → check_sheet s ≡ Err why → Says s why
  pub says : (why : Refusal) → Says s why → check_sheet s ≡ Err why
  pub accepted : check_sheet s ≡ Ok tt → Passes s
  pub passes : Passes s → check_sheet s ≡ Ok tt
  pub report : Refuses (verdict_report (check_sheet s))
