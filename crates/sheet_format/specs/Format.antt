-- The commands of a run sheet (document 01, "Run sheets", and document 02, Tickets 1 and 4).
--
--   Decoded             what stands at an offset: a command and the offset after it, or what is missing
--   byte x i            byte i of x, 0 past its end
--   number x i n        the number of the n bytes of x from i on, the lowest byte first
--   row code x          the command of a code, with the operands that stand at the front of x, and how many bytes they take; or that no command has the code
--   placed_row n at r   the row r of a code whose operands begin at an offset of a sheet of n bytes
--   decode s at         what stands at an offset of the sheet s: a command and the offset after it, a code that no command has, a command whose
--                       operands are cut off, or nothing
--   none                the header of a sheet that begins with no begin command
--   begun c, header s   what a begin command says, and what the sheet s begins with
use Rattle.std.specs.Prelude.{cond, Option, Some, None, Result, Ok, Err, List, ℕ, zero, suc, ◌+◌, ◌*◌, length, get_or, drop}
use Rattle.lists.specs.Lists.{same, less}
use Rattle.sheet_format.specs.declared.Header.{Header}
use Rattle.sheet_format.specs.declared.Update.TheVariants.{Unit, Set, Letter, InverseLetter, Product, Sum, Scale}
use Rattle.sheet_format.specs.declared.Query.TheVariants.{Register, Pairing, Equality, Trace}
use Rattle.sheet_format.specs.declared.Command.{Command}
use Rattle.sheet_format.specs.declared.Command.TheVariants.{End, Begin, Change, Show}
use Rattle.sheet_format.specs.declared.Missing.{Missing}
use Rattle.sheet_format.specs.declared.Missing.TheVariants.{NoCommand, Short, Nothing}

abbrev pub Decoded : Type 0
Decoded = Result (Command × ℕ) Missing

unfoldable pub byte : List ℕ → ℕ → ℕ
byte x i = get_or x i 0

unfoldable pub number : List ℕ → ℕ → ℕ → ℕ
number x i zero = 0
number x i (suc n) = byte x i + 256 * number x (suc i) n

unfoldable pub row : ℕ → List ℕ → Option (Command × ℕ)
row code x =
    cond (same code 0x00) (Some (End, 0))
    (cond (same code 0x10) (Some (Begin (record { rank = byte x 0; q = number x 1 8 }), 1 + 8))
    (cond (same code 0x20) (Some (Change (Unit (byte x 0)), 1))
    (cond (same code 0x21) (Some (Change (Set (byte x 0) (number x 1 2) (number x 3 8)), 1 + 2 + 8))
    (cond (same code 0x30) (Some (Change (Letter (byte x 0) (byte x 1)), 1 + 1))
    (cond (same code 0x31) (Some (Change (Product (byte x 0) (byte x 1) (byte x 2)), 1 + 1 + 1))
    (cond (same code 0x32) (Some (Change (Sum (byte x 0) (byte x 1) (byte x 2)), 1 + 1 + 1))
    (cond (same code 0x33) (Some (Change (Scale (byte x 0) (number x 1 8)), 1 + 8))
    (cond (same code 0x34) (Some (Change (InverseLetter (byte x 0) (byte x 1)), 1 + 1))
    (cond (same code 0x40) (Some (Show (Register (byte x 0)), 1))
    (cond (same code 0x41) (Some (Show (Pairing (byte x 0) (byte x 1)), 1 + 1))
    (cond (same code 0x42) (Some (Show (Equality (byte x 0) (byte x 1)), 1 + 1))
    (cond (same code 0x43) (Some (Show (Trace (byte x 0) (number x 1 8)), 1 + 8))
    None))))))))))))

abbrev pub placed_row : ℕ → ℕ → Option (Command × ℕ) → Decoded
placed_row n at (Some (c, wide)) = cond (less n (at + wide)) (Err Short) (Ok (c, at + wide))
placed_row n at None = Err NoCommand

unfoldable pub decode : List ℕ → ℕ → Decoded
decode s at = cond (less at (length s)) (placed_row (length s) (at + 1) (row (byte s at) (drop (at + 1) s))) (Err Nothing)

abbrev pub none : Header
none = record { rank = 0; q = 0 }

abbrev pub begun : Command → Header
begun End = none
begun (Begin h) = h
begun (Change c) = none
begun (Show w) = none

abbrev pub header_of : Decoded → Header
header_of (Ok (c, after)) = begun c
header_of (Err why) = none

unfoldable pub header : List ℕ → Header
header s = header_of (decode s 0)
