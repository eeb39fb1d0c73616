-- The commands as document 01 ("Run sheets") and document 02, Tickets 1 and 4, write them, apart from how they are read, and the claim that they are read so.
--
--   little n v    v in n bytes, the lowest first
--   written c     the bytes of a command: its code, then its operands
--   code c        the first of them
--   Bytes s       each number of s is a byte
--   Fits n v      v fits n bytes
--   Writable c    each operand fits its bytes
--   CutOff s at   the code of a command stands at an offset, and the sheet ends before the command does
--   Agrees        a command that is written at an offset is read there, and one that is read is written there; a code is unknown exactly
--                 where no command has it, a command short exactly where it is cut off, and nothing is there exactly past the end
use Rattle.std.specs.Prelude.{◌≡◌, ◌≢◌, ◌↔◌, Ok, Err, List, [], ◌∷◌, ◌++◌, ℕ, zero, suc, ◌+◌, ◌-◌, ◌/◌, ◌%◌, ◌^◌, ◌≤◌, ◌<◌, length, take, drop}
use Rattle.lists.specs.Lists.{All}
use Rattle.sheet_format.specs.Format.{byte, decode}
use Rattle.sheet_format.specs.declared.Update.{Update}
use Rattle.sheet_format.specs.declared.Update.TheVariants.{Unit, Set, Letter, InverseLetter, Product, Sum, Scale}
use Rattle.sheet_format.specs.declared.Query.{Query}
use Rattle.sheet_format.specs.declared.Query.TheVariants.{Register, Pairing, Equality, Trace}
use Rattle.sheet_format.specs.declared.Command.{Command}
use Rattle.sheet_format.specs.declared.Command.TheVariants.{End, Begin, Change, Show}
use Rattle.sheet_format.specs.declared.Missing.TheVariants.{NoCommand, Short, Nothing}

unfoldable pub little : ℕ → ℕ → List ℕ
little zero v = []
little (suc n) v = v % 256 ∷ little n (v / 256)

-- ---- the list of commands

abbrev pub written_update : Update → List ℕ
written_update (Unit r) = 0x20 ∷ r ∷ []
written_update (Set r i v) = 0x21 ∷ r ∷ (little 2 i ++ little 8 v)
written_update (Letter r i) = 0x30 ∷ r ∷ i ∷ []
written_update (Product d a b) = 0x31 ∷ d ∷ a ∷ b ∷ []
written_update (Sum d a b) = 0x32 ∷ d ∷ a ∷ b ∷ []
written_update (Scale r v) = 0x33 ∷ r ∷ little 8 v
written_update (InverseLetter r i) = 0x34 ∷ r ∷ i ∷ []

abbrev pub written_query : Query → List ℕ
written_query (Register r) = 0x40 ∷ r ∷ []
written_query (Pairing a b) = 0x41 ∷ a ∷ b ∷ []
written_query (Equality a b) = 0x42 ∷ a ∷ b ∷ []
written_query (Trace r z) = 0x43 ∷ r ∷ little 8 z

unfoldable pub written : Command → List ℕ
written End = 0x00 ∷ []
written (Begin h) = 0x10 ∷ h.rank ∷ little 8 h.q
written (Change u) = written_update u
written (Show w) = written_query w

abbrev pub code : Command → ℕ
code c = byte (written c) 0

-- ---- operands that fit their bytes

abbrev pub Bytes : List ℕ → Type 0
Bytes s = All (λ b. b < 256) s

abbrev pub Fits : ℕ → ℕ → Type 0
Fits n v = v < 256 ^ n

abbrev pub WritableUpdate : Update → Type 0
WritableUpdate (Unit r) = Bytes (r ∷ [])
WritableUpdate (Set r i v) = Bytes (r ∷ []) × Fits 2 i × Fits 8 v
WritableUpdate (Letter r i) = Bytes (r ∷ i ∷ [])
WritableUpdate (Product d a b) = Bytes (d ∷ a ∷ b ∷ [])
WritableUpdate (Sum d a b) = Bytes (d ∷ a ∷ b ∷ [])
WritableUpdate (Scale r v) = Bytes (r ∷ []) × Fits 8 v
WritableUpdate (InverseLetter r i) = Bytes (r ∷ i ∷ [])

abbrev pub WritableQuery : Query → Type 0
WritableQuery (Register r) = Bytes (r ∷ [])
WritableQuery (Pairing a b) = Bytes (a ∷ b ∷ [])
WritableQuery (Equality a b) = Bytes (a ∷ b ∷ [])
WritableQuery (Trace r z) = Bytes (r ∷ []) × Fits 8 z

abbrev pub Writable : Command → Type 0
Writable End = Bytes []
Writable (Begin h) = Bytes (h.rank ∷ []) × Fits 8 h.q
Writable (Change u) = WritableUpdate u
Writable (Show w) = WritableQuery w

-- ---- the claim

pub record CutOff (s : List ℕ) (at : ℕ) : Type 0 where
  pub command : Command
  pub begins : code command ≡ byte s at
  pub within : at < length s
  pub ends : length s < at + length (written command)

pub record Agrees : Type 0 where
  pub reads : (front rest : List ℕ) (c : Command) → Writable c
      → decode (front ++ (written c ++ rest)) (length front) ≡ Ok (c, length front + length (written c))
  pub stands : {c : Command} {after : ℕ} (s : List ℕ) (at : ℕ) → Bytes s → decode s at ≡ Ok (c, after)
      → (take (after - at) (drop at s) ≡ written c) × Writable c
  pub unknown : (s : List ℕ) (at : ℕ) → (decode s at ≡ Err NoCommand) ↔ ((at < length s) × ((c : Command) → code c ≢ byte s at))
  pub short : (s : List ℕ) (at : ℕ) → (decode s at ≡ Err Short) ↔ CutOff s at
  pub nothing : (s : List ℕ) (at : ℕ) → (decode s at ≡ Err Nothing) ↔ (length s ≤ at)
