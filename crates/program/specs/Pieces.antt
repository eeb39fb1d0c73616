-- What the program reads, what it prints, piece by piece, and what it is left with.
--
--   text_left ended s h k x     what the sheet s with the header h prints from the cursor k on, with the registers x: nothing where the run has ended
--   state_left ended s h k x    the state in which its run ends
--   Piece s h k x t used ended to y   the first `used` bytes of t are what s prints from the cursor k, with the registers x, to the cursor `to`, with y
--   PartOf s sent p             p is the part of what s prints that begins `sent` bytes after its front
--   Printing s h k x sent       what holds at the cursor is `Along`, and what is printed from there on begins `sent` bytes after the front of all that s prints
--   Printed s h x k sent        the run has ended with the state at the cursor k and the registers x, or leads on from there to that of the whole run; where the
--                               last part was written, it has ended, and so many bytes are sent as all that s prints
--   WritesFront old new p written   what a writer holds, where that is known, grows by a front of p, and by all of p where it was written
--   ReadInto i b                as many bytes as i says, if any, lie within the buffer b
--   ReadFront known i b         as many bytes of b as i says, if any, are what the reader had left, where that is known, as far as the buffer b reaches
--   Runs known old new e        where it is known what the reader had left, the writer, which held `old`, holds `new`: a front of what the sheet of the first
--                               4,097 bytes prints is added, or all of it, as e says; nothing where the input could not be read
use Rattle.std.specs.Prelude.{◌≡◌, ◌⊎◌, Bool, true, false, cond, List, [], ◌++◌, ℕ, ◌*◌, ◌≤◌, ◌<◌, length, take, drop, Option, IfSome, Result, Ok, Err, IfOk}
use Rattle.std.specs.Io.KnownBytes.{Appends}
use Rattle.sheet_format.specs.declared.Header.{Header}
use Rattle.runner.specs.Run.{State, obey_all, obeyed}
use Rattle.runner.specs.Turn.{state, ahead, Along}
use Rattle.runner.specs.declared.Cursor.{Cursor}
use Rattle.output.specs.Printed.{texts, printed}
use Rattle.program.specs.declared.Failure.{Failure}
use Rattle.program.specs.declared.Failure.TheVariants.{Unwritten, Unread}

abbrev pub text_left : Bool → List ℕ → Header → Cursor → List ℕ → List ℕ
text_left ended s h k x = cond ended [] (texts h (ahead s k.at) (state k x))

abbrev pub state_left : Bool → List ℕ → Header → Cursor → List ℕ → State
state_left ended s h k x = cond ended (state k x) (obey_all h (ahead s k.at) (state k x))

pub record Piece (s : List ℕ) (h : Header) (k : Cursor) (x t : List ℕ) (used : ℕ) (ended : Bool) (to : Cursor) (y : List ℕ) : Type 0 where
  pub text : take used t ++ text_left ended s h to y ≡ text_left false s h k x
  pub run : state_left ended s h to y ≡ state_left false s h k x
  pub within : used ≤ length t
  pub on : ended ≡ false → (k.at < to.at) × Along s h to y

abbrev pub PartOf : List ℕ → ℕ → List ℕ → Type 0
PartOf s sent p = p ≡ take (length p) (drop sent (printed s))

pub record Printing (s : List ℕ) (h : Header) (k : Cursor) (x : List ℕ) (sent : ℕ) : Type 0 where
  pub along : Along s h k x
  pub text : drop sent (printed s) ≡ text_left false s h k x
  pub run : state_left false s h k x ≡ obeyed s
  pub inside : sent ≤ length (printed s)
  pub few : sent ≤ 65536 * k.at

pub record Printed {E : Type 0} (s : List ℕ) (h : Header) (x : List ℕ) (k : Cursor) (sent : Result ℕ E) : Type 0 where
  pub text : IfOk sent (λ n. n ≡ length (printed s))
  pub run : IfOk sent (λ n. state k x ≡ obeyed s)
  pub left : (state_left true s h k x ≡ obeyed s) ⊎ (state_left false s h k x ≡ obeyed s)

pub record WritesFront (old new : Option (List ℕ)) (p : List ℕ) (written : Bool) : Type 0 where
  pub taken : ℕ
  pub within : taken ≤ length p
  pub grown : Appends old new (take taken p)
  pub whole : written ≡ true → taken ≡ length p

abbrev pub ReadInto : {E : Type 0} → Result ℕ E → List ℕ → Type 0
ReadInto i b = IfOk i (λ n. n ≤ length b)

abbrev pub ReadFront : {E : Type 0} → Option (List ℕ) → Result ℕ E → List ℕ → Type 0
ReadFront known i b = IfOk i (λ n. IfSome known (λ x. take n b ≡ take (length b) x))

abbrev pub Runs : Option (List ℕ) → Option (List ℕ) → Option (List ℕ) → Result (Unit {0}) Failure → Type 0
Runs known old new (Ok _) = IfSome known (λ x. WritesFront old new (printed (take 4097 x)) true)
Runs known old new (Err Unwritten) = IfSome known (λ x. WritesFront old new (printed (take 4097 x)) false)
Runs known old new (Err Unread) = new ≡ old
