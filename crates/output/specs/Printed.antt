-- What the program prints (document 01, "Run sheets", and document 02, Ticket 4).
--
--   shown h w x                what a query prints, with the registers x, in a sheet with the header h
--   text h c x                 what a command prints, with the state before it
--   texts h cs x               the same of the commands cs, one after another
--   refusal_text why           the line of a refused sheet
--   printed_for v s            all that is printed for the sheet s with the verdict v
--   printed s                  all that is printed for the sheet s
--   front t buffer             the text t put at the front of a buffer, and its size as the answer
--   in_range_text h c x        the same of a command in range; nothing for another
--   text_of h found x         the same of what is found at an offset
--   text_call s x h k buffer   what the next command of the sheet s prints, where x holds the registers: nothing for a buffer with less than the room, and
--                              for registers of another size than 4 × 720 words
--   error_call why buffer      the line of a refusal: nothing for a buffer with less than its room
use Rattle.std.specs.Prelude.{Ok, Err, cond, not, ◌&&◌, List, [], ◌∷◌, ◌++◌, ℕ, length}
use Rattle.ring.specs.Modular.{words}
use Rattle.lists.specs.Lists.{same, less, bit, equal}
use Rattle.lists.specs.Overwrite.{overwrite}
use Rattle.refusals.specs.Refusals.{Verdict, refusal_number, refusal_place, Outcome}
use Rattle.refusals.specs.declared.Refusal.{Refusal}
use Rattle.algebra.specs.Product.{minus_one}
use Rattle.algebra.specs.Pairing.{pairing}
use Rattle.markov_trace.specs.Trace.{trace}
use Rattle.sheet_format.specs.Format.{Decoded, decode, header}
use Rattle.sheet_format.specs.declared.Header.{Header}
use Rattle.sheet_format.specs.declared.Query.{Query}
use Rattle.sheet_format.specs.declared.Query.TheVariants.{Register, Pairing, Equality, Trace}
use Rattle.sheet_format.specs.declared.Command.{Command}
use Rattle.sheet_format.specs.declared.Command.TheVariants.{End, Begin, Change, Show}
use Rattle.operands.specs.Operands.{in_range}
use Rattle.sheet.specs.Check.{placed, commands, check_sheet}
use Rattle.machine.specs.Registers.{element}
use Rattle.runner.specs.Run.{State, start, after}
use Rattle.runner.specs.Turn.{state}
use Rattle.runner.specs.declared.Cursor.{Cursor}
use Rattle.output.specs.Text.{line, tagged_pair, coefficients, text_room, error_room}

-- the letters E, H, N, P, Q, R and T are 69, 72, 78, 80, 81, 82 and 84
unfoldable pub shown : Header → Query → List ℕ → List ℕ
shown h (Register r) x = line 82 r ++ coefficients 0 (element h.rank r x)
shown h (Pairing a b) x = line 80 (pairing ℕ words h.q h.rank (element h.rank a x) (element h.rank b x))
shown h (Equality a b) x = line 81 (bit (equal (element h.rank a x) (element h.rank b x)))
shown h (Trace r z) x = line 84 (trace ℕ words h.q (minus_one ℕ words h.q) z h.rank (element h.rank r x))

unfoldable pub text : Header → Command → State → List ℕ
text h End x = line 78 x.count
text h (Begin b) x = tagged_pair 72 b.rank b.q
text h (Change u) x = []
text h (Show w) x = shown h w x.contents

unfoldable pub texts : Header → List Command → State → List ℕ
texts h [] x = []
texts h (c ∷ cs) x = text h c x ++ texts h cs (after h c x)

abbrev pub refusal_text : Refusal → List ℕ
refusal_text why = tagged_pair 69 (refusal_number why) (refusal_place why)

abbrev pub printed_for : Verdict → List ℕ → List ℕ
printed_for (Ok _) s = texts (header s) (commands (placed s)) start
printed_for (Err why) s = refusal_text why

unfoldable pub printed : List ℕ → List ℕ
printed s = printed_for (check_sheet s) s

-- ---- the text in a lent buffer

unfoldable pub front : List ℕ → List ℕ → Outcome ℕ (List ℕ)
front t buffer = record { answer = length t; lent = overwrite 0 t buffer }

unfoldable pub in_range_text : Header → Command → State → List ℕ
in_range_text h c x = cond (in_range h.rank c) (text h c x) []

abbrev pub text_of : Header → Decoded → State → List ℕ
text_of h (Ok (c, next)) x = in_range_text h c x
text_of h (Err why) x = []

unfoldable pub text_call : List ℕ → List ℕ → Header → Cursor → List ℕ → Outcome ℕ (List ℕ)
text_call s x h k buffer =
    front (cond (not (less (length buffer) text_room) && same (length x) 2880) (text_of h (decode s k.at) (state k x)) []) buffer

unfoldable pub error_call : Refusal → List ℕ → Outcome ℕ (List ℕ)
error_call why buffer = front (cond (less (length buffer) error_room) [] (refusal_text why)) buffer
