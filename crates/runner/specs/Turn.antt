-- One command of a sheet: where a run begins, and what a turn of it does.
--
--   state k x             the state at the cursor k, with the registers x
--   first                 the cursor of a run that has obeyed nothing
--   Begun                 how a run begins: with a header and a cursor, or with why it is refused
--   begun_for v s         how a run of the sheet s with the verdict v begins
--   begun_report b        number, place and count of how a run begins
--   begin_call s          how a run of the sheet s begins: with its header and the first cursor, or with its refusal
--   fits h k c            the count of the command c can be added to that of the cursor k: their sum is a word
--   obeys h k c x         the command is obeyed on the registers x: it may run, these are 4 × 720 words, and its count fits
--   moved h k c after     the cursor after the command, where `after` is the offset after it
--   onward c k            the next cursor, where k is the cursor after the command: none after the end
--   Turned                what a turn answers: the next cursor, none after the end, or that nothing is done
--   turn_of h k found x    what a turn answers and leaves, where `found` stands at the cursor; nothing is done where that is not obeyed
--   turned_report t       number, place and count of what a turn answers: neither document has a number for a command that is not obeyed
--   turn_call s h k x     what a turn of the sheet s answers and leaves
--   goes_on t y k f       after a turn at the cursor k that answered t and left y: f from the next cursor on, if there is one
--   Course                where turns come to: the cursor before the last turn that went on no further, what that one answered, and the registers
--   turns n s h k x       n turns, or fewer where one answers no cursor
--   ahead s at            the commands of the sheet s from an offset on
--   Along s h k x         what holds at each cursor k of a run of an accepted sheet s with the header h, with the registers x: the check from there on finds
--                         nothing, and the count is at most that of a product of rank 5 for each byte before
use Rattle.std.specs.Prelude.{◌≡◌, Bool, cond, ◌&&◌, List, ℕ, zero, suc, ◌+◌, ◌*◌, ◌-◌, ◌^◌, ◌≤◌, length, Option, Some, None, Result, Ok, Err}
use Rattle.lists.specs.Lists.{same, less}
use Rattle.refusals.specs.Refusals.{Verdict, Report, reported, Outcome}
use Rattle.refusals.specs.declared.Refusal.{Refusal}
use Rattle.sheet_format.specs.Format.{Decoded, decode, header}
use Rattle.sheet_format.specs.declared.Header.{Header}
use Rattle.sheet_format.specs.declared.Command.{Command}
use Rattle.operands.specs.Operands.{may_run}
use Rattle.sheet.specs.Check.{is_end, placed_from, commands, first_refusal, check_sheet}
use Rattle.costs.specs.Costs.{cost}
use Rattle.machine.specs.Step.{obey, not_obeyed}
use Rattle.machine.specs.declared.NotObeyed.{NotObeyed}
use Rattle.runner.specs.Run.{State}
use Rattle.runner.specs.declared.Cursor.{Cursor}

abbrev pub state : Cursor → List ℕ → State
state k x = record { contents = x; count = k.count }

abbrev pub first : Cursor
first = record { at = 0; count = 0 }

abbrev pub Begun : Type 0
Begun = Result (Header × Cursor) Refusal

abbrev pub begun_for : Verdict → List ℕ → Begun
begun_for (Ok _) s = Ok (header s, first)
begun_for (Err why) s = Err why

abbrev pub begun_report : Begun → Report
begun_report (Ok (h, k)) = reported (Ok tt) k.count
begun_report (Err why) = reported (Err why) 0

unfoldable pub begin_call : List ℕ → Begun
begin_call s = begun_for (check_sheet s) s

unfoldable pub fits : Header → Cursor → Command → Bool
fits h k c = less (k.count + cost h.rank c) (2 ^ 64)

unfoldable pub obeys : Header → Cursor → Command → List ℕ → Bool
obeys h k c x = may_run h c && same (length x) 2880 && fits h k c

abbrev pub moved : Header → Cursor → Command → ℕ → Cursor
moved h k c after = record { at = after; count = k.count + cost h.rank c }

abbrev pub onward : Command → Cursor → Option Cursor
onward c k = cond (is_end c) None (Some k)

abbrev pub Turned : Type 0
Turned = Result (Option Cursor) NotObeyed

abbrev pub turn_of : Header → Cursor → Decoded → List ℕ → Outcome Turned (List ℕ)
turn_of h k (Ok (c, after)) x =
    cond (obeys h k c x) (record { answer = Ok (onward c (moved h k c after)); lent = obey h c x }) (record { answer = not_obeyed; lent = x })
turn_of h k (Err why) x = record { answer = not_obeyed; lent = x }

abbrev pub turned_report : Turned → Report
turned_report (Ok (Some k)) = reported (Ok tt) k.count
turned_report (Ok None) = reported (Ok tt) 0
turned_report (Err e) = reported (Ok tt) 0

unfoldable pub turn_call : List ℕ → Header → Cursor → List ℕ → Outcome Turned (List ℕ)
turn_call s h k x = turn_of h k (decode s k.at) x

-- ---- one after another

pub record Course : Type 0 where
  pub cursor : Cursor
  pub last : Turned
  pub contents : List ℕ

abbrev pub goes_on : Turned → List ℕ → Cursor → (Cursor → List ℕ → Course) → Course
goes_on (Ok (Some next)) y k f = f next y
goes_on (Ok None) y k f = record { cursor = k; last = Ok None; contents = y }
goes_on (Err e) y k f = record { cursor = k; last = Err e; contents = y }

unfoldable pub turns : ℕ → List ℕ → Header → Cursor → List ℕ → Course
turns zero s h k x = record { cursor = k; last = Ok (Some k); contents = x }
turns (suc n) s h k x = let o = turn_call s h k x in goes_on o.answer o.lent k (turns n s h)

abbrev pub ahead : List ℕ → ℕ → List Command
ahead s at = commands (placed_from (suc (length s - at)) s at)

pub record Along (s : List ℕ) (h : Header) (k : Cursor) (x : List ℕ) : Type 0 where
  pub header_is : h ≡ header s
  pub short : length s ≤ 4096
  pub accepted : first_refusal s (placed_from (suc (length s - k.at)) s k.at) ≡ Ok tt
  pub four : length x ≡ 2880
  pub few : k.count ≤ 2027640 * k.at
