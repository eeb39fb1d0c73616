-- The table of refusals, for all calls and sheets (document 01, "Where each thing is checked", and document 02, Ticket 1).
--
--   refusal_number, refusal_place   the table's number and place of a refusal; the place is 0 where none is named
--   Verdict                         Ok, or Err and why something is refused
--   Answered                        the answer of a call that counts: Ok and the answer with its count, or Err and why it is refused
--   v then w                        the first refusal of two verdicts
--   unless bad why                  refused if the test holds
--   accepted n, refused why         the answers of a call that counts, with the count n, or refused
--   verdict_of r                    whether what gives r is refused, and why
--   count_of a, value_of r          the count of an answer, and the word that r gives: 0 for a refusal
--   Report                          what an answer says: the number, 0 where nothing is refused, the place, and the count
--   reported v n                    the report of a verdict beside a count
--   verdict_report v                the report of a verdict alone, which counts 0
--   answer_report a                 the report of an answer that has its count
--   Outcome A B                     an answer, and what is lent to the call, as the call leaves it
--   ended v refuse done old new     a call with the verdict v: refused, it answers by `refuse` and leaves what is lent as it was; else it answers
--                                   `done` and makes it new
--   Refuses r                       of a report: if something is refused, it counts 0; and no place is above 4,096
--   Keeps r old new                 and if something is refused, what is lent stays as it was
use Rattle.std.specs.Prelude.{◌≡◌, ◌≢◌, Bool, cond, ℕ, ◌≤◌, Result, Ok, Err}
use Rattle.refusals.specs.declared.Refusal.{Refusal}
use Rattle.refusals.specs.declared.Refusal.TheVariants.{Rank, Size, Scratch, Word, Letter, Length, Image, Entry, Buffer, Bytes, Unknown, CutOff, Order, Range, Ending, NoInverse}
use Rattle.refusals.specs.declared.Answer.{Answer}

abbrev pub refusal_number : Refusal → ℕ
refusal_number Rank = 1
refusal_number Size = 2
refusal_number Scratch = 3
refusal_number Word = 4
refusal_number (Letter i) = 4
refusal_number Length = 5
refusal_number (Image i) = 6
refusal_number (Entry i) = 7
refusal_number Buffer = 8
refusal_number Bytes = 9
refusal_number (Unknown at) = 10
refusal_number (CutOff at) = 11
refusal_number (Order at) = 12
refusal_number (Range at) = 13
refusal_number (Ending at) = 14
refusal_number (NoInverse at) = 15

abbrev pub refusal_place : Refusal → ℕ
refusal_place Rank = 0
refusal_place Size = 0
refusal_place Scratch = 0
refusal_place Word = 4096
refusal_place (Letter i) = i
refusal_place Length = 0
refusal_place (Image i) = i
refusal_place (Entry i) = i
refusal_place Buffer = 0
refusal_place Bytes = 0
refusal_place (Unknown at) = at
refusal_place (CutOff at) = at
refusal_place (Order at) = at
refusal_place (Range at) = at
refusal_place (Ending at) = at
refusal_place (NoInverse at) = at

abbrev pub Verdict : Type 0
Verdict = Result (Unit {0}) Refusal

abbrev pub Answered : Type 0
Answered = Result Answer Refusal

infixl 30 ◌then◌
abbrev pub ◌then◌ : Verdict → Verdict → Verdict
Ok _ then next = next
Err why then next = Err why

abbrev pub unless : Bool → Refusal → Verdict
unless bad why = cond bad (Err why) (Ok tt)

-- ---- answers

abbrev pub accepted : ℕ → Answered
accepted n = Ok (record { count = n })

abbrev pub refused : Refusal → Answered
refused why = Err why

abbrev pub verdict_of : {A : Type 0} → Result A Refusal → Verdict
verdict_of (Ok a) = Ok tt
verdict_of (Err why) = Err why

abbrev pub count_of : Answered → ℕ
count_of (Ok a) = a.count
count_of (Err why) = 0

abbrev pub value_of : Result ℕ Refusal → ℕ
value_of (Ok x) = x
value_of (Err why) = 0

pub record Report : Type 0 where
  pub number : ℕ
  pub place : ℕ
  pub count : ℕ

abbrev pub reported : Verdict → ℕ → Report
reported (Ok _) n = record { number = 0; place = 0; count = n }
reported (Err why) n = record { number = refusal_number why; place = refusal_place why; count = n }

abbrev pub verdict_report : Verdict → Report
verdict_report v = reported v 0

abbrev pub answer_report : Answered → Report
answer_report a = reported (verdict_of a) (count_of a)

-- ---- calls

pub record Outcome (A B : Type 0) : Type 0 where
  pub answer : A
  pub lent : B

unfoldable pub ended : {A B : Type 0} → Verdict → (Refusal → A) → A → B → B → Outcome A B
ended (Ok _) refuse done old new = record { answer = done; lent = new }
ended (Err why) refuse done old new = record { answer = refuse why; lent = old }

pub record Refuses (r : Report) : Type 0 where
  pub counts : r.number ≢ 0 → r.count ≡ 0
  pub near : r.place ≤ 4096

pub record Keeps {B : Type 0} (r : Report) (old new : B) : Type 0 where
  pub refuses : Refuses r
  pub lent : r.number ≢ 0 → new ≡ old
