-- The run of a whole sheet (document 01, "Run sheets", and document 02, Ticket 1).
--
--   State                 the words of the registers and the count
--   start                 zero elements, and the count 0
--   after h c x           the state after a command, in a sheet with the header h
--   obey_all h cs x       the state after the commands cs, one after another
--   obeyed s              the state after all commands of the sheet s
--   ran v s               the state after the sheet s with the verdict v
--   ending v n            how a sheet with the verdict v ends, where n is its count
--   given v x             the verdict and the state as they are given back
--   run_sheet s           what the run of a sheet gives back
--   finished_report f     number, place and count of what is given back
--   run_verdict s x       9 to 15: on the sheet; then 8: on lent registers x, which are to be 4 × 720 words
--   run_call s x          the run of a sheet on lent registers
use Rattle.std.specs.Prelude.{not, List, [], ◌∷◌, ℕ, ◌+◌, length, replicate, Ok, Err}
use Rattle.lists.specs.Lists.{same}
use Rattle.refusals.specs.Refusals.{Verdict, Answered, ◌then◌, unless, accepted, refused, Report, answer_report, Outcome, ended}
use Rattle.refusals.specs.declared.Refusal.TheVariants.{Buffer}
use Rattle.sheet_format.specs.Format.{header}
use Rattle.sheet_format.specs.declared.Header.{Header}
use Rattle.sheet_format.specs.declared.Command.{Command}
use Rattle.sheet.specs.Check.{placed, commands, check_sheet}
use Rattle.costs.specs.Costs.{cost}
use Rattle.machine.specs.Registers.{registers}
use Rattle.machine.specs.Step.{obey}
use Rattle.runner.specs.declared.Finished.{Finished}

pub record State : Type 0 where
  pub contents : List ℕ
  pub count : ℕ

abbrev pub start : State
start = record { contents = replicate 2880 0; count = 0 }

abbrev pub after : Header → Command → State → State
after h c x = record { contents = obey h c x.contents; count = x.count + cost h.rank c }

unfoldable pub obey_all : Header → List Command → State → State
obey_all h [] x = x
obey_all h (c ∷ cs) x = obey_all h cs (after h c x)

abbrev pub obeyed : List ℕ → State
obeyed s = obey_all (header s) (commands (placed s)) start

abbrev pub ran : Verdict → List ℕ → State
ran (Ok _) s = obeyed s
ran (Err why) s = start

abbrev pub ending : Verdict → ℕ → Answered
ending (Ok _) n = accepted n
ending (Err why) n = refused why

abbrev pub given : Verdict → State → Finished
given v x = record { registers = registers x.contents; ending = ending v x.count }

unfoldable pub run_sheet : List ℕ → Finished
run_sheet s = given (check_sheet s) (ran (check_sheet s) s)

abbrev pub finished_report : Finished → Report
finished_report f = answer_report f.ending

unfoldable pub run_verdict : List ℕ → List ℕ → Verdict
run_verdict s x = check_sheet s then unless (not (same (length x) 2880)) Buffer

unfoldable pub run_call : List ℕ → List ℕ → Outcome Answered (List ℕ)
run_call s x = ended (run_verdict s x) refused (accepted (obeyed s).count) x (obeyed s).contents
