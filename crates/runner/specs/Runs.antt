-- What holds of the run of every sheet.
--
--   final_words s   the words of the registers after the sheet s
--   M s             the words of an element of its rank, and 0 where no sheet has this rank
--   Runs s          the claim: each register has 720 words and is zero past M; a refused sheet leaves all words zero and the count 0, by its report and by
--                   how its run begins; in an accepted sheet each command may run, so that the step obeys it, turns from the first cursor on obey
--                   all and come to the end, and the count is a word; on lent registers a refusal counts 0 and leaves them as they were
use Rattle.std.specs.Prelude.{◌≡◌, true, cond, List, ℕ, ◌-◌, ◌^◌, ◌<◌, length, drop, replicate, None, Ok, Err}
use Rattle.lists.specs.Lists.{less, All}
use Rattle.refusals.specs.Refusals.{answer_report, Refuses, Keeps}
use Rattle.refusals.specs.declared.Refusal.{Refusal}
use Rattle.ranks.specs.Ranks.{size}
use Rattle.sheet_format.specs.Format.{header}
use Rattle.operands.specs.Operands.{may_run}
use Rattle.sheet.specs.Check.{placed, commands, check_sheet}
use Rattle.machine.specs.Registers.{register}
use Rattle.runner.specs.Run.{start, obey_all, obeyed, ran, run_sheet, finished_report, run_call}
use Rattle.runner.specs.Turn.{state, first, begun_report, begin_call, turns}

abbrev pub final_words : List ℕ → List ℕ
final_words s = (ran (check_sheet s) s).contents

abbrev pub M : List ℕ → ℕ
M s = cond (less 5 (header s).rank) 0 (size (header s).rank)

pub record Runs (s : List ℕ) : Type 0 where
  pub four : (r : ℕ) → r < 4 → length (register r (final_words s)) ≡ 720
  pub past : (r : ℕ) → r < 4 → drop (M s) (register r (final_words s)) ≡ replicate (720 - M s) 0
  pub report : Refuses (finished_report (run_sheet s))
  pub begins : Refuses (begun_report (begin_call s))
  pub refused : (why : Refusal) → check_sheet s ≡ Err why → ran (check_sheet s) s ≡ start
  pub allowed : check_sheet s ≡ Ok tt → All (λ c. may_run (header s) c ≡ true) (commands (placed s))
  pub folds : check_sheet s ≡ Ok tt → (x : List ℕ) → length x ≡ 2880 → let o = turns (length s) s (header s) first x in (o.last ≡ Ok None)
      × (state o.cursor o.contents ≡ obey_all (header s) (commands (placed s)) (record { contents = x; count = 0 }))
  pub word : check_sheet s ≡ Ok tt → (obeyed s).count < 2 ^ 64
  pub lent : (x : List ℕ) → Keeps (answer_report (run_call s x).answer) x (run_call s x).lent
