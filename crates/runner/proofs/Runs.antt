-- What holds of the run of every sheet: the record `Runs`. Rests on Kept, Ahead, Running, sheet's Table and refusals' Ended.
use mathlib.Core.Path.{◌≡◌, refl, sym, ap, ◌∙◌}
use mathlib.Core.Bool.{not}
use mathlib.Core.List.{List}
use Prim.Native.Nat.{ℕ, ◌+◌, ◌*◌, ◌-◌, ◌^◌, ◌<◌}
use native.Mathlib.Omega.{arith}
use lib.ListN.{length, drop, replicate, length-drop, length-replicate, get_or-replicate}
use lib.Seq.{length-take-le, get_or-take, get_or-drop, ext_get_or}
use Rattle.lists.specs.Lists.{same}
use Rattle.lists.proofs.Test.{less_no}
use Rattle.refusals.specs.Refusals.{Verdict, ◌then◌, unless, answer_report, Refuses, Keeps}
use Rattle.refusals.specs.declared.Refusal.TheVariants.{Buffer}
use Rattle.refusals.proofs.Verdicts.{Near, near_then, near_unless}
use Rattle.refusals.proofs.Ended.{ended_keeps}
use Rattle.ranks.proofs.Sizes.{size_is}
use Rattle.sheet_format.specs.Format.{header}
use Rattle.sheet.specs.Check.{placed, commands, check_sheet}
use Rattle.sheet.proofs.Table.{exactly}
use Rattle.machine.specs.Registers.{register}
use Rattle.runner.specs.Run.{start, obeyed, ran, given, run_sheet, finished_report, run_verdict, run_call}
use Rattle.runner.specs.Turn.{begun_for, begun_report, begin_call}
use Rattle.runner.specs.Runs.{M, Runs}
use Rattle.runner.proofs.Ahead.{rank_low, all_may_run}
use Rattle.runner.proofs.Running.{turns_end}
use Rattle.runner.proofs.Kept.{Kept, kept_zeros, kept_all}
use Rattle.std.proofs.Common.{Ok, Err}

module _ {M : ℕ} {x : List ℕ} (k : Kept M x) (r : ℕ) (four : r < 4) where
  register_size : length (register r x) ≡ 720
  unfolding register
  register_size = length-take-le 720 (drop (720 * r) x) (rw length-drop (omega (arith, k.four)))

  register_past : drop M (register r x) ≡ replicate (720 - M) 0
  unfolding register
  register_past =
      let n : length (drop M (register r x)) ≡ 720 - M = length-drop M (register r x) ∙ ap (λ n. n - M) register_size in
      ext_get_or 0 (drop M (register r x)) (replicate (720 - M) 0) (n ∙ sym (length-replicate (720 - M) 0)) (λ i l.
      get_or-drop M (register r x) i 0
      ∙ get_or-take 720 (drop (720 * r) x) (M + i) 0 (omega arith)
      ∙ get_or-drop (720 * r) x (M + i) 0
      ∙ k.past r (M + i) four (omega arith) (omega arith)
      ∙ sym (get_or-replicate (720 - M) i 0 0 (omega arith)))

kept : (s : List ℕ) (v : Verdict) → check_sheet s ≡ v → Kept (M s) (ran v s).contents
kept s (Err why) e = kept_zeros (M s)
kept s (Ok _) e = let low = rank_low s e in
    rw (less_no {x = 5} {a = (header s).rank} low, size_is (header s).rank (omega arith))
    (kept_all (header s) (commands (placed s)) start (all_may_run s e) (kept_zeros _))

keeps : (s x : List ℕ) → Keeps (answer_report (run_call s x).answer) x (run_call s x).lent
unfolding run_call run_verdict
keeps s x =
    let four = not (same (length x) 2880) in
    ended_keeps answer_report (check_sheet s then unless four Buffer) _ _ (obeyed s).count x _ (λ why. refl) refl
    (near_then (check_sheet s) (unless four Buffer) (exactly s).report.near (λ e. near_unless four Buffer (λ t. omega arith)))

reports : (s : List ℕ) (v : Verdict) → check_sheet s ≡ v → Near v → Refuses (finished_report (given v (ran v s)))
reports s (Ok _) e h = record { counts = λ d. absurd (d refl); near = h }
reports s (Err why) e h = record { counts = λ d. refl; near = h }

begins : (s : List ℕ) (v : Verdict) → Near v → Refuses (begun_report (begun_for v s))
begins s (Ok _) h = record { counts = λ d. absurd (d refl); near = h }
begins s (Err why) h = record { counts = λ d. refl; near = h }

-- the count of the last cursor is that of the whole sheet
word : (s : List ℕ) → check_sheet s ≡ Ok tt → (obeyed s).count < 2 ^ 64
word s a = let t = turns_end s a (replicate 2880 0) (length-replicate {A = ℕ} 2880 0) in omega (arith, t.word, ap (λ o. o.count) t.is)

pub runs : (s : List ℕ) → Runs s
unfolding run_sheet begin_call
runs s = let k = kept s (check_sheet s) refl in record {
  four = register_size k;
  past = register_past k;
  report = reports s (check_sheet s) refl (exactly s).report.near;
  begins = begins s (check_sheet s) (exactly s).report.near;
  refused = λ why e. rw e refl;
  allowed = all_may_run s;
  folds = λ a x four. let t = turns_end s a x four in (t.ended, t.is);
  word = λ a. word s a;
  lent = keeps s;
}
