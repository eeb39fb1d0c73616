-- The run of a sheet on lent registers: what its checks find, and what it leaves. Rests on Beginning, refusals' Ended
-- and lists' Test.
use mathlib.Core.Path.{◌≡◌, refl, sym, ap, ◌∙◌}
use mathlib.Core.Logic.{◌≢◌}
use mathlib.Core.List.{List}
use Prim.Native.Nat.{ℕ}
use lib.ListN.{length, replicate, length-replicate}
use Rattle.lists.proofs.Test.{same_yes, same_no}
use Rattle.refusals.specs.Refusals.{Verdict, Answered, accepted, refused, ended}
use Rattle.refusals.specs.declared.Refusal.{Refusal}
use Rattle.refusals.specs.declared.Refusal.TheVariants.{Buffer}
use Rattle.refusals.proofs.Ended.{ended_refused, ended_done}
use Rattle.sheet_format.specs.declared.Header.{Header}
use Rattle.sheet.specs.Check.{placed, commands, check_sheet}
use Rattle.machine.specs.Registers.{registers}
use Rattle.runner.specs.Run.{obey_all, obeyed, ran, given, run_sheet, run_verdict, run_call}
use Rattle.runner.specs.Turn.{begin_call}
use Rattle.runner.specs.declared.Cursor.{Cursor}
use Rattle.runner.proofs.Beginning.{begun_ready, begun_failed}
use Rattle.std.proofs.Common.{Ok, Err}

module _ (s x : List ℕ) {a : Answered} where
  pub sheet_refused : {why : Refusal} → begin_call s ≡ Err why → a ≡ refused why → run_call s x ≡ record { answer = a; lent = x }
  unfolding run_call run_verdict
  sheet_refused e f = ended_refused refused _ _ _ (rw (begun_failed s e) refl) f

  module _ {h : Header} {k : Cursor} (begun : begin_call s ≡ Ok (h, k)) where
    pub registers_refused : length x ≢ 2880 → a ≡ refused Buffer → run_call s x ≡ record { answer = a; lent = x }
    unfolding run_call run_verdict
    registers_refused n f = ended_refused refused _ _ _ (rw ((begun_ready s begun).accepted, same_no n) refl) f

    -- the registers were cleared to y, and are now z
    pub run_done : {n : ℕ} {y z : List ℕ} → length x ≡ 2880 → y ≡ replicate (length x) 0
        → obey_all h (commands (placed s)) (record { contents = y; count = 0 }) ≡ record { contents = z; count = n } → a ≡ accepted n
        → run_call s x ≡ record { answer = a; lent = z }
    unfolding run_call run_verdict
    run_done {n} {y} {z} four zeros done f =
        let cleared : y ≡ replicate 2880 0 = zeros ∙ ap (λ n. replicate n 0) four in
        let b = begun_ready s begun in
        let m : obeyed s ≡ record { contents = z; count = n } =
        (λ i. obey_all (b.header_is i) (commands (placed s)) (record { contents = sym cleared i; count = 0 })) ∙ done in
        ended_done refused x (rw (b.accepted, same_yes four) refl) (f ∙ ap (λ o. accepted o.count) (sym m)) (ap (λ o. o.contents) (sym m))

-- the call on registers of zeros
pub run_given : (s : List ℕ) {a : Answered} {y : List ℕ} → run_call s (replicate 2880 0) ≡ record { answer = a; lent = y }
    → record { registers = registers y; ending = a } ≡ run_sheet s
unfolding run_call run_verdict run_sheet ended
run_given s e = ap (λ o. record { registers = registers o.lent; ending = o.answer }) (sym e) ∙ go (check_sheet s) refl
  where
    go : (v : Verdict) → check_sheet s ≡ v → let o = run_call s (replicate 2880 0) in
        record { registers = registers o.lent; ending = o.answer } ≡ given (check_sheet s) (ran (check_sheet s) s)
    go (Ok _) e = rw (e, same_yes (length-replicate {A = ℕ} 2880 0)) refl
    go (Err why) e = rw e refl
