-- The two ways a call ends: it is refused and leaves what is lent as it was, or it is done. Rests on Verdicts.
use mathlib.Core.Path.{◌≡◌, refl, sym}
use Prim.Native.Nat.{ℕ}
use native.Mathlib.Omega.{arith}
use Rattle.refusals.specs.Refusals.{Report, reported, verdict_report, ended, Refuses, Keeps}
use Rattle.refusals.specs.declared.Refusal.{Refusal}
use Rattle.refusals.proofs.Verdicts.{Near}
use Rattle.std.specs.Prelude.{Ok, Err}
use Rattle.refusals.specs.Refusals.{Verdict}

module _ {A B : Type 0} where
  pub ended_refused : {v : Verdict} {why : Refusal} {a : A} (refuse : Refusal → A) (done : A) (old new : B) → v ≡ Err why → a ≡ refuse why
      → ended v refuse done old new ≡ record { answer = a; lent = old }
  unfolding ended
  ended_refused refuse done old new e f = rw e (λ i. record { answer = sym f i; lent = old })

  pub ended_done : {v : Verdict} {a done : A} {new last : B} (refuse : Refusal → A) (old : B) → v ≡ Ok tt → a ≡ done → last ≡ new
      → ended v refuse done old new ≡ record { answer = a; lent = last }
  unfolding ended
  ended_done refuse old e f g = rw e (λ i. record { answer = sym f i; lent = sym g i })

  -- a refusal counts 0 and keeps what is lent
  pub ended_keeps : (report : A → Report) (v : Verdict) (refuse : Refusal → A) (done : A) (n : ℕ) (old new : B)
      → ((why : Refusal) → report (refuse why) ≡ reported (Err why) 0) → report done ≡ reported (Ok tt) n → Near v
      → Keeps (report (ended v refuse done old new).answer) old (ended v refuse done old new).lent
  unfolding ended
  ended_keeps report (Ok _) refuse done n old new e f h = rw f (record {
    refuses = record { counts = λ d. absurd (d refl); near = omega arith };
    lent = λ d. absurd (d refl);
  })
  ended_keeps report (Err why) refuse done n old new e f h = rw (e why) (record {
    refuses = record { counts = λ d. refl; near = h };
    lent = λ d. refl;
  })

pub refuses_verdict : (v : Verdict) → Near v → Refuses (verdict_report v)
refuses_verdict (Ok _) h = record { counts = λ d. refl; near = h }
refuses_verdict (Err why) h = record { counts = λ d. refl; near = h }
