-- A call that is refused counts 0 and leaves every lent slice as it was, or gives 0, and a place is at most 4,096: the record `Refusals`. Rests on Verdicts,
-- SignedVerdicts, Answers, and refusals' Verdicts and Ended.
use mathlib.Core.Path.{◌≡◌, refl}
use mathlib.Core.Logic.{◌≢◌}
use mathlib.Core.Bool.{not}
use Prim.Native.Nat.{ℕ}
use native.Mathlib.Omega.{arith}
use lib.ListN.{length}
use Rattle.lists.specs.Lists.{same, less}
use Rattle.refusals.specs.Refusals.{◌then◌, accepted, answer_report, ended, Keeps, value_of}
use Rattle.refusals.specs.declared.Refusal.TheVariants as R
use Rattle.refusals.proofs.Verdicts.{Near, near_then, near_unless}
use Rattle.refusals.proofs.Ended.{ended_keeps, refuses_verdict}
use Rattle.ranks.specs.Ranks.{size, scratch_size}
use Rattle.element_calls.specs.Calls.{rank_verdict, size_verdict, scratch_verdict, word_verdict, write, valued, give, valued_report, sum_call, scale_call, act_word_call, act_signed_word_call, product_call, pairing_call, trace_call}
use Rattle.element_calls.specs.Claims.{Refusals}
use Rattle.element_calls.proofs.Verdicts.{word_near}
use Rattle.element_calls.proofs.SignedVerdicts.{signed_near}
use Rattle.element_calls.proofs.Answers.{pairing_checks, pairing_verdict, trace_checks}
use Rattle.std.specs.Prelude.{Ok, Err}
use Rattle.refusals.specs.Refusals.{Verdict}

rank_near : (m : ℕ) → Near (rank_verdict m)
unfolding rank_verdict
rank_near m = near_unless (less 6 m) R.Rank (λ t. omega arith)

size_near : (m n : ℕ) → Near (size_verdict m n)
unfolding size_verdict
size_near m n = near_unless (not (same n (size m))) R.Size (λ t. omega arith)

scratch_near : (m n : ℕ) → Near (scratch_verdict m n)
unfolding scratch_verdict
scratch_near m n = near_unless (less n (scratch_size m)) R.Scratch (λ t. omega arith)

-- one check more
more : (a b : Verdict) → Near a → Near b → Near (a then b)
more a b h k = near_then a b h (λ e. k)

one_near : (m a : ℕ) → Near (rank_verdict m then size_verdict m a)
one_near m a = more (rank_verdict m) (size_verdict m a) (rank_near m) (size_near m a)

two_near : (m a b : ℕ) → Near (rank_verdict m then size_verdict m a then size_verdict m b)
two_near m a b = more (rank_verdict m then size_verdict m a) (size_verdict m b) (one_near m a) (size_near m b)

three_near : (m a b c : ℕ) → Near (rank_verdict m then size_verdict m a then size_verdict m b then size_verdict m c)
three_near m a b c = more (rank_verdict m then size_verdict m a then size_verdict m b) (size_verdict m c) (two_near m a b) (size_near m c)

write_keeps : {A : Type 0} (v : Verdict) (old new : A) (n : ℕ) → Near v → Keeps (answer_report (write v old new n).answer) old (write v old new n).lent
write_keeps v old new n h = ended_keeps answer_report v _ (accepted n) n old new (λ why. refl) refl h

give_keeps : {A : Type 0} (v : Verdict) (x : ℕ) (old new : A) → Near v → Keeps (valued_report (give v x old new).answer) old (give v x old new).lent
give_keeps v x old new h = ended_keeps valued_report v _ (valued (Ok tt) x) 0 old new (λ why. refl) refl h

valued_zero : (v : Verdict) (x : ℕ) → (valued_report (valued v x)).number ≢ 0 → value_of (valued v x) ≡ 0
valued_zero (Ok _) x d = absurd (d refl)
valued_zero (Err why) x d = refl

give_zero : {A : Type 0} (v : Verdict) (x : ℕ) (old new : A) → (valued_report (give v x old new).answer).number ≢ 0 → value_of (give v x old new).answer ≡ 0
unfolding ended
give_zero (Ok _) x old new d = absurd (d refl)
give_zero (Err why) x old new d = refl

pub refusals : Refusals
unfolding sum_call scale_call act_word_call act_signed_word_call product_call pairing_call trace_call
refusals = record {
  sum = λ m h g result. write_keeps _ _ _ _ (three_near m (length h) (length g) (length result));
  scale = λ m c h result. write_keeps _ _ _ _ (two_near m (length h) (length result));
  act_word_lem = λ m q x h.
      write_keeps _ _ _ _ (more (rank_verdict m then size_verdict m (length h)) (word_verdict m x) (one_near m (length h)) (word_near m x));
  act_signed_word_lem = λ m q x h. write_keeps _ _ _ _ (signed_near m (length h) q x (one_near m (length h)));
  product = λ m q h g result scratch.
      let three = rank_verdict m then size_verdict m (length h) then size_verdict m (length g) then size_verdict m (length result) in
      write_keeps _ _ _ _
      (more three (scratch_verdict m (length scratch)) (three_near m (length h) (length g) (length result)) (scratch_near m (length scratch)));
  pairing = λ m q h g. rw (pairing_verdict m q h g) (refuses_verdict (pairing_checks m q h g) (two_near m (length h) (length g)));
  pairing_zero = λ m q h g. valued_zero (pairing_checks m q h g) _;
  trace = λ m q z h scratch.
      let one = rank_verdict m then size_verdict m (length h) in
      give_keeps _ _ _ _ (more one (scratch_verdict m (length scratch)) (one_near m (length h)) (scratch_near m (length scratch)));
  trace_zero = λ m q z h scratch. give_zero (trace_checks m q z h scratch) _ _ _;
}
