-- Words at the front of an answer, what is returned and answered where a call is done and where it is refused, and what the word tells where no place is
-- above 4,096. Rests on refusals' Verdicts.
use mathlib.Core.Path.{◌≡◌, refl, sym, ap, ◌∙◌}
use mathlib.Core.List.{List, [], ◌∷◌}
use Prim.Native.Nat.{ℕ, ◌≤◌, ◌<◌}
use native.Mathlib.Omega.{arith}
use lib.ListN.{set}
use Rattle.refusals.specs.Refusals.{Verdict, Answered, Report, reported, verdict_of, verdict_report, answer_report, Refuses}
use Rattle.refusals.specs.declared.Refusal.{Refusal}
use Rattle.refusals.proofs.Verdicts.{number_within}
use Rattle.perm_calls.specs.Calls.{counted_report, generators_report}
use Rattle.perm_calls.specs.declared.Generators.{Generators}
use Rattle.returned.specs.Returned.{word_of, fill, told, Tells, returns}
use Rattle.std.specs.Prelude.{Result, Ok, Err}

-- ---- words at the front of an answer

pub fill_one : (a : ℕ) (r : List ℕ) → set r 0 a ≡ fill (a ∷ []) r
unfolding fill
fill_one a [] = refl
fill_one a (x ∷ r) = refl

pub fill_two : (a b : ℕ) (r : List ℕ) → set (set r 0 a) 1 b ≡ fill (a ∷ b ∷ []) r
unfolding fill
fill_two a b [] = refl
fill_two a b (x ∷ []) = refl
fill_two a b (x ∷ y ∷ r) = refl

-- ---- what is returned and answered

module _ {A : Type 0} (words : A → List ℕ) {r : Result A Refusal} (answer : List ℕ) where
  pub done_one : {x : A} {a : ℕ} {y : List ℕ} → r ≡ Ok x → words x ≡ a ∷ [] → y ≡ set answer 0 a → returns words r answer ≡ record { word = 0; lent = y }
  unfolding word_of
  done_one {a = a} e f g = let s = ap (λ l. fill l answer) f ∙ sym (fill_one a answer) ∙ sym g in rw e (λ i. record { word = 0; lent = s i })

  pub done_two : {x : A} {a b : ℕ} {y z : List ℕ} → r ≡ Ok x → words x ≡ a ∷ b ∷ [] → y ≡ set answer 0 a → z ≡ set y 1 b
      → returns words r answer ≡ record { word = 0; lent = z }
  unfolding word_of
  done_two {a = a} {b = b} e f g h =
      let s = ap (λ l. fill l answer) f ∙ sym (fill_two a b answer) ∙ ap (λ y. set y 1 b) (sym g) ∙ sym h in rw e (λ i. record { word = 0; lent = s i })

  pub refused_told : (why : Refusal) → r ≡ Err why → answer ≡ told words r answer
  refused_told why e = rw e refl

-- ---- the word

tells : (r : Report) → r.number < 256 → r.place ≤ 4096 → Tells (word_of r) r
unfolding word_of
tells r few near = record { whole = omega arith; number = omega arith; place = omega arith }

-- the count is no part of the word
reported_tells : (v : Verdict) (n : ℕ) → Refuses (reported v n) → Tells (word_of (verdict_report v)) (reported v n)
unfolding word_of
reported_tells (Ok _) n e = tells (reported (Ok tt) n) (omega arith) e.near
reported_tells (Err why) n e = tells (reported (Err why) n) (omega (arith, number_within why)) e.near

pub verdict_tells : (v : Verdict) → Refuses (verdict_report v) → Tells (word_of (verdict_report v)) (verdict_report v)
verdict_tells v e = reported_tells v 0 e

pub answer_tells : (a : Answered) → Refuses (answer_report a) → Tells (word_of (verdict_report (verdict_of a))) (answer_report a)
answer_tells a e = reported_tells (verdict_of a) _ e

pub counted_tells : (a : Result ℕ Refusal) → Refuses (counted_report a) → Tells (word_of (verdict_report (verdict_of a))) (counted_report a)
counted_tells (Ok n) e = reported_tells (Ok tt) n e
counted_tells (Err why) e = reported_tells (Err why) 0 e

pub generators_tells : (a : Result Generators Refusal) → Refuses (generators_report a) → Tells (word_of (verdict_report (verdict_of a))) (generators_report a)
generators_tells (Ok set) e = reported_tells (Ok tt) set.count e
generators_tells (Err why) e = reported_tells (Err why) 0 e
