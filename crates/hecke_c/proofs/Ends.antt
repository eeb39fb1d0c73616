-- What a call gives, from how it ends and what is told of its answer. Rests on the definitions alone.
use mathlib.Core.Path.{◌≡◌, sym, ap, ◌∙◌}
use mathlib.Core.List.{List}
use Prim.Native.Nat.{ℕ}
use Rattle.std.specs.Prelude.{Result}
use Rattle.refusals.specs.Refusals.{Verdict, verdict_report, Outcome}
use Rattle.refusals.specs.declared.Refusal.{Refusal}
use Rattle.returned.specs.Returned.{word_of, Returned, returns}
use Rattle.hecke_c.specs.Calls.{verdict_call, answered_call}

module _ {A : Type 0} {w : ℕ} {lent : A} where
  pub verdict_call_lem : {o : Outcome Verdict A} {v : Verdict} → o ≡ record { answer = v; lent = lent } → w ≡ word_of (verdict_report v)
      → verdict_call o ≡ record { word = w; lent = lent }
  verdict_call_lem e f = ap verdict_call e ∙ (λ i. record { word = sym f i; lent = lent })

  -- whatever the call answers
  pub answered_call_lem : {B : Type 0} (words : B → List ℕ) {y : List ℕ} (answer : List ℕ) {o : Outcome (Result B Refusal) A} {a : Result B Refusal}
      → o ≡ record { answer = a; lent = lent } → returns words a answer ≡ record { word = w; lent = y }
      → answered_call words o answer ≡ record { word = w; lent = lent; answer = y }
  unfolding answered_call
  answered_call_lem words answer e f = ap (λ o. answered_call words o answer) e ∙ (λ i. record { word = (f i).word; lent = lent; answer = (f i).lent })

-- a call that leaves nothing but its answer
pub told_answer : {B : Type 0} (words : B → List ℕ) {r s : Result B Refusal} {x : Returned (List ℕ)} (answer : List ℕ) → r ≡ s → returns words r answer ≡ x
    → returns words s answer ≡ x
told_answer words answer e f = ap (λ r. returns words r answer) (sym e) ∙ f
