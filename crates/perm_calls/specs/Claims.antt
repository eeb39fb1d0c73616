-- What holds of the checks, of the refusals of the seven calls, and of what two of them answer.
--
--   Checks                 what the checks accept: permutations and towers within document 01's sizes, and nothing else
--   Refusals               a call that is refused counts 0 and leaves its buffer as it was
--   DescentSet m w a       for a permutation w of rank m, the answer a is a mask and a number: bit i - 1 is set exactly where ℓ(s_i w) < ℓ(w),
--                          no other bit is set, and the number is that of these s_i, and of the set bits
--   WordResult n x b c     a call c on the buffer b counts n, makes x the first n bytes of the buffer, and leaves those after them as they were
--   Answers                both, for each tower within document 01's sizes
use Rattle.std.specs.Prelude.{◌≡◌, ◌↔◌, List, ℕ, pred, ◌-◌, ◌/◌, ◌%◌, ◌^◌, ◌≤◌, ◌<◌, length, take, drop, Result, Ok}
use Rattle.std.specs.Int.Count.{ones}
use Rattle.lists.specs.Lists.{less, range, tally}
use Rattle.refusals.specs.Refusals.{Outcome, verdict_report, Refuses, Keeps}
use Rattle.refusals.specs.declared.Refusal.{Refusal}
use Rattle.perms.specs.Permutation.{Perm, product, generator, len, Letter}
use Rattle.perms.specs.Tower.{Tower, standard, images_of}
use Rattle.perm_calls.specs.Calls.{images_verdict, tower_verdict, towers_verdict, tower_of_call, images_of_call, inverse_call, product_call, length_call, standard_word_call, descents_call, counted_report, generators_report}
use Rattle.perm_calls.specs.declared.Generators.{Generators}

pub record Checks : Type 0 where
  pub images : (w : List ℕ) → (images_verdict w ≡ Ok tt) ↔ ((1 ≤ length w) × (length w ≤ 64) × Perm (pred (length w)) w)
  pub tower : (t : List ℕ) → (tower_verdict t ≡ Ok tt) ↔ ((length t ≤ 63) × Tower (length t) t)
  pub towers : (t u : List ℕ) → (towers_verdict t u ≡ Ok tt) ↔ ((length t ≤ 63) × Tower (length t) t × Tower (length t) u)

pub record Refusals : Type 0 where
  pub tower_of_lem : (w buffer : List ℕ) → Keeps (verdict_report (tower_of_call w buffer).answer) buffer (tower_of_call w buffer).lent
  pub images_of_lem : (t buffer : List ℕ) → Keeps (verdict_report (images_of_call t buffer).answer) buffer (images_of_call t buffer).lent
  pub inverse : (t buffer : List ℕ) → Keeps (verdict_report (inverse_call t buffer).answer) buffer (inverse_call t buffer).lent
  pub product : (t u buffer : List ℕ) → Keeps (verdict_report (product_call t u buffer).answer) buffer (product_call t u buffer).lent
  pub lengths : (t : List ℕ) → Refuses (counted_report (length_call t))
  pub word : (t buffer : List ℕ) → Keeps (counted_report (standard_word_call t buffer).answer) buffer (standard_word_call t buffer).lent
  pub descents : (t : List ℕ) → Refuses (generators_report (descents_call t))

-- ---- answers

pub record DescentSet (m : ℕ) (w : List ℕ) (answer : Result Generators Refusal) : Type 0 where
  pub bits : ℕ
  pub size : ℕ
  pub is : answer ≡ Ok (record { mask = bits; count = size })
  pub each : (i : ℕ) → Letter m i → (bits / 2 ^ (i - 1) % 2 ≡ 1) ↔ (len (product (generator m i) w) < len w)
  pub no_other : bits < 2 ^ m
  pub number : size ≡ tally (λ i. less (len (product (generator m i) w)) (len w)) (range 1 m)
  pub set_bits : size ≡ ones bits

pub record WordResult (n : ℕ) (word buffer : List ℕ) (call : Outcome (Result ℕ Refusal) (List ℕ)) : Type 0 where
  pub count : call.answer ≡ Ok n
  pub letters : take n call.lent ≡ word
  pub after : drop n call.lent ≡ drop n buffer

pub record Answers : Type 0 where
  pub descents : (t : List ℕ) → length t ≤ 63 → Tower (length t) t → DescentSet (length t) (images_of t) (descents_call t)
  pub word : (t buffer : List ℕ) → length t ≤ 63 → Tower (length t) t → len (images_of t) ≤ length buffer
      → WordResult (len (images_of t)) (standard t) buffer (standard_word_call t buffer)
