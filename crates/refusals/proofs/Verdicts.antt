-- What acceptance says of verdicts that are joined, and which places and numbers refusals have. Rests on the definitions alone.
--
--   Near v    a refusal of the verdict v has a place of at most 4,096
use mathlib.Core.Path.{◌≡◌, refl, ap, ap₂, ◌∙◌}
use mathlib.Core.Bool.{Bool, true, false}
use Prim.Native.Nat.{ℕ, ◌≤◌, ◌<◌}
use native.Mathlib.Omega.{arith}
use Rattle.refusals.specs.Refusals.{refusal_number, refusal_place, ◌then◌, unless, verdict_report}
use Rattle.refusals.specs.declared.Refusal.{Refusal}
use Rattle.refusals.specs.declared.Refusal.TheVariants.{Rank, Size, Scratch, Word, Letter, Length, Image, Entry, Buffer, Bytes, Unknown, CutOff, Order, Range, Ending, NoInverse}
use Rattle.std.specs.Prelude.{Ok, Err}
use Rattle.refusals.specs.Refusals.{Verdict}

-- ---- acceptance

-- 1 where a verdict accepts
passes : Verdict → ℕ
passes (Ok _) = 1
passes (Err why) = 0

pub refused_accepted : {why : Refusal} → ◌≡◌ {A = Verdict} (Err why) (Ok tt) → ⊥
unfolding passes
refused_accepted e = omega (arith, ap passes e)

pub accepts_first : (a b : Verdict) → (a then b) ≡ Ok tt → a ≡ Ok tt
accepts_first (Ok _) b e = refl
accepts_first (Err why) b e = e

pub accepts_next : (a b : Verdict) → (a then b) ≡ Ok tt → b ≡ Ok tt
accepts_next (Ok _) b e = e
accepts_next (Err why) b e = absurd (refused_accepted e)

pub accepts_unless : (b : Bool) (why : Refusal) → unless b why ≡ Ok tt → b ≡ false
accepts_unless false why e = refl
accepts_unless true why e = absurd (refused_accepted e)

pub then_accepted : (v : Verdict) → (v then (Ok tt)) ≡ v
then_accepted (Ok _) = refl
then_accepted (Err why) = refl

-- a check r of two, a and b, that were found by x and y
pub both : {r x y a b : Verdict} → r ≡ (x then y) → x ≡ a → y ≡ b → r ≡ (a then b)
both e f g = e ∙ ap₂ ◌then◌ f g

-- ---- places

abbrev pub Near : Verdict → Type 0
Near v = (verdict_report v).place ≤ 4096

pub near_then : (a b : Verdict) → Near a → (a ≡ Ok tt → Near b) → Near (a then b)
near_then (Ok _) b h k = k refl
near_then (Err why) b h k = h

pub near_unless : (b : Bool) (why : Refusal) → (b ≡ true → refusal_place why ≤ 4096) → Near (unless b why)
near_unless false why h = omega arith
near_unless true why h = h refl

-- ---- numbers

pub number_within : (why : Refusal) → (1 ≤ refusal_number why) × (refusal_number why < 100)
number_within Rank = omega arith
number_within Size = omega arith
number_within Scratch = omega arith
number_within Word = omega arith
number_within (Letter i) = omega arith
number_within Length = omega arith
number_within (Image i) = omega arith
number_within (Entry i) = omega arith
number_within Buffer = omega arith
number_within Bytes = omega arith
number_within (Unknown at) = omega arith
number_within (CutOff at) = omega arith
number_within (Order at) = omega arith
number_within (Range at) = omega arith
number_within (Ending at) = omega arith
number_within (NoInverse at) = omega arith
