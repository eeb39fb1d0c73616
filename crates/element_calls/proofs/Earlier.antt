-- The checks before 15 refuse with other numbers. Rests on the definitions alone.
--
--   Early v    a refusal of the verdict v has a number below 15
use mathlib.Core.Path.{◌≡◌, refl, ap}
use mathlib.Core.Bool.{Bool, true, false, not}
use mathlib.Core.List.{List}
use Prim.Native.Nat.{ℕ, ◌<◌}
use native.Mathlib.Omega.{arith}
use lib.ListN.{length}
use lib.IntN.{ℤ}
use Rattle.lists.specs.Lists.{same, less}
use Rattle.refusals.specs.Refusals.{refusal_number, ◌then◌, unless, verdict_report}
use Rattle.refusals.specs.declared.Refusal.{Refusal}
use Rattle.refusals.specs.declared.Refusal.TheVariants as R
use Rattle.ranks.specs.Ranks.{size}
use Rattle.element_calls.specs.Calls.{rank_verdict, size_verdict, first_bad_signed, signed_word_verdict}
use Rattle.std.specs.Prelude.{Ok, Err}
use Rattle.refusals.specs.Refusals.{Verdict}

abbrev pub Early : Verdict → Type 0
Early v = (verdict_report v).number < 15

early_unless : (b : Bool) (why : Refusal) → refusal_number why < 15 → Early (unless b why)
early_unless false why h = omega arith
early_unless true why h = h

early_then : (a b : Verdict) → Early a → Early b → Early (a then b)
early_then (Ok _) b h k = k
early_then (Err why) b h k = h

pub early : (m n : ℕ) (x : List ℤ) → Early (rank_verdict m then size_verdict m n then signed_word_verdict m x)
unfolding rank_verdict size_verdict signed_word_verdict
early m n x = early_then (rank then sized) letters (early_then rank sized (early_unless (less 6 m) R.Rank (omega arith))
    (early_unless (not (same n (size m))) R.Size (omega arith)))
    (early_then few good (early_unless (less 4096 (length x)) R.Word (omega arith)) (early_unless (less bad (length x)) (R.Letter bad) (omega arith)))
  where
    bad : ℕ
    bad = first_bad_signed m x

    rank : Verdict
    rank = unless (less 6 m) R.Rank

    sized : Verdict
    sized = unless (not (same n (size m))) R.Size

    few : Verdict
    few = unless (less 4096 (length x)) R.Word

    good : Verdict
    good = unless (less bad (length x)) (R.Letter bad)

    letters : Verdict
    letters = few then good

pub later : {i : ℕ} (a b : Verdict) → Early a → (a then b) ≡ Err (R.NoInverse i) → (a ≡ Ok tt) × (b ≡ Err (R.NoInverse i))
later (Ok _) b h e = (refl, e)
later (Err why) b h e = absurd (omega (arith, ap (λ v. (verdict_report v).number) e))
