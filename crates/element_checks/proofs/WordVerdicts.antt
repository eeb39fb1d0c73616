-- Check 4 by the position of a bad letter, and of signed letters by their sizes. Rests on Positions, lists' Test and element_calls' WordChecks.
use Rattle.std.proofs.Common.{◌≡◌, refl, List, ℕ, ◌≤◌, ◌<◌, ◌||◌, length, map, Some, None, Ok, Err, ℤ, pos, nat_abs}
use Rattle.std.specs.List.{position}
use Rattle.std.proofs.Math.ListN.{get_or-map}
use Rattle.std.proofs.lemmas.List.{length-map}
use Rattle.lists.specs.Lists.{same, less}
use Rattle.lists.proofs.Test.{less_yes, less_no}
use Rattle.refusals.specs.declared.Refusal.TheVariants.{Word, Letter}
use Rattle.element_calls.specs.Calls.{first_bad_letter, word_verdict, first_bad_signed, signed_word_verdict}
use Rattle.element_calls.proofs.WordChecks.{searched}
use Rattle.element_checks.proofs.Positions.{found, found_none}

module _ (m : ℕ) (x : List ℕ) where
  pub long_word : 4096 < length x → Err Word ≡ word_verdict m x
  unfolding word_verdict
  long_word h = rw (less_yes h) refl

  module _ (few : length x ≤ 4096) where
    pub bad_word : {i : ℕ} → position (λ n. same n 0 || less m n) x ≡ Some i → Err (Letter i) ≡ word_verdict m x
    unfolding word_verdict first_bad_letter
    bad_word e =
        let f = found (λ n. same n 0 || less m n) 0 x e in
        rw (less_no few, ← f.0, less_yes f.1) refl

    pub good_word : position (λ n. same n 0 || less m n) x ≡ None → Ok tt ≡ word_verdict m x
    unfolding word_verdict first_bad_letter
    good_word e = rw (less_no few, less_no (found_none (λ n. same n 0 || less m n) 0 x e)) refl

pub signed_is : (m : ℕ) (x : List ℤ) → word_verdict m (map nat_abs x) ≡ signed_word_verdict m x
unfolding word_verdict first_bad_letter signed_word_verdict first_bad_signed
signed_is m x =
    λ j. searched (λ i. let n = get_or-map nat_abs x i (pos 0) j in same n 0 || less m n) (length-map x nat_abs j)
