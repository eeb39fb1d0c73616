-- What the answer of a walk tells: the verdict on the images, and where it accepts them their tower. Rests on Outcome, perm_calls' ImageVerdicts and
-- refusals' Verdicts.
use Rattle.std.proofs.Common.{◌≡◌, ℕ, ◌<◌, ◌≤◌, ◌≢◌, List, length, sym, refl, ◌∙◌, arith}
use Rattle.lists.proofs.Test.{LessView, lt, ge, less?, less_yes}
use Rattle.refusals.specs.declared.Refusal.TheVariants.{Length, Image}
use Rattle.refusals.proofs.Verdicts.{refused_accepted}
use Rattle.perm_calls.specs.Calls.{found}
use Rattle.perm_calls.proofs.ImageVerdicts.{images_unsized}
use Rattle.image_walk.specs.Walk.{Bad, held, holding, Walked, Vetted}
use Rattle.image_walk.proofs.Outcome.{end_bad, end_good}
use Rattle.std.specs.Prelude.{Option, Some, None, Ok, Err}

pub wrong_size : (w entries : List ℕ) → (length w ≢ 0 → 64 < length w) → Vetted w entries (Err Length)
wrong_size w entries h = record { verdict = sym (images_unsized w h); tower = λ t. absurd (refused_accepted t) }

-- what a search found, if it ended before its end or not
found_index : (a n i : ℕ) → Some i ≡ found a n → i < n
found_index a n i e = go (less? a n)
  where
    go : LessView a n → i < n
    go (lt h f) = let at : Some i ≡ Some a = e ∙ rw f refl in let same : i ≡ a = cc in omega arith
    go (ge h f) = let none : Some i ≡ None = e ∙ rw f refl in cc

module _ {w entries : List ℕ} {r : Option ℕ} (some : length w ≢ 0) (few : length w ≤ 64) (e : Walked w entries r) where
  pub judged_bad : {i : ℕ} → r ≡ Some i → Vetted w entries (Err (Image i))
  unfolding holding
  judged_bad {i} f =
      let inside = found_index _ _ i (sym f ∙ e.index) in
      let end : held w (length w) ≡ Bad i = e.holds (length w) (omega arith) ∙ rw (f, less_yes inside) in
      record { verdict = sym (end_bad w some few end); tower = λ t. absurd (refused_accepted t) }

  pub judged_good : r ≡ None → Vetted w entries (Ok tt)
  unfolding holding
  judged_good f =
      let good = end_good w some few (e.holds (length w) (omega arith) ∙ rw f) in
      record { verdict = sym good.0; tower = λ t. good.1 }
