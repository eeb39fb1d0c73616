-- What the walk holds in the end: the verdict on the images, and what the call answers and leaves in its buffer, the record `TowerCall`. Rests on Held,
-- perm_calls' ImageVerdicts and refusals' Ended.
use Rattle.std.proofs.Common.{◌≡◌, ℕ, ◌+◌, ◌≤◌, ◌≢◌, List, length, refl, ap, ◌∙◌, arith, take_all}
use Rattle.lists.proofs.Test.{same_yes, same_no, less_yes, less_no}
use Rattle.refusals.specs.Refusals.{◌then◌}
use Rattle.refusals.specs.declared.Refusal.TheVariants.{Image}
use Rattle.refusals.proofs.Ended.{ended_refused, ended_done}
use Rattle.perms.specs.Tower.{tower_of}
use Rattle.perm_calls.specs.Calls.{first_bad_image, images_verdict, exact, tower_of_call}
use Rattle.perm_calls.proofs.ImageVerdicts.{images_sized}
use Rattle.image_walk.specs.Walk.{Entries, Bad, held, TowerCall}
use Rattle.image_walk.proofs.Held.{held_entries, held_index}
use Rattle.std.specs.Prelude.{Ok, Err}

module _ (w : List ℕ) (some : length w ≢ 0) (few : length w ≤ 64) where
  pub end_bad : {i : ℕ} → held w (length w) ≡ Bad i → images_verdict w ≡ Err (Image i)
  unfolding first_bad_image
  end_bad e = let at = held_index w (length w) e in images_sized w some few ∙ rw (at.0, less_yes at.1) refl

  pub end_good : {t : List ℕ} → held w (length w) ≡ Entries t → (images_verdict w ≡ Ok tt) × (t ≡ tower_of w)
  unfolding first_bad_image
  end_good e =
      let told = held_entries w (length w) e in (
        images_sized w some few ∙ rw (less_no {x = first_bad_image w} {a = length w} told.0) refl,
        told.1 ∙ ap tower_of (take_all (length w) w (omega arith)),
      )

  pub tower_call : (buffer : List ℕ) → TowerCall w buffer
  unfolding tower_of_call exact
  tower_call buffer = record {
    refused = λ i e. ended_refused Err (Ok tt) buffer (tower_of w) (ap (λ v. v then exact (length buffer + 1) (length w)) (end_bad e)) refl;
    unfit = λ t e other. ended_refused Err (Ok tt) buffer (tower_of w) (rw ((end_good e).0, same_no other) refl) refl;
    done = λ t e fit. let good = end_good e in ended_done Err buffer (rw (good.0, same_yes fit) refl) refl good.1;
  }
