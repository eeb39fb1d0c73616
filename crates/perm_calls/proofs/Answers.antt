-- The mask of the descents has s_i at bit i - 1, and what stands after the letters of a standard word stays: the record `Answers`.
-- Rests on Accepted, perms' Mask and Lengths, and refusals' Ended.
use mathlib.Core.Path.{◌≡◌, refl, sym, ap, ◌∙◌}
use mathlib.Core.Logic.{◌↔◌}
use mathlib.Core.Bool.{Bool, true}
use mathlib.Core.List.{List, ◌++◌}
use Prim.Native.Nat.{ℕ, ◌≤◌, ◌<◌}
use lib.ListN.{length, drop}
use lib.Seq.{take_at, drop_at}
use Rattle.lists.proofs.Test.{less_yes, less_no, less_true}
use Rattle.refusals.specs.Refusals.{◌then◌}
use Rattle.refusals.proofs.Ended.{ended_done}
use Rattle.perms.specs.Permutation.{product, generator, len, descent}
use Rattle.perms.specs.Tower.{Tower, standard, images_of, mask, number}
use Rattle.perms.proofs.Lengths.{len_images_of, length_standard}
use Rattle.perms.proofs.Mask.{mask_lt, ones_mask, number_tally, mask_set}
use Rattle.perm_calls.specs.Calls.{tower_verdict, room, standard_word_call, descents_call}
use Rattle.perm_calls.specs.Claims.{DescentSet, WordResult, Answers}
use Rattle.perm_calls.proofs.Accepted.{accept_tower}
use Rattle.std.specs.Prelude.{Ok, Err}

descent_shortens : (m : ℕ) (w : List ℕ) (i : ℕ) → (descent m w i ≡ true) ↔ (len (product (generator m i) w) < len w)
unfolding descent
descent_shortens m w i = (λ e. less_true _ _ e, λ h. less_yes h)

descent_set : (t : List ℕ) → length t ≤ 63 → Tower (length t) t → DescentSet (length t) (images_of t) (descents_call t)
unfolding descents_call descent
descent_set t h c = record {
  bits = mask p m;
  size = number p m;
  is = rw (accept_tower t (h, c)) refl;
  each = λ i l.
      let set = mask_set p m i l in let short = descent_shortens m w i in
      (λ e. short.0 (set.0 e), λ e. set.1 (short.1 e));
  no_other = mask_lt p m;
  number = number_tally p m;
  set_bits = sym (ones_mask p m);
}
  where
    m : ℕ
    m = length t

    w : List ℕ
    w = images_of t

    p : ℕ → Bool
    p = descent m w

-- the standard word has ℓ letters, and stands before the rest of the buffer
word_spelled : (t buffer : List ℕ) → length t ≤ 63 → Tower (length t) t → len (images_of t) ≤ length buffer
    → WordResult (len (images_of t)) (standard t) buffer (standard_word_call t buffer)
unfolding standard_word_call room
word_spelled t buffer h c f = rw whole (record {
  count = refl;
  letters = take_at (standard t) (drop n buffer) n long;
  after = drop_at (standard t) (drop n buffer) n long;
})
  where
    n : ℕ
    n = len (images_of t)

    long : length (standard t) ≡ n
    long = length_standard t ∙ sym (len_images_of t c)

    taken : (tower_verdict t then room (length buffer) n) ≡ Ok tt
    taken = rw (accept_tower t (h, c), less_no f) refl

    whole : standard_word_call t buffer ≡ record { answer = Ok n; lent = standard t ++ drop n buffer }
    whole = ended_done Err buffer taken (ap Ok (sym long)) (ap (λ k. standard t ++ drop k buffer) (sym long))

pub answers : Answers
answers = record { descents = descent_set; word = word_spelled }
