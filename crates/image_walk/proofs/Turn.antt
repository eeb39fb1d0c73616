-- One turn of the walk's loop, by the bit b of its image x, which is x - 1 modulo 2^8. Rests on Digit, Walking, perms' Tower
-- and perm_calls' Seen and SeenDigits.
use Rattle.std.proofs.Common.{◌≡◌, ℕ, ◌+◌, ◌-◌, ◌*◌, ◌/◌, ◌%◌, ◌^◌, ◌<◌, ◌≤◌, false, ◌≢◌, List, length, get_or, set, sym, ap, ◌∙◌, subst, arith}
use lib.Bits.{bit_or}
use lib.Count.{ones}
use Rattle.lists.specs.Lists.{bit}
use Rattle.lists.proofs.Test.{bit_true, bit_false}
use Rattle.perms.specs.Tower.{entry}
use Rattle.perms.proofs.Tower.{entry_le}
use Rattle.perm_calls.specs.Calls.{bad_image}
use Rattle.perm_calls.proofs.Seen.{Seen, New, seen_more, good_new}
use Rattle.perm_calls.proofs.SeenDigits.{seen_entry, outside_bad, bad_digit}
use Rattle.image_walk.specs.Walk.{Walked}
use Rattle.image_walk.proofs.Digit.{mark_digit}
use Rattle.std.specs.Prelude.{Some}
use Rattle.image_walk.proofs.Walking.{Walking, walking_more, walking_bad}

-- the image of a turn, and what the code holds before it
pub record Turn (w entries : List ℕ) (seen i b : ℕ) : Type 0 where
  pub walking : Walking w entries seen i
  pub few : length w ≤ 64
  pub inside : i < length w
  pub byte : get_or w i 0 < 256
  pub bit_at : b ≡ (get_or w i 0 + 255) % 256

module _ {w entries : List ℕ} {seen i b : ℕ} (t : Turn w entries seen i b) where
  -- it is 0 or too large
  pub turn_outside : length w ≤ b → Walked w entries (Some i)
  turn_outside l = walking_bad t.walking t.inside (outside_bad w i (λ n. omega (arith, t.bit_at, t.byte)))

  module _ (l : b < length w) where
    at : b ≡ get_or w i 0 - 1
    at = omega (arith, t.bit_at, t.byte, t.few)

    digit : seen / 2 ^ b % 2 ≡ bit (bad_image w i)
    digit =
        ap (λ n. seen / 2 ^ n % 2) at
        ∙ bad_digit t.walking.mask t.few (λ z. omega (arith, t.bit_at, t.byte, t.few)) (omega (arith, t.bit_at, t.byte, t.few))

    -- it is already seen
    pub turn_seen : seen / 2 ^ b % 2 ≡ 1 → Walked w entries (Some i)
    turn_seen s = walking_bad t.walking t.inside (bit_true _ (sym digit ∙ s))

    -- it is good
    module _ (u : seen / 2 ^ b % 2 ≢ 1) where
      good : bad_image w i ≡ false
      good = bit_false _ (λ s. u (digit ∙ s))

      new : New w i
      new = good_new w i t.few good

      counted : ones (seen / 2 ^ b) ≡ entry i w
      counted = ap (λ n. ones (seen / 2 ^ n)) at ∙ seen_entry new t.walking.mask

      marked : Seen w (bit_or seen ((1 * 2 ^ b) % 2 ^ 64)) (i + 1)
      marked =
          let unset : seen / 2 ^ b % 2 ≡ 0 = digit ∙ ap bit good in
          let next = subst (λ n. Seen w (seen + (1 * 2 ^ n) % 2 ^ 64) (i + 1)) (sym at) (seen_more t.inside new t.walking.mask) in
          subst (λ n. Seen w n (i + 1)) (sym (mark_digit b seen (omega (arith, t.few)) unset)) next

      pub turn_count : ones (seen / 2 ^ b) ≤ 64
      turn_count = omega (arith, counted, entry_le i w, t.inside, t.few)

      pub turn_good : Walking w (set entries i (ones (seen / 2 ^ b))) (bit_or seen ((1 * 2 ^ b) % 2 ^ 64)) (i + 1)
      turn_good = walking_more t.walking _ t.inside t.few good counted marked
