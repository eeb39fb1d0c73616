-- The claims on the action of words of signed letters hold. Rests on SignedHome, InverseCalls, SignedCounts, PlainCalls, NoInverses,
-- Answers and signed_words' Mirrors.
use mathlib.Core.Path.{◌≡◌, subst}
use mathlib.Core.Logic.{◌⊎◌, inl, inr}
use mathlib.Core.Bool.{true}
use mathlib.Core.List.{List, [], ◌∷◌}
use Prim.Native.Nat.{ℕ, ◌%◌, ◌≤◌, ◌<◌}
use native.Mathlib.Omega.{arith}
use lib.IntN.{ℤ, pos, neg_ℤ, neg_ℤ-neg_ℤ}
use Rattle.ring.specs.Modular.{word_modulus}
use Rattle.inverses.specs.Inverses.{has_inverse}
use Rattle.perms.specs.Permutation.{Letter}
use Rattle.signed_words.specs.Words.{mirror}
use Rattle.signed_words.proofs.Mirrors.{mirrored}
use Rattle.element_calls.specs.Coefficients.{modulus}
use Rattle.element_calls.specs.Claims.{NoneBelow}
use Rattle.element_calls.specs.Demand3.{E}
use Rattle.element_calls.specs.SignedCalls.{Home, SignedLawful, SignedCalls}
use Rattle.element_calls.proofs.Answers.{signed_counted}
use Rattle.element_calls.proofs.PlainCalls.{plain_call}
use Rattle.element_calls.proofs.NoInverses.{no_inverse}
use Rattle.element_calls.proofs.SignedHome.{has, odd, takes, closes, homes}
use Rattle.element_calls.proofs.InverseCalls.{is_made, left_made, right_made}
use Rattle.element_calls.proofs.SignedCounts.{letter_counted, letter_valued}

module _ (m q : ℕ) (rank : m ≤ 6) (hq : q < word_modulus) where
  either : (x : List ℤ) → (q % 2 ≡ 1) ⊎ NoneBelow x → NoneBelow x ⊎ (has_inverse word_modulus q ≡ true)
  either x (inl o) = inr (odd m q rank hq o)
  either x (inr w) = inl w

  undone : q % 2 ≡ 1 → (i : ℕ) (h : List ℕ) → Letter m i → E m q h → Home m q (pos i ∷ []) (neg_ℤ (pos i) ∷ []) h
  unfolding mirror
  undone o i h l a = homes m q rank hq o (pos i ∷ []) h (l, tt) (omega arith) a

  redone : q % 2 ≡ 1 → (i : ℕ) (h : List ℕ) → Letter m i → E m q h → Home m q (neg_ℤ (pos i) ∷ []) (pos i ∷ []) h
  unfolding mirror
  redone o i h l a = subst (λ z. Home m q (neg_ℤ (pos i) ∷ []) (z ∷ []) h) (neg_ℤ-neg_ℤ (pos i))
      (homes m q rank hq o (neg_ℤ (pos i) ∷ []) h (mirrored m (pos i ∷ []) (l, tt)) (omega arith) a)

  signed_lawful : SignedLawful m q
  unfolding modulus
  signed_lawful = record {
    taken = λ x h w n a c. takes m q rank hq x h w n a (either x c);
    closed = closes m q rank hq;
    home = homes m q rank hq;
    undo = undone;
    redo = redone;
    inverse = λ o. has m q rank hq (odd m q rank hq o);
    is_product = is_made m q rank hq;
    left = left_made m q rank hq;
    right = right_made m q rank hq;
    count = signed_counted m q;
    letter_count = letter_counted m q;
    letter_value = letter_valued m q rank hq;
  }

pub signed_calls : SignedCalls
unfolding modulus
signed_calls = record { lawful = signed_lawful; plain = plain_call; no_inverse = no_inverse }
