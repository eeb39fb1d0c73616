-- The second definition of a letter, either way, takes 3M/2 and has the value that the call writes. Rests on SignedHome, algebra's Counts, Letters and
-- Modular, and signed_words' BackCounts.
use mathlib.Core.Path.{◌≡◌, sym, ap, ◌∙◌}
use mathlib.Core.Logic.{◌⊎◌, inl, inr}
use mathlib.Core.Bool.{true, false}
use mathlib.Core.List.{List, [], ◌∷◌}
use Prim.Native.Nat.{ℕ, suc, ◌*◌, ◌%◌, ◌≤◌, ◌<◌}
use native.Mathlib.Omega.{arith}
use lib.IntN.{ℤ, pos, negsuc}
use Rattle.ring.specs.Modular.{word_modulus, words}
use Rattle.lists.specs.Lists.{bit}
use Rattle.lists.specs.Numbers.{factorial}
use Rattle.inverses.specs.Inverses.{has_inverse}
use Rattle.perms.specs.Tower.{cycle}
use Rattle.algebra.specs.Product.{act}
use Rattle.algebra.specs.Nested.{operations}
use Rattle.algebra.proofs.Modular.{word_method}
use Rattle.algebra.proofs.Counts.{counts}
use Rattle.algebra.proofs.Letters.{letters}
use Rattle.signed_words.specs.Words.{SignedLetter, is_below, signed_letter, signed_act}
use Rattle.signed_words.proofs.BackCounts.{back_counts}
use Rattle.element_calls.specs.Coefficients.{modulus, Coefficient, parameters_of}
use Rattle.element_calls.specs.Calls.{act_signed_word_call}
use Rattle.element_calls.specs.Claims.{NoneBelow}
use Rattle.element_calls.specs.Demand3.{E}
use Rattle.element_calls.specs.SignedCalls.{counted}
use Rattle.element_calls.proofs.SignedHome.{r, q', r', signed_by, odd, takes, writes}

module _ (m q : ℕ) where
  pub letter_counted : (z : ℤ) (h : List ℕ) → SignedLetter m z → E m q h → 2 * operations (counted m q z h).count ≡ 3 * factorial (suc m)
  unfolding counted modulus
  letter_counted (pos i) h l a =
      ap (λ n. 2 * n) ((counts ℕ words q (r m q) (Coefficient (parameters_of q)) m).act_count i 1 l.low l.high h a) ∙ (letters m i l.low l.high).count
  letter_counted (negsuc i) h l a = (back_counts ℕ words (q' m q) (r' m q) m).count (suc i) l h a.size

  module _ (rank : m ≤ 6) (hq : q < word_modulus) where
    second : (z : ℤ) (h : List ℕ) → SignedLetter m z → E m q h → (q % 2 ≡ 1) ⊎ (is_below z ≡ false)
        → (counted m q z h).value ≡ signed_act ℕ words q (r m q) (q' m q) (r' m q) m (z ∷ []) h
    unfolding counted modulus is_below signed_act signed_letter act cycle
    second (pos i) h l a c = (word_method m q hq).act_value i 1 l.low l.high h a
    second (negsuc i) h l a (inl o) =
        (back_counts ℕ words (q' m q) (r' m q) m).value (suc i) l h a.size
        ∙ sym ((signed_by m q rank hq (odd m q rank hq o)).on_pairs_lem (suc i) l h a)
    second (negsuc i) h l a (inr n) = absurd (omega (arith, ap bit n))

    either : (z : ℤ) → (q % 2 ≡ 1) ⊎ (is_below z ≡ false) → NoneBelow (z ∷ []) ⊎ (has_inverse word_modulus q ≡ true)
    either z (inl o) = inr (odd m q rank hq o)
    either z (inr n) = inl (n, tt)

    pub letter_valued : (z : ℤ) (h : List ℕ) → SignedLetter m z → E m q h → (q % 2 ≡ 1) ⊎ (is_below z ≡ false)
        → (counted m q z h).value ≡ (act_signed_word_call m q (z ∷ []) h).lent
    letter_valued z h l a c =
        second z h l a c ∙ sym (writes m q rank hq (z ∷ []) h (takes m q rank hq (z ∷ []) h (l, tt) (omega arith) a (either z c)))
