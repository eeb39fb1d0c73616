-- Modulo 2^64 a number has an inverse exactly where it is odd: the record `WordInverses` for every q, and its converse. Rests on Odd, Newton and Search,
-- ring's Modular and lists' Test.
--
--   next q x       a step of Newton's iteration from x
--   iterated q n   what n steps from q give
use Rattle.std.proofs.Common.{◌≡◌, ℕ, zero, suc, ◌+◌, ◌-◌, ◌*◌, ◌/◌, ◌%◌, ◌^◌, ◌<◌, Bool, true, false, sym, refl, ap, ◌∙◌, mod-lt, arith}
use Rattle.ring.specs.Modular.{modular, word_modulus, words}
use Rattle.ring.proofs.Modular.{mul_mod_left, words_pos}
use Rattle.lists.specs.Lists.{bit}
use Rattle.lists.proofs.Test.{SameView, is, isnt, same?}
use Rattle.inverses.specs.Inverses.{IsInverse, inverse, has_inverse, WordInverses}
use Rattle.inverses.proofs.Odd.{Stepped, closer, is_inverse}
use Rattle.inverses.proofs.Search.{found_is, none_missed}

-- ---- odd words

next : ℕ → ℕ → ℕ
next q x = words.mul x ((2 + (2 ^ 64 - words.mul q x)) % 2 ^ 64)

iterated : ℕ → ℕ → ℕ
iterated q zero = q
iterated q (suc n) = next q (iterated q n)

module _ (q : ℕ) (hq : q < 2 ^ 64) where
  small : (n : ℕ) → iterated q n < 2 ^ 64
  unfolding iterated next modular
  small zero = hq
  small (suc n) = mod-lt _ words_pos

  stepped : (n : ℕ) → Stepped q n (iterated q n)
  unfolding iterated next Stepped
  stepped zero = refl
  stepped (suc n) = (iterated q n, stepped n, closer hq (small n) refl refl)

  odd_word : q % 2 ≡ 1 → IsInverse (2 ^ 64) q (iterated q 5)
  odd_word h = is_inverse (small 5) h (stepped 5)

-- ---- every number

module _ (q : ℕ) where
  reduced : {x : ℕ} → IsInverse (2 ^ 64) (q % 2 ^ 64) x → IsInverse (2 ^ 64) q x
  unfolding modular
  reduced {x} i = record { below = i.below; product = sym (mul_mod_left (2 ^ 64) q x) ∙ i.product }

  even_none : q % 2 ≡ 0 → (x : ℕ) → ¬ IsInverse (2 ^ 64) q x
  unfolding modular
  even_none h x i = let e : q ≡ 2 * (q / 2) = omega arith in omega (arith, i.product, ap (λ z. z * x) e)

  pub word_inverses : WordInverses q
  word_inverses = record {
    odd = λ h. none_missed word_modulus q (reduced (odd_word (q % 2 ^ 64) (mod-lt q words_pos) (omega arith)));
    even = λ h. go h (has_inverse word_modulus q) refl;
  }
    where
      go : q % 2 ≡ 0 → (b : Bool) → has_inverse word_modulus q ≡ b → b ≡ false
      go h true e = absurd (even_none h (inverse word_modulus q) (found_is word_modulus q e))
      go h false e = refl

  pub has_odd : has_inverse word_modulus q ≡ true → q % 2 ≡ 1
  has_odd t = go (same? (q % 2) 0)
    where
      go : SameView (q % 2) 0 → q % 2 ≡ 1
      go (is h e) = absurd (omega (arith, ap bit (sym t ∙ word_inverses.even h)))
      go (isnt n e) = omega arith

  pub none_even : has_inverse word_modulus q ≡ false → q % 2 ≡ 0
  none_even f = go (same? (q % 2) 1)
    where
      go : SameView (q % 2) 1 → q % 2 ≡ 0
      go (is h e) = absurd (omega (arith, ap bit (sym f ∙ word_inverses.odd h)))
      go (isnt n e) = omega arith
