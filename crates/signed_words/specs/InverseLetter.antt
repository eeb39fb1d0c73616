-- The inverse of a generator (document 02, Ticket 1), for any operations o on A, where r stands for q - 1, q' for the inverse of q and r' for q' - 1.
--
--   Inverted q r q' r'     q q' = 1, r + 1 = q and r' + 1 = q'
--   inverse_letter m i h   q' h T_i + r' h, for h of rank m
--   inverse_t m i          q' T_i + r' 1, the inverse of T_i
--   backward q' r'         the inverse of T_i as an operator on pairs (s, t), with s at w and t at w s_i, which is longer: (t + r' s, q' s)
use Rattle.std.specs.Prelude.{◌≡◌, List, ℕ}
use Rattle.ring.specs.Ring.{Ops}
use Rattle.algebra.specs.Element.{plus, scale, unit, T}
use Rattle.algebra.specs.Product.{letter}
use Rattle.algebra.specs.Pairs.{OnPair}

module _ (A : Type 0) (o : Ops A) (q r q' r' : A) where
  pub record Inverted : Type 0 where
    pub product : o.mul q q' ≡ o.one
    pub less : o.add r o.one ≡ q
    pub less' : o.add r' o.one ≡ q'

  unfoldable pub inverse_letter : ℕ → ℕ → List A → List A
  inverse_letter m i h = plus A o (scale A o q' (letter A o q r m i h)) (scale A o r' h)

  unfoldable pub inverse_t : ℕ → ℕ → List A
  inverse_t m i = plus A o (scale A o q' (T A o m i)) (scale A o r' (unit A o m))

module _ (A : Type 0) (o : Ops A) where
  abbrev pub backward : A → A → OnPair A
  backward q' r' = record { shorter = λ s t. o.add t (o.mul r' s); longer = λ s t. o.mul q' s }
