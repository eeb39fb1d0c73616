-- What q q' = 1, r + 1 = q and r' + 1 = q' give in a commutative ring, and that `forward` and `backward` undo each other. Rests on Undone
-- and ring's Ring.
use mathlib.Core.Path.{◌≡◌, sym, ap, ◌∙◌}
use Rattle.ring.specs.Ring.{Ops, Ring}
use Rattle.ring.proofs.Ring.{add_zero, add_cancel, mul_left_comm, zero_mul, add_mul}
use Rattle.algebra.specs.Pairs.{forward}
use Rattle.signed_words.specs.InverseLetter.{Inverted, backward}
use Rattle.signed_words.proofs.Undone.{Undoes}

module _ (A : Type 0) (o : Ops A) (𝓡 : Ring A o) where
  infixl 60 ◌+◌
  infixl 70 ◌*◌
  abbrev ◌+◌ : A → A → A
  a + b = o.add a b

  abbrev ◌*◌ : A → A → A
  a * b = o.mul a b

  abbrev 𝟎 : A
  𝟎 = o.zero

  abbrev 𝟏 : A
  𝟏 = o.one

  turned : {q r q' r' : A} → Inverted A o q r q' r' → Inverted A o q' r' q r
  turned {q} {q' = q'} v = record { product = 𝓡.mul_comm q' q ∙ v.product; less = v.less'; less' = v.less }

  module _ {q r q' r' : A} (v : Inverted A o q r q' r') where
    pub cancels : (x : A) → q' * (q * x) ≡ x
    cancels x = sym (𝓡.mul_assoc q' q x) ∙ ap (λ z. z * x) (turned v).product ∙ 𝓡.one_mul x

    -- 1 + (r + r' q) = q + r' q = (r' + 1) q = 1
    none_left : r + r' * q ≡ 𝟎
    none_left = add_cancel A o 𝓡 𝟏 (r + r' * q) 𝟎
        (sym (𝓡.add_assoc 𝟏 r (r' * q)) ∙ ap (λ z. z + r' * q) (𝓡.add_comm 𝟏 r ∙ v.less)
        ∙ 𝓡.add_comm q (r' * q) ∙ ap (λ z. r' * q + z) (sym (𝓡.one_mul q)) ∙ sym (add_mul A o 𝓡 r' 𝟏 q) ∙ ap (λ z. z * q) v.less'
        ∙ (turned v).product ∙ sym (add_zero A o 𝓡 𝟏))

    -- r y + r' (q y) = 0
    nothing : (y : A) → r * y + r' * (q * y) ≡ 𝟎
    nothing y = ap (λ z. r * y + z) (sym (𝓡.mul_assoc r' q y)) ∙ sym (add_mul A o 𝓡 r (r' * q) y) ∙ ap (λ z. z * y) none_left ∙ zero_mul A o 𝓡 y

    leaves : (x y : A) → x + r * y + r' * (q * y) ≡ x
    leaves x y = 𝓡.add_assoc x (r * y) (r' * (q * y)) ∙ ap (λ z. x + z) (nothing y) ∙ add_zero A o 𝓡 x

  module _ {q r q' r' : A} (v : Inverted A o q r q' r') where
    -- T_i and then its inverse
    pub undoes : Undoes (backward A o q' r') (forward A o q r)
    undoes = record { shorter = leaves v; longer = λ s t. cancels v t }

    -- the inverse of T_i and then T_i
    pub redoes : Undoes (forward A o q r) (backward A o q' r')
    redoes = record { shorter = λ s t. cancels (turned v) s; longer = λ s t. leaves (turned v) t s }

    -- q' (x + r y) + r' y = q' x
    pub at_longer : (x y : A) → q' * (x + r * y) + r' * y ≡ q' * x
    at_longer x y =
        ap (λ z. z + r' * y) (𝓡.mul_add q' x (r * y))
        ∙ 𝓡.add_assoc (q' * x) (q' * (r * y)) (r' * y)
        ∙ ap (λ z. q' * x + z) (𝓡.add_comm (q' * (r * y)) (r' * y) ∙ ap (λ z. r' * y + z) (mul_left_comm A o 𝓡 q' r y) ∙ nothing (turned v) y)
        ∙ add_zero A o 𝓡 (q' * x)
