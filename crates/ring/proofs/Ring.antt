-- What follows at once from the laws of a commutative ring. Rests on these alone.
use Rattle.std.proofs.Common.{◌≡◌, sym, ap, ◌∙◌, ap₂}
use Rattle.ring.specs.Ring.{Ops, Ring}

module _ (A : Type 0) (o : Ops A) (𝓡 : Ring A o) where
  pub add_zero : (a : A) → o.add a o.zero ≡ a
  add_zero a = 𝓡.add_comm a o.zero ∙ 𝓡.zero_add a

  pub add_left_comm : (a b c : A) → o.add a (o.add b c) ≡ o.add b (o.add a c)
  add_left_comm a b c = sym (𝓡.add_assoc a b c) ∙ ap (λ x. o.add x c) (𝓡.add_comm a b) ∙ 𝓡.add_assoc b a c

  pub add_cancel : (c a b : A) → o.add c a ≡ o.add c b → a ≡ b
  add_cancel c a b h = sym (back a) ∙ ap (o.add (o.neg c)) h ∙ back b
    where
      back : (x : A) → o.add (o.neg c) (o.add c x) ≡ x
      back x = sym (𝓡.add_assoc (o.neg c) c x) ∙ ap (λ y. o.add y x) (𝓡.neg_add c) ∙ 𝓡.zero_add x

  pub mul_one : (a : A) → o.mul a o.one ≡ a
  mul_one a = 𝓡.mul_comm a o.one ∙ 𝓡.one_mul a

  pub mul_left_comm : (a b c : A) → o.mul a (o.mul b c) ≡ o.mul b (o.mul a c)
  mul_left_comm a b c = sym (𝓡.mul_assoc a b c) ∙ ap (λ x. o.mul x c) (𝓡.mul_comm a b) ∙ 𝓡.mul_assoc b a c

  pub add_mul : (a b c : A) → o.mul (o.add a b) c ≡ o.add (o.mul a c) (o.mul b c)
  add_mul a b c = 𝓡.mul_comm (o.add a b) c ∙ 𝓡.mul_add c a b ∙ ap₂ o.add (𝓡.mul_comm c a) (𝓡.mul_comm c b)

  -- z = 0 a is z + z, so that z = -z + (z + z) = 0
  pub zero_mul : (a : A) → o.mul o.zero a ≡ o.zero
  zero_mul a = sym (𝓡.zero_add z) ∙ ap (λ x. o.add x z) (sym (𝓡.neg_add z)) ∙ 𝓡.add_assoc (o.neg z) z z ∙ ap (o.add (o.neg z)) twice ∙ 𝓡.neg_add z
    where
      z : A
      z = o.mul o.zero a

      twice : o.add z z ≡ z
      twice = sym (add_mul o.zero o.zero a) ∙ ap (λ x. o.mul x a) (𝓡.zero_add o.zero)

  pub mul_zero : (a : A) → o.mul a o.zero ≡ o.zero
  mul_zero a = 𝓡.mul_comm a o.zero ∙ zero_mul a
