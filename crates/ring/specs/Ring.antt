-- Commutative rings, as a record of operations and a record of laws, and the maps between them.
--
--   Ops A           zero, one, sum, product and negative on A
--   Ring A o        the operations o make the set A a commutative ring with one
--   Hom A B o p f   the map f from A to B takes the operations o to the operations p
--
-- A definition takes the operations as a parameter, and a law the ring.
use Rattle.std.specs.Prelude.{◌≡◌}

pub record Ops (A : Type 0) : Type 0 where
  pub zero : A
  pub one : A
  pub add : A → A → A
  pub mul : A → A → A
  pub neg : A → A

pub record Ring (A : Type 0) (o : Ops A) : Type 0 where
  pub set : IsSet A
  pub add_assoc : (a b c : A) → o.add (o.add a b) c ≡ o.add a (o.add b c)
  pub add_comm : (a b : A) → o.add a b ≡ o.add b a
  pub zero_add : (a : A) → o.add o.zero a ≡ a
  pub neg_add : (a : A) → o.add (o.neg a) a ≡ o.zero
  pub mul_assoc : (a b c : A) → o.mul (o.mul a b) c ≡ o.mul a (o.mul b c)
  pub mul_comm : (a b : A) → o.mul a b ≡ o.mul b a
  pub one_mul : (a : A) → o.mul o.one a ≡ a
  pub mul_add : (a b c : A) → o.mul a (o.add b c) ≡ o.add (o.mul a b) (o.mul a c)

pub record Hom (A B : Type 0) (o : Ops A) (p : Ops B) (f : A → B) : Type 0 where
  pub zero : f o.zero ≡ p.zero
  pub one : f o.one ≡ p.one
  pub add : (a b : A) → f (o.add a b) ≡ p.add (f a) (f b)
  pub mul : (a b : A) → f (o.mul a b) ≡ p.mul (f a) (f b)
  pub neg : (a : A) → f (o.neg a) ≡ p.neg (f a)
