-- The tests `same` and `less` by cases: what holds of the numbers, with what the test then is. Rests on nothing here.
use mathlib.Core.Path.{◌≡◌, refl, sym, ap, subst, ◌∙◌}
use mathlib.Core.Logic.{◌≢◌}
use mathlib.Core.Bool.{Bool, true, false, not, ◌||◌}
use Prim.Native.Nat.{ℕ, ◌≤◌, ◌<◌}
use native.Mathlib.Omega.{arith}
use mir.Val.{bool_byte}
use lib.Dec.{T, eqb, ltb, eqb→eq, eqb_refl, ltb→lt, nltb→le}
use Rattle.lists.specs.Lists.{same, less, bit}

pub data SameView (x a : ℕ) : Type 0 where
  is : x ≡ a → same x a ≡ true → SameView x a
  isnt : x ≢ a → same x a ≡ false → SameView x a

pub data LessView (x a : ℕ) : Type 0 where
  lt : x < a → less x a ≡ true → LessView x a
  ge : a ≤ x → less x a ≡ false → LessView x a

pub same? : (x a : ℕ) → SameView x a
unfolding same
same? x a = go (eqb x a) refl
  where
    go : (b : Bool) → eqb x a ≡ b → SameView x a
    go true e = is (eqb→eq x a (rw e tt)) e
    go false e = isnt (λ p. subst T e (rw p (eqb_refl a))) e

pub less? : (x a : ℕ) → LessView x a
unfolding less
less? x a = go (ltb x a) refl
  where
    go : (b : Bool) → ltb x a ≡ b → LessView x a
    go true e = lt (ltb→lt x a (rw e tt)) e
    go false e = ge (nltb→le x a (rw e tt)) e

-- the tests at facts
pub same_yes : {x a : ℕ} → x ≡ a → same x a ≡ true
same_yes {x} {a} p = go (same? x a)
  where
    go : SameView x a → same x a ≡ true
    go (is q e) = e
    go (isnt n e) = absurd (n p)

pub same_no : {x a : ℕ} → x ≢ a → same x a ≡ false
same_no {x} {a} n = go (same? x a)
  where
    go : SameView x a → same x a ≡ false
    go (is q e) = absurd (n q)
    go (isnt m e) = e

pub less_yes : {x a : ℕ} → x < a → less x a ≡ true
less_yes {x} {a} p = go (less? x a)
  where
    go : LessView x a → less x a ≡ true
    go (lt q e) = e
    go (ge n e) = absurd (omega arith)

pub less_no : {x a : ℕ} → a ≤ x → less x a ≡ false
less_no {x} {a} p = go (less? x a)
  where
    go : LessView x a → less x a ≡ false
    go (lt q e) = absurd (omega arith)
    go (ge n e) = e

pub same_sym : (x a : ℕ) → same x a ≡ same a x
same_sym x a = go (same? x a)
  where
    go : SameView x a → same x a ≡ same a x
    go (is p e) = e ∙ sym (same_yes (sym p))
    go (isnt n e) = e ∙ sym (same_no (λ p. n (sym p)))

-- and the facts from the tests
pub same_true : (x a : ℕ) → same x a ≡ true → x ≡ a
same_true x a t = go (same? x a)
  where
    go : SameView x a → x ≡ a
    go (is p e) = p
    go (isnt n e) = absurd (omega (arith, ap bit (sym e ∙ t)))

pub same_false : (x a : ℕ) → same x a ≡ false → x ≢ a
same_false x a t = go (same? x a)
  where
    go : SameView x a → x ≢ a
    go (is p e) = absurd (omega (arith, ap bit (sym e ∙ t)))
    go (isnt n e) = n

pub less_true : (x a : ℕ) → less x a ≡ true → x < a
less_true x a t = go (less? x a)
  where
    go : LessView x a → x < a
    go (lt h e) = h
    go (ge h e) = absurd (omega (arith, ap bit (sym e ∙ t)))

pub less_false : (x a : ℕ) → less x a ≡ false → a ≤ x
less_false x a t = go (less? x a)
  where
    go : LessView x a → a ≤ x
    go (lt h e) = absurd (omega (arith, ap bit (sym e ∙ t)))
    go (ge h e) = h

-- tests that fail
pub not_false : (b : Bool) → not b ≡ false → b ≡ true
not_false true e = refl
not_false false e = absurd (omega (arith, ap bit e))

pub or_first : (a b : Bool) → (a || b) ≡ false → a ≡ false
or_first false b e = refl
or_first true b e = e

pub or_next : (a b : Bool) → (a || b) ≡ false → b ≡ false
or_next false b e = e
or_next true b e = absurd (omega (arith, ap bit e))

-- a test cast to a number
pub byte_bit : (b : Bool) → bool_byte b ≡ bit b
byte_bit true = refl
byte_bit false = refl

-- a test told by its number
pub bit_true : (b : Bool) → bit b ≡ 1 → b ≡ true
bit_true true e = refl
bit_true false e = absurd (omega arith)

pub bit_false : (b : Bool) → bit b ≢ 1 → b ≡ false
bit_false true n = absurd (n refl)
bit_false false n = refl
