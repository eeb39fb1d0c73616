-- Tests on numbers, and counts and searches by them.
--
--   same x y      the test x = y
--   less x y      the test x < y
--   bit b         1 for true, 0 for false
--   range a n     the n numbers a, a + 1, ..
--   first p a n   the first of the n numbers from a on at which the test p holds, else a + n
--   All P s       P holds of each element of s
--   tally p w     how many elements of w pass the test p
--   count v w     how often v stands in w
--   equal w v     the test w = v
use Rattle.std.specs.Prelude.{Bool, true, false, cond, ◌&&◌, List, [], ◌∷◌, ℕ, zero, suc, ◌+◌, eqb, ltb}

unfoldable pub same : ℕ → ℕ → Bool
same x y = eqb x y

unfoldable pub less : ℕ → ℕ → Bool
less x y = ltb x y

abbrev pub bit : Bool → ℕ
bit true = 1
bit false = 0

unfoldable pub range : ℕ → ℕ → List ℕ
range a zero = []
range a (suc n) = a ∷ range (suc a) n

unfoldable pub first : (ℕ → Bool) → ℕ → ℕ → ℕ
first p a zero = a
first p a (suc n) = cond (p a) a (first p (suc a) n)

abbrev pub All : {A : Type 0} → (A → Type 0) → List A → Type 0
All P [] = Unit {0}
All P (x ∷ s) = P x × All P s

unfoldable pub tally : (ℕ → Bool) → List ℕ → ℕ
tally p [] = 0
tally p (x ∷ w) = bit (p x) + tally p w

unfoldable pub count : ℕ → List ℕ → ℕ
count v w = tally (λ x. same x v) w

unfoldable pub equal : List ℕ → List ℕ → Bool
equal [] [] = true
equal [] (y ∷ v) = false
equal (x ∷ w) [] = false
equal (x ∷ w) (y ∷ v) = same x y && equal w v
