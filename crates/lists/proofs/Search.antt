-- The search `first` among the first j numbers, beside that among more. Rests on First.
use mathlib.Core.Path.{◌≡◌, refl, sym, ap, ◌∙◌}
use mathlib.Core.Bool.{Bool, true, false}
use Prim.Native.Nat.{ℕ, zero, suc, ◌+◌, ◌≤◌, ◌<◌}
use native.Mathlib.Omega.{arith}
use Rattle.lists.specs.Lists.{bit, first}
use Rattle.lists.proofs.Test.{SameView, is, isnt, LessView, lt, ge, same?, less?}
use Rattle.lists.proofs.First.{passed, first_past, first_holds, first_true}

-- a number that meets the test, where none before it does
first_is : (p : ℕ → Bool) (n i : ℕ) → i < n → ((k : ℕ) → k < i → p k ≡ false) → p i ≡ true → first p 0 n ≡ i
first_is p n i h none e = go (less? r i) (less? i r)
  where
    r : ℕ
    r = first p 0 n

    found : (p r ≡ true) × (0 ≤ r) × (r < 0 + n)
    found = first_holds p 0 n i (omega arith) (omega arith) e

    go : LessView r i → LessView i r → r ≡ i
    go (lt l f) s = absurd (omega (arith, ap bit (sym found.0 ∙ none r l)))
    go (ge l f) (lt k g) = absurd (omega (arith, ap bit (sym e ∙ passed p 0 n i (omega arith) k)))
    go (ge l f) (ge k g) = omega arith

-- what is found among j numbers is found among any n that reach it
pub first_found : (p : ℕ → Bool) (j n : ℕ) → first p 0 j < j → first p 0 j < n → first p 0 n ≡ first p 0 j
first_found p j n l h = first_is p n (first p 0 j) h (λ k f. passed p 0 j k (omega arith) f) (first_true p j l)

-- where nothing is found among i numbers, the next one is found, or not
pub first_there : (p : ℕ → Bool) (n i : ℕ) → i < n → i ≤ first p 0 i → p i ≡ true → first p 0 n ≡ i
first_there p n i h l e = first_is p n i h (λ k f. passed p 0 i k (omega arith) (omega arith)) e

pub first_more : (p : ℕ → Bool) (i : ℕ) → i ≤ first p 0 i → p i ≡ false → i + 1 ≤ first p 0 (i + 1)
first_more p i l e = omega (arith, first_past p 0 (i + 1) (λ k a h. go k h (same? k i)))
  where
    go : (k : ℕ) → k < 0 + (i + 1) → SameView k i → p k ≡ false
    go k h (is q f) = ap p q ∙ e
    go k h (isnt q f) = passed p 0 i k (omega arith) (omega arith)

-- tests that agree on the numbers searched
pub first_same : (p q : ℕ → Bool) (a n : ℕ) → ((i : ℕ) → i < a + n → p i ≡ q i) → first p a n ≡ first q a n
unfolding first
first_same p q a zero h = refl
first_same p q a (suc n) h = rw (h a (omega arith), first_same p q (suc a) n (λ i l. h i (omega arith))) refl
