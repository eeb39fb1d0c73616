-- The search `first`: what it has passed, what it finds, and the loop that makes it. Rests on Test.
use mathlib.Core.Path.{◌≡◌, refl, sym, ap, ◌∙◌}
use mathlib.Core.Bool.{Bool, true, false, cond}
use Prim.Native.Nat.{ℕ, zero, suc, ◌+◌, ◌-◌, ◌≤◌, ◌<◌}
use native.Mathlib.Numerals.{add-one}
use native.Mathlib.Omega.{arith}
use Rattle.lists.specs.Lists.{bit, first}
use Rattle.lists.proofs.Test.{SameView, is, isnt, same?}

-- the search has passed what comes before its result
pub passed : (p : ℕ → Bool) (a n i : ℕ) → a ≤ i → i < first p a n → p i ≡ false
unfolding first
passed p a zero i h l = absurd (omega arith)
passed p a (suc n) i h l = go (passed p (suc a) n i) (p a) refl (same? a i)
  where
    go : (suc a ≤ i → i < first p (suc a) n → p i ≡ false) → (b : Bool) → p a ≡ b → SameView a i → p i ≡ false
    go ih true e s = absurd (omega (arith, rw e at l))
    go ih false e (is q f) = ap p (sym q) ∙ e
    go ih false e (isnt q f) = ih (omega arith) (rw e at l)

-- a search that finds nothing
pub first_past : (p : ℕ → Bool) (a n : ℕ) → ((i : ℕ) → a ≤ i → i < a + n → p i ≡ false) → first p a n ≡ a + n
unfolding first
first_past p a zero h = omega arith
first_past p a (suc n) h = rw (h a (omega arith) (omega arith)) (first_past p (suc a) n (λ i k l. h i (omega arith) (omega arith)) ∙ omega arith)

-- a search past a number that meets the test finds one
pub first_holds : (p : ℕ → Bool) (a n k : ℕ) → a ≤ k → k < a + n → p k ≡ true → (p (first p a n) ≡ true) × (a ≤ first p a n) × (first p a n < a + n)
unfolding first
first_holds p a zero k l h e = absurd (omega arith)
first_holds p a (suc n) k l h e = go (first_holds p (suc a) n k) (p a) refl
  where
    r : ℕ
    r = first p (suc a) n

    go : (a < k → k < suc a + n → p k ≡ true → (p r ≡ true) × (a < r) × (r < suc a + n)) → (b : Bool) → p a ≡ b
        → (p (cond b a r) ≡ true) × (a ≤ cond b a r) × (cond b a r < a + suc n)
    go ih true f = (f, omega arith, omega arith)
    go ih false f = let q = ih (omega (arith, later (same? a k))) (omega arith) e in (q.0, omega (arith, q.1), omega (arith, q.2))
      where
        later : SameView a k → a < k
        later (is s g) = absurd (omega (arith, ap bit (sym f ∙ ap p s ∙ e)))
        later (isnt s g) = omega arith

-- a search that ends before its end has found
pub first_true : (p : ℕ → Bool) (n : ℕ) → first p 0 n < n → p (first p 0 n) ≡ true
first_true p n l = go (p (first p 0 n)) refl
  where
    go : (b : Bool) → p (first p 0 n) ≡ b → b ≡ true
    go true e = refl
    go false e = absurd (omega (arith, first_past p 0 n (λ i a h. nowhere i (omega arith) (p i) refl)))
      where
        nowhere : (i : ℕ) → i < n → (b : Bool) → p i ≡ b → p i ≡ false
        nowhere i h true f = absurd (omega (arith, ap bit (sym e ∙ (first_holds p 0 n i (omega arith) (omega arith) f).0)))
        nowhere i h false f = f

-- ---- a loop that searches

-- the search from 0 goes on from i
abbrev pub From : (ℕ → Bool) → ℕ → ℕ → Type 0
From p n i = (i ≤ n) × (first p 0 n ≡ first p i (n - i))

-- the next number meets the test, or not
pub first_here : {n i : ℕ} (p : ℕ → Bool) → i < n → From p n i → p i ≡ true → i ≡ first p 0 n
unfolding first
first_here {n} {i} p h f e = sym (f.1 ∙ ap (first p i) left ∙ rw e refl)
  where
    left : n - i ≡ suc (n - suc i)
    left = omega arith

pub first_next : {n i : ℕ} (p : ℕ → Bool) → i < n → From p n i → p i ≡ false → From p n (i + 1)
unfolding first
first_next {n} {i} p h f e = (omega arith, f.1 ∙ ap (first p i) left ∙ rw (e, add-one i) refl)
  where
    left : n - i ≡ suc (n - suc i)
    left = omega arith

pub first_none : {n i : ℕ} (p : ℕ → Bool) → n ≤ i → From p n i → n ≡ first p 0 n
unfolding first
first_none {n} {i} p h f = sym (f.1 ∙ ap (first p i) none ∙ omega (arith, f.0))
  where
    none : n - i ≡ 0
    none = omega arith
