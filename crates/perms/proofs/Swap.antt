-- The transposition s_i on points: what it does by cases, that it undoes itself, how an injective function carries it along, its bounds, and
-- that it keeps the order of two points but for i and i + 1. Rests on lists' Test.
use mathlib.Core.Path.{◌≡◌, refl, sym, ap, ◌∙◌}
use mathlib.Core.Logic.{◌≢◌}
use Prim.Native.Nat.{ℕ, suc, ◌+◌, ◌≤◌, ◌<◌}
use native.Mathlib.Omega.{arith}
use Rattle.lists.specs.Lists.{same, less}
use Rattle.lists.proofs.Test.{SameView, is, isnt, LessView, lt, ge, same?, less?, same_yes, same_no, less_yes, less_no}
use Rattle.perms.specs.Permutation.{swap}

pub data SwapView (i v : ℕ) : Type 0 where
  lo : v ≡ i → swap i v ≡ suc i → SwapView i v
  hi : v ≡ suc i → swap i v ≡ i → SwapView i v
  off : v ≢ i → v ≢ suc i → swap i v ≡ v → SwapView i v

pub swap? : (i v : ℕ) → SwapView i v
unfolding swap
swap? i v = go (same? v i) (same? v (suc i))
  where
    go : SameView v i → SameView v (suc i) → SwapView i v
    go (is p e) s = lo p (rw e)
    go (isnt n e) (is p f) = hi p (rw (e, f))
    go (isnt n e) (isnt k f) = off n k (rw (e, f))

pub swap_off : (i v : ℕ) → v ≢ i → v ≢ suc i → swap i v ≡ v
swap_off i v n k = go (swap? i v)
  where
    go : SwapView i v → swap i v ≡ v
    go (lo p e) = absurd (n p)
    go (hi p e) = absurd (k p)
    go (off p q e) = e

pub swap_lo : (i : ℕ) → swap i i ≡ suc i
swap_lo i = go (swap? i i)
  where
    go : SwapView i i → swap i i ≡ suc i
    go (lo p e) = e
    go (hi p e) = omega arith
    go (off p n e) = absurd (p refl)

pub swap_hi : (i : ℕ) → swap i (suc i) ≡ i
swap_hi i = go (swap? i (suc i))
  where
    go : SwapView i (suc i) → swap i (suc i) ≡ i
    go (lo p e) = omega arith
    go (hi p e) = e
    go (off p n e) = absurd (n refl)

pub swap_swap : (i v : ℕ) → swap i (swap i v) ≡ v
swap_swap i v = go (swap? i v)
  where
    go : SwapView i v → swap i (swap i v) ≡ v
    go (lo p e) = ap (swap i) e ∙ swap_hi i ∙ sym p
    go (hi p e) = ap (swap i) e ∙ swap_lo i ∙ sym p
    go (off p n e) = ap (swap i) e ∙ e

-- a function that takes i and i + 1 to k and k + 1, and no two points to one, carries s_i to s_k
pub swap_carry : (f : ℕ → ℕ) → ((u v : ℕ) → f u ≡ f v → u ≡ v) → (i k v : ℕ) → f i ≡ k → f (suc i) ≡ suc k → f (swap i v) ≡ swap k (f v)
swap_carry f injective i k v p q = go (swap? i v)
  where
    go : SwapView i v → f (swap i v) ≡ swap k (f v)
    go (lo d e) = ap f e ∙ q ∙ sym (swap_lo k) ∙ ap (swap k) (sym (ap f d ∙ p))
    go (hi d e) = ap f e ∙ p ∙ sym (swap_hi k) ∙ ap (swap k) (sym (ap f d ∙ q))
    go (off b c e) = ap f e ∙ sym (swap_off k (f v) (λ d. b (injective v i (d ∙ sym p))) (λ d. c (injective v (suc i) (d ∙ sym q))))

pub swap_suc : (i v : ℕ) → swap (suc i) (suc v) ≡ suc (swap i v)
swap_suc i v = sym (swap_carry suc (λ u v e. omega arith) i (suc i) v refl refl)

-- x is moved to v just where x is what v is moved to
pub same_swap : (i x v : ℕ) → same (swap i x) v ≡ same x (swap i v)
same_swap i x v = go (same? x (swap i v))
  where
    go : SameView x (swap i v) → same (swap i x) v ≡ same x (swap i v)
    go (is p e) = same_yes (ap (swap i) p ∙ swap_swap i v) ∙ sym e
    go (isnt n e) = same_no (λ q. n (sym (swap_swap i x) ∙ ap (swap i) q)) ∙ sym e

pub swap_low : {c i : ℕ} (v : ℕ) → c ≤ i → c ≤ v → c ≤ swap i v
swap_low {c} {i} v l h = go (swap? i v)
  where
    go : SwapView i v → c ≤ swap i v
    go (lo p e) = omega arith
    go (hi p e) = omega arith
    go (off p n e) = omega arith

pub swap_high : {m i : ℕ} (v : ℕ) → i ≤ m → v ≤ m + 1 → swap i v ≤ m + 1
swap_high {m} {i} v l h = go (swap? i v)
  where
    go : SwapView i v → swap i v ≤ m + 1
    go (lo p e) = omega arith
    go (hi p e) = omega arith
    go (off p n e) = omega arith

-- ---- the order of two points

swap_mono : (i x y : ℕ) → swap i x ≢ y → x < y → swap i x < swap i y
swap_mono i x y n h = go (swap? i x) (swap? i y)
  where
    go : SwapView i x → SwapView i y → swap i x < swap i y
    go (lo p e) t = omega (arith, swap_off i y (omega arith) (omega arith))
    go (hi p e) t = omega (arith, swap_off i y (omega arith) (omega arith))
    go (off p k e) (lo q f) = omega arith
    go (off p k e) (hi q f) = omega arith
    go (off p k e) (off q l f) = omega arith

pub less_swap : (i x y : ℕ) → swap i x ≢ y → less (swap i x) (swap i y) ≡ less x y
less_swap i x y n = go (less? x y) (same? x y)
  where
    go : LessView x y → SameView x y → less (swap i x) (swap i y) ≡ less x y
    go (lt h e) s = less_yes (swap_mono i x y n h) ∙ sym e
    go (ge h e) (is p f) = less_no (omega (arith, ap (swap i) p)) ∙ sym e
    go (ge h e) (isnt p f) = less_no (omega (arith, swap_mono i y x (λ q. n (ap (swap i) (sym q) ∙ swap_swap i y)) (omega arith))) ∙ sym e
