-- The mask of the numbers from 1 to m at which a test holds has m digits, and as many of them set as there are such numbers. Its digits one by
-- one and from the k-th on; the mask of one number more. Rests on lists' Test, Range and Tally.
use mathlib.Core.Path.{◌≡◌, refl, sym, ap, ap₂, ◌∙◌}
use mathlib.Core.Logic.{◌≢◌, ◌↔◌}
use mathlib.Core.Bool.{Bool, true, false}
use Prim.Native.Nat.{ℕ, zero, suc, ◌+◌, ◌-◌, ◌*◌, ◌/◌, ◌%◌, ◌^◌, ◌≤◌, ◌<◌}
use native.Mathlib.Nat.{add_comm}
use native.Mathlib.Omega.{arith}
use lib.Count.{ones, ones_cat}
use lib.Pow.{pow-add, high, low}
use Rattle.lists.specs.Lists.{bit, range, tally}
use Rattle.lists.proofs.Test.{SameView, is, isnt, same?, bit_true}
use Rattle.lists.proofs.Range.{range_append}
use Rattle.lists.proofs.Tally.{tally_append}
use Rattle.perms.specs.Permutation.{Letter}
use Rattle.perms.specs.Tower.{mask, number}

pub mask_lt : (p : ℕ → Bool) (m : ℕ) → mask p m < 2 ^ m
unfolding mask
mask_lt p zero = omega arith
mask_lt p (suc m) = go (mask_lt p m) (p (suc m))
  where
    go : mask p m < 2 ^ m → (b : Bool) → mask p m + bit b * 2 ^ m < 2 ^ suc m
    go ih true = omega arith
    go ih false = omega arith

ones_bit : (b : Bool) → ones (bit b) ≡ bit b
unfolding ones
ones_bit true = refl
ones_bit false = refl

pub ones_mask : (p : ℕ → Bool) (m : ℕ) → ones (mask p m) ≡ number p m
unfolding mask number ones
ones_mask p zero = refl
ones_mask p (suc m) =
    ap ones (add_comm (mask p m) (bit (p (suc m)) * 2 ^ m))
    ∙ ones_cat m (bit (p (suc m))) (mask p m) (mask_lt p m)
    ∙ omega (arith, ones_bit (p (suc m)), ones_mask p m)

pub number_tally : (p : ℕ → Bool) (m : ℕ) → number p m ≡ tally p (range 1 m)
unfolding number range tally
number_tally p zero = refl
number_tally p (suc m) = ap (λ n. n + bit (p (suc m))) (number_tally p m) ∙ sym (ap (λ n. tally p (range 1 n)) next ∙ last)
  where
    next : suc m ≡ m + 1
    next = omega arith

    here : 1 + m ≡ suc m
    here = omega arith

    last : tally p (range 1 (m + 1)) ≡ tally p (range 1 m) + bit (p (suc m))
    last = ap (tally p) (range_append 1 m 1) ∙ tally_append p (range 1 m) (range (1 + m) 1) ∙ omega (arith, ap (λ n. bit (p n)) here)

-- ---- the digits

-- the digits from the k-th on are those of the numbers after k, and the others those of the numbers up to k
mask_cut : (p : ℕ → Bool) (k m : ℕ) → mask p (k + m) ≡ mask (λ i. p (k + i)) m * 2 ^ k + mask p k
unfolding mask
mask_cut p k zero = let e : k + 0 ≡ k = omega arith in rw e (omega arith)
mask_cut p k (suc m) =
    let e : k + suc m ≡ suc (k + m) = omega arith in
    rw e (go (p (suc (k + m))) (mask_cut p k m) (pow-add 2 k m))
  where
    go : (b : Bool) → mask p (k + m) ≡ mask (λ i. p (k + i)) m * 2 ^ k + mask p k → 2 ^ (k + m) ≡ 2 ^ k * 2 ^ m
        → mask p (k + m) + bit b * 2 ^ (k + m) ≡ (mask (λ i. p (k + i)) m + bit b * 2 ^ m) * 2 ^ k + mask p k
    go true ih e = omega arith
    go false ih e = omega arith

pub mask_from : (p : ℕ → Bool) (k m : ℕ) → mask p (k + m) / 2 ^ k ≡ mask (λ i. p (k + i)) m
mask_from p k m = ap (λ n. n / 2 ^ k) (mask_cut p k m) ∙ high (mask (λ i. p (k + i)) m) k (mask_lt p k)

mask_lowest : (p : ℕ → Bool) (m : ℕ) → mask p (1 + m) % 2 ≡ bit (p 1)
unfolding mask
mask_lowest p m = ap (λ n. n % 2) (mask_cut p 1 m) ∙ low (mask (λ i. p (1 + i)) m) 1 (mask_lt p 1) ∙ omega arith

pub mask_digit : (p : ℕ → Bool) (k m : ℕ) → k < m → mask p m / 2 ^ k % 2 ≡ bit (p (suc k))
mask_digit p k m h =
    let e : m ≡ k + (1 + (m - suc k)) = omega arith in
    let f : k + 1 ≡ suc k = omega arith in
    ap (λ n. mask p n / 2 ^ k % 2) e ∙ ap (λ n. n % 2) (mask_from p k (1 + (m - suc k))) ∙ mask_lowest (λ i. p (k + i)) (m - suc k)
    ∙ ap (λ n. bit (p n)) f

pub mask_set : (p : ℕ → Bool) (m i : ℕ) → Letter m i → (mask p m / 2 ^ (i - 1) % 2 ≡ 1) ↔ (p i ≡ true)
mask_set p m i l = (λ d. bit_true (p i) (sym digit ∙ d), λ d. digit ∙ ap bit d)
  where
    digit : mask p m / 2 ^ (i - 1) % 2 ≡ bit (p i)
    digit = let e : suc (i - 1) ≡ i = omega arith in mask_digit p (i - 1) m (omega arith) ∙ ap (λ n. bit (p n)) e

-- ---- other tests

pub mask_same : (p q : ℕ → Bool) (m : ℕ) → ((v : ℕ) → v ≤ m → q v ≡ p v) → mask q m ≡ mask p m
unfolding mask
mask_same p q zero h = refl
mask_same p q (suc m) h = ap₂ (λ n b. n + bit b * 2 ^ m) (mask_same p q m (λ v l. h v (omega arith))) (h (suc m) (omega arith))

pub mask_none : (m : ℕ) → mask (λ v. false) m ≡ 0
unfolding mask
mask_none zero = refl
mask_none (suc m) = omega (arith, mask_none m)

-- q holds at k + 1 besides
pub mask_more : (p q : ℕ → Bool) (k m : ℕ) → k < m → p (suc k) ≡ false → q (suc k) ≡ true → ((v : ℕ) → v ≢ suc k → q v ≡ p v) → mask q m ≡ mask p m + 2 ^ k
unfolding mask
mask_more p q k zero l a b h = absurd (omega arith)
mask_more p q k (suc m) l a b h = go (mask_more p q k m) (same? m k)
  where
    go : (k < m → p (suc k) ≡ false → q (suc k) ≡ true → ((v : ℕ) → v ≢ suc k → q v ≡ p v) → mask q m ≡ mask p m + 2 ^ k) → SameView m k
        → mask q m + bit (q (suc m)) * 2 ^ m ≡ mask p m + bit (p (suc m)) * 2 ^ m + 2 ^ k
    go ih (is e f) = rw (e, a, b) (omega (arith, mask_same p q k (λ v n. h v (λ d. omega arith))))
    go ih (isnt n f) = rw (h (suc m) (λ d. n (omega arith))) (omega (arith, ih (omega arith) a b h))
