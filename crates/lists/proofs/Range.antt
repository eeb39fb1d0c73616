-- Ranges of numbers: by index, joined and shifted, by their members and by count. A mapped list by index. Rests on Test.
use mathlib.Core.Path.{◌≡◌, refl, ap, ◌∙◌}
use mathlib.Core.List.{List, [], ◌∷◌, ◌++◌, map, Memᴰ}
use Prim.Native.Nat.{ℕ, zero, suc, ◌+◌, ◌≤◌, ◌<◌}
use native.Mathlib.Nat.{le_of_suc-le-suc, zero-add, add-zero, suc-add, add-suc}
use native.Mathlib.Omega.{arith}
use lib.ListN.{length, get_or}
use Rattle.lists.specs.Lists.{same, less, bit, range, All, count, tally}
use Rattle.lists.proofs.Test.{SameView, is, isnt, LessView, lt, ge, same?, less?}

pub length_range : (a n : ℕ) → length (range a n) ≡ n
unfolding range
length_range a zero = refl
length_range a (suc n) = ap suc (length_range (suc a) n)

pub get_or_range : (a n i : ℕ) → i < n → get_or (range a n) i 0 ≡ a + i
unfolding range
get_or_range a zero i h = absurd (omega arith)
get_or_range a (suc n) zero h = omega arith
get_or_range a (suc n) (suc i) h = omega (arith, get_or_range (suc a) n i (le_of_suc-le-suc h))

pub get_or_map : {A B : Type 0} (f : A → B) (s : List A) (i : ℕ) (a : A) (b : B) → i < length s → get_or (map f s) i b ≡ f (get_or s i a)
get_or_map f [] i a b h = absurd (omega arith)
get_or_map f (x ∷ s) zero a b h = refl
get_or_map f (x ∷ s) (suc i) a b h = get_or_map f s i a b (le_of_suc-le-suc h)

-- ---- joined and shifted ranges, and their members

pub range_append : (a n k : ℕ) → range a (n + k) ≡ range a n ++ range (a + n) k
unfolding range
range_append a zero k = simp (zero-add, add-zero)
range_append a (suc n) k = simp (suc-add, add-suc) (ap {B = List ℕ} (λ t. a ∷ t) (simp suc-add at (range_append (suc a) n k)))

pub range_snoc : (a n : ℕ) → range a (suc n) ≡ range a n ++ ((a + n) ∷ [])
unfolding range
range_snoc a n = let e : suc n ≡ n + 1 = omega arith in ap (range a) e ∙ range_append a n 1

pub range_shift : (d a n : ℕ) → map (λ p. p + d) (range a n) ≡ range (a + d) n
unfolding range
range_shift d a zero = refl
range_shift d a (suc n) = ap {B = List ℕ} (λ t. (a + d) ∷ t) (range_shift d (suc a) n ∙ ap (λ b. range b n) (suc-add a d))

pub mem_range : {i : ℕ} (a n : ℕ) → Memᴰ i (range a n) → (a ≤ i) × (i < a + n)
unfolding range
mem_range {i = i} a zero x' = elim x' [ ]
mem_range a (suc n) (Memᴰ.head e) = (omega arith, omega arith)
mem_range a (suc n) (Memᴰ.tail t) = let h = mem_range (suc a) n t in (omega (arith, h), omega (arith, h))

pub all_range : (P : ℕ → Type 0) (a n : ℕ) → ((i : ℕ) → a ≤ i → i < a + n → P i) → All P (range a n)
unfolding range
all_range P a zero h = tt
all_range P a (suc n) h = (h a (omega arith) (omega arith), all_range P (suc a) n (λ i l u. h i (omega arith) (omega arith)))

-- ---- a range by count

pub less_step : (v a : ℕ) → bit (less v a) + bit (same a v) ≡ bit (less v (suc a))
less_step v a = go (less? v a) (same? a v) (less? v (suc a))
  where
    go : LessView v a → SameView a v → LessView v (suc a) → bit (less v a) + bit (same a v) ≡ bit (less v (suc a))
    go (lt h e) (is p f) l = absurd (omega arith)
    go (lt h e) (isnt p f) (lt k g) = rw (e, f, g)
    go (lt h e) (isnt p f) (ge k g) = absurd (omega arith)
    go (ge h e) (is p f) (lt k g) = rw (e, f, g)
    go (ge h e) (is p f) (ge k g) = absurd (omega arith)
    go (ge h e) (isnt p f) (lt k g) = absurd (omega arith)
    go (ge h e) (isnt p f) (ge k g) = rw (e, f, g)

-- v stands once in the range if it is below the end and not below the start
pub count_range : (v a n : ℕ) → bit (less v a) + count v (range a n) ≡ bit (less v (a + n))
unfolding range count tally
count_range v a zero = let e : a + 0 ≡ a = omega arith in rw e (omega arith)
count_range v a (suc n) =
    let e : a + suc n ≡ suc a + n = omega arith in
    rw e (omega (arith, less_step v a, count_range v (suc a) n))
