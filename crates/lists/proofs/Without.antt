-- A list without one of its elements. Where a list is rearranged, so is what is left of both without one element; and what each element of a list has, each
-- element of a rearrangement has. Rests on All.
--
--   cut k t     t without its element at k
--   moved k j   the index there of what stood at j
use mathlib.Core.Path.{◌≡◌, refl, sym, ap, subst, ◌∙◌}
use mathlib.Core.Logic.{◌≢◌}
use mathlib.Core.List.{List, [], ◌∷◌}
use Prim.Native.Nat.{ℕ, zero, suc, ◌<◌}
use native.Mathlib.Nat.{le_of_suc-le-suc}
use native.Mathlib.Omega.{arith}
use lib.ListN.{length, get_or}
use Rattle.lists.specs.Lists.{All}
use Rattle.lists.specs.Sums.{Rearranged}
use Rattle.lists.proofs.All.{all_get_or, all_index}

unfoldable pub cut : {B : Type 0} → ℕ → List B → List B
cut k [] = []
cut zero (x ∷ t) = t
cut (suc k) (x ∷ t) = x ∷ cut k t

unfoldable moved : ℕ → ℕ → ℕ
moved zero zero = 0
moved zero (suc j) = j
moved (suc k) zero = 0
moved (suc k) (suc j) = suc (moved k j)

length_cut : {B : Type 0} (k : ℕ) (t : List B) → k < length t → length t ≡ suc (length (cut k t))
unfolding cut
length_cut k [] h = absurd (omega arith)
length_cut zero (x ∷ t) h = refl
length_cut (suc k) (x ∷ t) h = ap suc (length_cut k t (le_of_suc-le-suc h))

get_or_cut : {B : Type 0} (k j : ℕ) (t : List B) (d : B) → j ≢ k → get_or (cut k t) (moved k j) d ≡ get_or t j d
unfolding cut moved
get_or_cut k j [] d n = refl
get_or_cut zero zero (x ∷ t) d n = absurd (n refl)
get_or_cut zero (suc j) (x ∷ t) d n = refl
get_or_cut (suc k) zero (x ∷ t) d n = refl
get_or_cut (suc k) (suc j) (x ∷ t) d n = get_or_cut k j t d (λ e. n (ap suc e))

moved_below : (k j n : ℕ) → j ≢ k → k < suc n → j < suc n → moved k j < n
unfolding moved
moved_below zero zero n a h l = absurd (a refl)
moved_below zero (suc j) n a h l = omega arith
moved_below (suc k) zero n a h l = omega arith
moved_below (suc k) (suc j) zero a h l = absurd (omega arith)
moved_below (suc k) (suc j) (suc n) a h l = omega (arith, moved_below k j n (λ e. a (ap suc e)) (omega arith) (omega arith))

moved_apart : (k i j : ℕ) → i ≢ k → j ≢ k → moved k i ≡ moved k j → i ≡ j
unfolding moved
moved_apart zero zero j a b e = absurd (a refl)
moved_apart zero (suc i) zero a b e = absurd (b refl)
moved_apart zero (suc i) (suc j) a b e = ap suc e
moved_apart (suc k) zero zero a b e = refl
moved_apart (suc k) zero (suc j) a b e = absurd (omega arith)
moved_apart (suc k) (suc i) zero a b e = absurd (omega arith)
moved_apart (suc k) (suc i) (suc j) a b e = ap suc (moved_apart k i j (λ z. a (ap suc z)) (λ z. b (ap suc z)) (omega arith))

-- what is left of two lists when the first element of one is taken from both
pub rest : {B : Type 0} (x : B) (s t : List B) (r : Rearranged (x ∷ s) t) → Rearranged s (cut (r.from 0) t)
rest x s t r = record {
  size = omega (arith, long, r.size);
  from = λ i. moved k (r.from (suc i));
  within = λ i h.
      moved_below k (r.from (suc i)) (length (cut k t)) (other i h) (omega (arith, long, first)) (omega (arith, long, r.within (suc i) (omega arith)));
  apart = λ i j h l e.
      omega (arith, r.apart (suc i) (suc j) (omega arith) (omega arith) (moved_apart k (r.from (suc i)) (r.from (suc j)) (other i h) (other j l) e));
  same = λ d i h. r.same d (suc i) (omega arith) ∙ sym (get_or_cut k (r.from (suc i)) t d (other i h));
}
  where
    k : ℕ
    k = r.from 0

    first : k < length t
    first = r.within 0 (omega arith)

    long : length t ≡ suc (length (cut k t))
    long = length_cut k t first

    other : (i : ℕ) → i < length s → r.from (suc i) ≢ k
    other i h e = omega (arith, r.apart (suc i) 0 (omega arith) (omega arith) e)

-- ---- what each element has

pub all_cut : {B : Type 0} (P : B → Type 0) (k : ℕ) (t : List B) → All P t → All P (cut k t)
unfolding cut
all_cut P k [] a = tt
all_cut P zero (x ∷ t) a = a.1
all_cut P (suc k) (x ∷ t) a = (a.0, all_cut P k t a.1)

pub all_rearranged : {B : Type 0} (P : B → Type 0) (s t : List B) (d : B) → Rearranged s t → All P t → All P s
all_rearranged P s t d r a = all_index P s d (λ i h. subst P (sym (r.same d i h)) (all_get_or P t (r.from i) d (r.within i h) a))
