-- Which lists are words: two words joined, a word of lower rank, and the word of a(j, k), with its letters one by one, their bounds, and its
-- parts. Rests on lists' All.
use mathlib.Core.Path.{◌≡◌, refl, sym, ap, ap₂, ◌∙◌}
use mathlib.Core.List.{List, [], ◌∷◌, ◌++◌, map}
use Prim.Native.Nat.{ℕ, zero, suc, pred, ◌+◌, ◌-◌, ◌≤◌, ◌<◌}
use native.Mathlib.Nat.{sub-zero, zero-add}
use native.Mathlib.Omega.{arith}
use lib.ListN.{length, get_or}
use Rattle.lists.specs.Lists.{All}
use Rattle.lists.proofs.All.{all_append}
use Rattle.perms.specs.Permutation.{Letter, Word}
use Rattle.perms.specs.Tower.{cycle}

pub word_append : (m : ℕ) (x y : List ℕ) → Word m x → Word m y → Word m (x ++ y)
word_append m = all_append (Letter m)

pub word_up : {l m : ℕ} (x : List ℕ) → l ≤ m → Word l x → Word m x
word_up [] h a = tt
word_up {l} (i ∷ x) h a = let k : Letter l i = a.0 in (record { low = k.low; high = omega arith }, word_up x h a.1)

-- ---- the word of a(j, k)

pub word_cycle : (m j k : ℕ) → j ≤ m → k ≤ j → Word m (cycle j k)
unfolding cycle
word_cycle m j zero h l = tt
word_cycle m j (suc k) h l = (record { low = omega arith; high = h }, word_cycle m (pred j) k (omega arith) (omega arith))

pub length_cycle : (j k : ℕ) → length (cycle j k) ≡ k
unfolding cycle
length_cycle j zero = refl
length_cycle j (suc k) = ap suc (length_cycle (pred j) k)

pub get_or_cycle : (j k i : ℕ) → i < k → get_or (cycle j k) i 0 ≡ j - i
unfolding cycle
get_or_cycle j zero i h = absurd (omega arith)
get_or_cycle j (suc k) zero h = omega arith
get_or_cycle j (suc k) (suc i) h = get_or_cycle (pred j) k i (omega arith) ∙ omega arith

pub cycle_under : (c j k : ℕ) → suc j < c → All (λ i. suc i < c) (cycle j k)
unfolding cycle
cycle_under c j zero h = tt
cycle_under c j (suc k) h = (h, cycle_under c (pred j) k (omega arith))

pub cycle_over : (c j k : ℕ) → c + k ≤ suc j → All (λ i. c ≤ i) (cycle j k)
unfolding cycle
cycle_over c j zero h = tt
cycle_over c j (suc k) h = (omega arith, cycle_over c (pred j) k (omega arith))

pub cycle_suc : (j k : ℕ) → k ≤ j → cycle (suc j) k ≡ map suc (cycle j k)
unfolding cycle
cycle_suc j zero h = refl
cycle_suc zero (suc k) h = absurd (omega arith)
cycle_suc (suc j) (suc k) h = ap {B = List ℕ} (λ x. suc (suc j) ∷ x) (cycle_suc j k (omega arith))

pub cycle_add : (j k l : ℕ) → cycle j (k + l) ≡ cycle j k ++ cycle (j - k) l
unfolding cycle
cycle_add j zero l = ap₂ cycle (sym (sub-zero j)) (zero-add l)
cycle_add j (suc k) l =
    let e : suc k + l ≡ suc (k + l) = omega arith in
    ap (cycle j) e ∙ ap {B = List ℕ} (λ x. j ∷ x) (cycle_add (pred j) k l ∙ ap (λ i. cycle (pred j) k ++ cycle i l) (omega arith))
