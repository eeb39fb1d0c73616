-- A generator on the right swaps two values of an image list, on the left two positions. Each undoes itself and keeps permutations, and the
-- two commute. No value stands twice in a permutation. Rests on Swap and lists' Tally.
use mathlib.Core.Path.{◌≡◌, refl, ap, ◌∙◌, fun_ext}
use mathlib.Core.Bool.{Bool}
use mathlib.Core.List.{List, [], ◌∷◌, map, map-map, map-id}
use Prim.Native.Nat.{ℕ, zero, suc, pred, ◌+◌, ◌≤◌}
use native.Mathlib.Omega.{arith}
use lib.ListN.{length, length-map}
use Rattle.lists.specs.Lists.{same, bit, count, tally}
use Rattle.lists.proofs.Test.{LessView, lt, ge, less?}
use Rattle.lists.proofs.Tally.{tally_map}
use Rattle.perms.specs.Permutation.{Perm, Letter, swap}
use Rattle.perms.proofs.Swap.{swap_swap, same_swap, swap_low, swap_high, swap_off}

-- ---- the two actions

-- w s_i: the values i and i + 1 change places
unfoldable pub rgt : ℕ → List ℕ → List ℕ
rgt i w = map (swap i) w

-- w times the generators of a word, the first first
unfoldable pub rgt_word : List ℕ → List ℕ → List ℕ
rgt_word [] w = w
rgt_word (i ∷ x) w = rgt_word x (rgt i w)

-- swap the elements at p and p+1, from 0
abbrev pub swap_at : ℕ → List ℕ → List ℕ
swap_at zero [] = []
swap_at zero (x ∷ []) = x ∷ []
swap_at zero (x ∷ y ∷ w) = y ∷ x ∷ w
swap_at (suc p) [] = []
swap_at (suc p) (x ∷ w) = x ∷ swap_at p w

-- s_i w: the positions i and i + 1 change places
unfoldable pub lft : ℕ → List ℕ → List ℕ
lft i w = swap_at (pred i) w

pub rgt_rgt : (i : ℕ) (w : List ℕ) → rgt i (rgt i w) ≡ w
unfolding rgt
rgt_rgt i w = map-map (swap i) (swap i) w ∙ ap (λ f. map f w) (fun_ext (swap_swap i)) ∙ map-id w

swap_at_swap_at : (p : ℕ) (w : List ℕ) → swap_at p (swap_at p w) ≡ w
swap_at_swap_at zero [] = refl
swap_at_swap_at zero (x ∷ []) = refl
swap_at_swap_at zero (x ∷ y ∷ w) = refl
swap_at_swap_at (suc p) [] = refl
swap_at_swap_at (suc p) (x ∷ w) = ap {B = List ℕ} (λ r. x ∷ r) (swap_at_swap_at p w)

pub lft_lft : (i : ℕ) (w : List ℕ) → lft i (lft i w) ≡ w
unfolding lft
lft_lft i w = swap_at_swap_at (pred i) w

swap_at_map : (f : ℕ → ℕ) (p : ℕ) (w : List ℕ) → swap_at p (map f w) ≡ map f (swap_at p w)
swap_at_map f zero [] = refl
swap_at_map f zero (x ∷ []) = refl
swap_at_map f zero (x ∷ y ∷ w) = refl
swap_at_map f (suc p) [] = refl
swap_at_map f (suc p) (x ∷ w) = ap {B = List ℕ} (λ r. f x ∷ r) (swap_at_map f p w)

pub lft_rgt : (i j : ℕ) (w : List ℕ) → lft i (rgt j w) ≡ rgt j (lft i w)
unfolding lft rgt
lft_rgt i j w = swap_at_map (swap j) (pred i) w

-- ---- what stands in the list

pub count_rgt : (i v : ℕ) (w : List ℕ) → count v (rgt i w) ≡ count (swap i v) w
unfolding count rgt
count_rgt i v w = tally_map (λ x. same x v) (λ x. same x (swap i v)) (swap i) (λ x. same_swap i x v) w

pub tally_swap_at : (t : ℕ → Bool) (p : ℕ) (w : List ℕ) → tally t (swap_at p w) ≡ tally t w
unfolding tally
tally_swap_at t zero [] = refl
tally_swap_at t zero (x ∷ []) = refl
tally_swap_at t zero (x ∷ y ∷ w) = omega arith
tally_swap_at t (suc p) [] = refl
tally_swap_at t (suc p) (x ∷ w) = ap (λ n. bit (t x) + n) (tally_swap_at t p w)

count_lft : (i v : ℕ) (w : List ℕ) → count v (lft i w) ≡ count v w
unfolding count lft
count_lft i v w = tally_swap_at (λ x. same x v) (pred i) w

pub swap_at_length : (p : ℕ) (w : List ℕ) → length (swap_at p w) ≡ length w
swap_at_length zero [] = refl
swap_at_length zero (x ∷ []) = refl
swap_at_length zero (x ∷ y ∷ w) = refl
swap_at_length (suc p) [] = refl
swap_at_length (suc p) (x ∷ w) = ap suc (swap_at_length p w)

-- ---- permutations of rank m

pub perm_rgt : {m i : ℕ} {w : List ℕ} → Letter m i → Perm m w → Perm m (rgt i w)
unfolding rgt
perm_rgt {m} {i} {w} l c = record {
  size = length-map w (swap i) ∙ c.size;
  once = λ v a b. count_rgt i v w ∙ c.once (swap i v) (swap_low v l.low a) (swap_high v l.high b);
  none = λ v a. count_rgt i v w ∙ ap (λ x. count x w) (swap_off i v (omega arith) (omega arith)) ∙ c.none v a;
  zeroth = count_rgt i 0 w ∙ ap (λ x. count x w) (swap_off i 0 (omega arith) (omega arith)) ∙ c.zeroth;
}

pub perm_lft : {m : ℕ} (i : ℕ) {w : List ℕ} → Perm m w → Perm m (lft i w)
unfolding lft
perm_lft i {w} c = record {
  size = swap_at_length (pred i) w ∙ c.size;
  once = λ v a b. count_lft i v w ∙ c.once v a b;
  none = λ v a. count_lft i v w ∙ c.none v a;
  zeroth = count_lft i 0 w ∙ c.zeroth;
}

-- ---- no value stands twice

abbrev pub Dist : List ℕ → Type 0
Dist w = (v : ℕ) → count v w ≤ 1

pub dist_tail : (x : ℕ) (w : List ℕ) → Dist (x ∷ w) → Dist w
unfolding count tally
dist_tail x w d v = omega (arith, d v)

pub perm_dist : {m : ℕ} {w : List ℕ} → Perm m w → Dist w
perm_dist {m} {w} c v = go v (less? (m + 1) v)
  where
    go : (v : ℕ) → LessView (m + 1) v → count v w ≤ 1
    go v (lt h e) = omega (arith, c.none v h)
    go zero (ge h e) = omega (arith, c.zeroth)
    go (suc v) (ge h e) = omega (arith, c.once (suc v) (omega arith) h)
