-- A permutation of one more point: `extend c u` makes room for the value c in u and puts c last. What a generator on the right does to it,
-- and the identity as such a list. A series without one of its terms. Rests on Swap, Perm and lists' Series.
use mathlib.Core.Path.{◌≡◌, sym, ap, ap₂, refl, ◌∙◌}
use mathlib.Core.List.{List, [], ◌∷◌, ◌++◌, map, map-id}
use Prim.Native.Nat.{ℕ, zero, suc, ◌+◌, ◌-◌, ◌≤◌, ◌<◌}
use native.Mathlib.Omega.{arith}
use lib.ListN.{length, get_or}
use Rattle.lists.specs.Lists.{less, range}
use Rattle.lists.specs.Numbers.{series}
use Rattle.lists.proofs.Test.{SameView, is, isnt, LessView, lt, ge, same?, less?, less_yes, less_no}
use Rattle.lists.proofs.Series.{series_cong}
use Rattle.perms.specs.Permutation.{identity, swap}
use Rattle.perms.specs.Extend.{bump, extend}
use Rattle.perms.proofs.Swap.{swap_low, swap_high, swap_off, swap_lo, swap_hi, swap_suc}
use Rattle.perms.proofs.Perm.{rgt, rgt_rgt}

pub data BumpView (c v : ℕ) : Type 0 where
  under : v < c → bump c v ≡ v → BumpView c v
  over : c ≤ v → bump c v ≡ suc v → BumpView c v

pub bump? : (c v : ℕ) → BumpView c v
unfolding bump
bump? c v = go (less? v c)
  where
    go : LessView v c → BumpView c v
    go (lt p e) = under p (rw e)
    go (ge p e) = over p (rw e)

-- bump at facts
pub bump_under : {c v : ℕ} → v < c → bump c v ≡ v
bump_under {c} {v} h = go (bump? c v)
  where
    go : BumpView c v → bump c v ≡ v
    go (under p e) = e
    go (over p e) = absurd (omega arith)

pub bump_over : {c v : ℕ} → c ≤ v → bump c v ≡ suc v
bump_over {c} {v} h = go (bump? c v)
  where
    go : BumpView c v → bump c v ≡ suc v
    go (under p e) = absurd (omega arith)
    go (over p e) = e

pub bump_above : (c v : ℕ) → v ≤ bump c v
bump_above c v = go (bump? c v)
  where
    go : BumpView c v → v ≤ bump c v
    go (under p e) = omega arith
    go (over p e) = omega arith

-- where all values are below c nothing makes room
pub extend_snoc : (c : ℕ) (u : List ℕ) → ((i : ℕ) → i < length u → get_or u i 0 < c) → extend c u ≡ u ++ (c ∷ [])
unfolding extend
extend_snoc c [] h = refl
extend_snoc c (x ∷ u) h = ap₂ {C = List ℕ} (λ a b. a ∷ b) (bump_under (h 0 (omega arith))) (extend_snoc c u (λ i k. h (suc i) (omega arith)))

pub length_extend : (c : ℕ) (u : List ℕ) → length (extend c u) ≡ suc (length u)
unfolding extend
length_extend c [] = refl
length_extend c (x ∷ u) = ap suc (length_extend c u)

-- ---- a series without the term c

pub series_without : (n c : ℕ) (F : ℕ → ℕ) → c ≤ n → series 0 (suc n) F ≡ F c + series 0 n (λ j. F (bump c j))
unfolding series
series_without zero c F h = let e : c ≡ 0 + 0 = omega arith in omega (arith, ap F e)
series_without (suc n) c F h = go (series_without n c F) (less? c (suc n))
  where
    go : (c ≤ n → series 0 (suc n) F ≡ F c + series 0 n (λ j. F (bump c j))) → LessView c (suc n)
        → series 0 (suc n) F + F (0 + suc n) ≡ F c + series 0 (suc n) (λ j. F (bump c j))
    go ih (lt l e) =
        let last : bump c (0 + n) ≡ 0 + suc n = bump_over (omega arith) ∙ omega arith in
        omega (arith, ih (omega arith), ap F last)
    go ih (ge l e) =
        let top : c ≡ 0 + suc n = omega arith in
        omega (arith, ap F top, series_cong 0 (suc n) F (λ j. F (bump c j)) (λ i k. ap F (sym (bump_under (omega arith)))))

-- ---- the order of the values

pub less_bump : (c x y : ℕ) → less (bump c x) (bump c y) ≡ less x y
less_bump c x y = go (bump? c x) (bump? c y) (less? x y)
  where
    go : BumpView c x → BumpView c y → LessView x y → less (bump c x) (bump c y) ≡ less x y
    go (under a e) (under b f) v = ap₂ less e f
    go (under a e) (over b f) v = less_yes (omega arith) ∙ sym (less_yes (omega arith))
    go (over a e) (under b f) v = less_no (omega arith) ∙ sym (less_no (omega arith))
    go (over a e) (over b f) (lt h g) = less_yes (omega arith) ∙ sym g
    go (over a e) (over b f) (ge h g) = less_no (omega arith) ∙ sym g

-- what makes room for c + 1 exceeds it just where it exceeded c
pub less_room : (c x : ℕ) → less (suc c) (bump (suc c) x) ≡ less c x
less_room c x = go (bump? (suc c) x)
  where
    go : BumpView (suc c) x → less (suc c) (bump (suc c) x) ≡ less c x
    go (under a e) = less_no (omega arith) ∙ sym (less_no (omega arith))
    go (over a e) = less_yes (omega arith) ∙ sym (less_yes (omega arith))

-- ---- a generator on the right

rgt_extend : (i c c' : ℕ) (g : ℕ → ℕ) → swap i c ≡ c' → ((v : ℕ) → swap i (bump c v) ≡ bump c' (g v)) → (u : List ℕ) → rgt i (extend c u) ≡ extend c' (map g u)
unfolding rgt extend
rgt_extend i c c' g e f [] = ap {B = List ℕ} (λ r. r ∷ []) e
rgt_extend i c c' g e f (x ∷ u) = ap₂ {C = List ℕ} (λ a b. a ∷ b) (f x) (rgt_extend i c c' g e f u)

-- c is above both values
pub rgt_above : (i c : ℕ) → suc i < c → (u : List ℕ) → rgt i (extend c u) ≡ extend c (rgt i u)
unfolding rgt
rgt_above i c h u = rgt_extend i c c (swap i) (swap_off i c (omega arith) (omega arith)) (λ v. go v (bump? c v)) u
  where
    go : (v : ℕ) → BumpView c v → swap i (bump c v) ≡ bump c (swap i v)
    go v (under a e) = ap (swap i) e ∙ sym (bump_under (omega (arith, swap_high {m = c - 2} {i = i} v (omega arith) (omega arith))))
    go v (over a e) = ap (swap i) e ∙ swap_off i (suc v) (omega arith) (omega arith) ∙ sym (ap (bump c) (swap_off i v (omega arith) (omega arith)) ∙ e)

-- c is the upper of the two values: the lower one comes last
pub rgt_upper : (i : ℕ) (u : List ℕ) → rgt i (extend (suc i) u) ≡ extend i u
rgt_upper i u = rgt_extend i (suc i) i (λ v. v) (swap_hi i) (λ v. go v (bump? i v) (same? v i)) u ∙ ap (extend i) (map-id u)
  where
    go : (v : ℕ) → BumpView i v → SameView v i → swap i (bump (suc i) v) ≡ bump i v
    go v (under a e) s = ap (swap i) (bump_under (omega arith)) ∙ swap_off i v (omega arith) (omega arith) ∙ sym e
    go v (over a e) (is p f) = ap (swap i) (bump_under (omega arith) ∙ p) ∙ swap_lo i ∙ omega arith
    go v (over a e) (isnt n f) = ap (swap i) (bump_over (omega arith)) ∙ swap_off i (suc v) (omega arith) (omega arith) ∙ sym e

-- c is the lower
pub rgt_lower : (i : ℕ) (u : List ℕ) → rgt i (extend i u) ≡ extend (suc i) u
rgt_lower i u = ap (rgt i) (sym (rgt_upper i u)) ∙ rgt_rgt i (extend (suc i) u)

-- c is below both: they were one less before room was made for c
pub rgt_below : (i c : ℕ) → c ≤ i → (u : List ℕ) → rgt (suc i) (extend c u) ≡ extend c (rgt i u)
unfolding rgt
rgt_below i c h u = rgt_extend (suc i) c c (swap i) (swap_off (suc i) c (omega arith) (omega arith)) (λ v. go v (bump? c v)) u
  where
    go : (v : ℕ) → BumpView c v → swap (suc i) (bump c v) ≡ bump c (swap i v)
    go v (under a e) = ap (swap (suc i)) e ∙ swap_off (suc i) v (omega arith) (omega arith) ∙ sym (ap (bump c) (swap_off i v (omega arith) (omega arith)) ∙ e)
    go v (over a e) = ap (swap (suc i)) e ∙ swap_suc i v ∙ sym (bump_over (swap_low v h a))

-- ---- the identity

range_extend : (c a n : ℕ) → c ≡ a + n → extend c (range a n) ≡ range a (suc n)
unfolding range extend
range_extend c a zero e = ap {B = List ℕ} (λ c. c ∷ []) (omega arith)
range_extend c a (suc n) e = ap₂ {C = List ℕ} (λ x y. x ∷ y) (bump_under (omega arith)) (range_extend c (suc a) n (omega arith))

pub identity_suc : (m : ℕ) → identity (suc m) ≡ extend (m + 2) (identity m)
unfolding identity
identity_suc m = ap (range 1) (omega arith) ∙ sym (range_extend (m + 2) 1 (m + 1) (omega arith))
