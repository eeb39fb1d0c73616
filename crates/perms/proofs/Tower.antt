-- The tower of a permutation: its entries one by one, that they are a tower, and that `extend c u` has the tower of u and then m + 2 - c. Rests on Split and Above.
use mathlib.Core.Path.{◌≡◌, refl, ap, ap₂, ◌∙◌}
use mathlib.Core.List.{List, [], ◌∷◌, ◌++◌, map}
use Prim.Native.Nat.{ℕ, zero, suc, pred, ◌+◌, ◌-◌, ◌≤◌, ◌<◌}
use native.Mathlib.Nat.{le_of_suc-le-suc}
use native.Mathlib.Omega.{arith}
use lib.ListN.{length, get_or, take, length-map, length-take, get_or-eq_default}
use lib.Seq.{take_all}
use Rattle.lists.specs.Lists.{less, range}
use Rattle.lists.proofs.Test.{LessView, lt, ge, less?}
use Rattle.lists.proofs.Tally.{tally_map, tally_size}
use Rattle.lists.proofs.Range.{length_range, get_or_range, get_or_map}
use Rattle.perms.specs.Permutation.{Perm}
use Rattle.perms.specs.Extend.{bump, extend}
use Rattle.perms.specs.Tower.{above, entry, tower_of, Tower}
use Rattle.perms.proofs.Above.{above_step, above_none}
use Rattle.perms.proofs.Extend.{length_extend, less_bump, less_room}
use Rattle.perms.proofs.Split.{Tail}

-- ---- the entries

pub get_or_tower : (w : List ℕ) (i : ℕ) → suc i < length w → get_or (tower_of w) i 0 ≡ entry (suc i) w
unfolding tower_of
get_or_tower w i h =
    let k : i < pred (length w) = omega arith in
    get_or_map (λ j. entry j w) (range 1 (pred (length w))) i 0 0 (omega (arith, length_range 1 (pred (length w))))
    ∙ ap (λ j. entry j w) (omega (arith, get_or_range 1 (pred (length w)) i k))

pub length_tower : (w : List ℕ) → length (tower_of w) ≡ pred (length w)
unfolding tower_of
length_tower w = length-map (range 1 (pred (length w))) (λ j. entry j w) ∙ length_range 1 (pred (length w))

pub entry_le : (j : ℕ) (w : List ℕ) → entry j w ≤ j
unfolding entry above
entry_le j w = omega (arith, tally_size (λ y. less (get_or w j 0) y) (take j w), length-take j w)

pub tower_is : (m : ℕ) (w : List ℕ) → Perm m w → Tower m (tower_of w)
tower_is m w p = record { size = omega (arith, length_tower w, p.size); within = λ i. go i (less? (suc i) (length w)) }
  where
    go : (i : ℕ) → LessView (suc i) (length w) → get_or (tower_of w) i 0 ≤ suc i
    go i (lt h e) = omega (arith, get_or_tower w i h, entry_le (suc i) w)
    go i (ge h e) = omega (arith, get_or-eq_default (tower_of w) 0 {n = i} (omega (arith, length_tower w)))

-- ---- the entries of an extended list

pub get_or_extend : (c j : ℕ) (u : List ℕ) → j < length u → get_or (extend c u) j 0 ≡ bump c (get_or u j 0)
unfolding extend
get_or_extend c j [] h = absurd (omega arith)
get_or_extend c zero (x ∷ u) h = refl
get_or_extend c (suc j) (x ∷ u) h = get_or_extend c j u (le_of_suc-le-suc h)

pub get_or_extend_last : (c : ℕ) (u : List ℕ) → get_or (extend c u) (length u) 0 ≡ c
unfolding extend
get_or_extend_last c [] = refl
get_or_extend_last c (x ∷ u) = get_or_extend_last c u

take_extend : (c j : ℕ) (u : List ℕ) → j ≤ length u → take j (extend c u) ≡ map (bump c) (take j u)
unfolding extend
take_extend c zero u h = refl
take_extend c (suc j) [] h = absurd (omega arith)
take_extend c (suc j) (x ∷ u) h = ap {B = List ℕ} (λ y. bump c x ∷ y) (take_extend c j u (le_of_suc-le-suc h))

above_bump : (c x : ℕ) (u : List ℕ) → above (bump c x) (map (bump c) u) ≡ above x u
unfolding above
above_bump c x u = tally_map (λ y. less (bump c x) y) (λ y. less x y) (bump c) (λ y. less_bump c x y) u

pub entry_extend : (c j : ℕ) (u : List ℕ) → j < length u → entry j (extend c u) ≡ entry j u
unfolding entry
entry_extend c j u h = ap₂ above (get_or_extend c j u h) (take_extend c j u (omega arith)) ∙ above_bump c (get_or u j 0) (take j u)

-- ---- the last entry

above_room : (c : ℕ) (u : List ℕ) → above (suc c) (map (bump (suc c)) u) ≡ above c u
unfolding above
above_room c u = tally_map (λ y. less (suc c) y) (λ y. less c y) (bump (suc c)) (less_room c) u

-- the values of a permutation of rank m above c are m + 1 - c
pub above_perm : {m : ℕ} (u : List ℕ) → Perm m u → (k c : ℕ) → c + k ≡ m + 1 → above c u ≡ k
above_perm u p zero c h = above_none c u (λ v l. p.none v (omega arith))
above_perm u p (suc k) c h = omega (arith, above_step c u, p.once (suc c) (omega arith) (omega arith), above_perm u p k (suc c) (omega arith))

pub entry_last : {m : ℕ} (c : ℕ) (u : List ℕ) → Tail m c u → entry (length u) (extend c u) ≡ m + 2 - c
unfolding entry
entry_last zero u t = absurd (omega (arith, t.low))
entry_last {m} (suc c) u t =
    ap₂ above (get_or_extend_last (suc c) u) (take_extend (suc c) (length u) u (omega arith) ∙ ap (map (bump (suc c))) (take_all (length u) u (omega arith)))
    ∙ above_room c u ∙ above_perm u t.rest (m + 2 - suc c) c (omega (arith, t.high))

-- ---- the tower of an extended list

entries_extend : (c a n : ℕ) (u : List ℕ) → a + n ≡ length u
    → map (λ j. entry j (extend c u)) (range a (suc n)) ≡ map (λ j. entry j u) (range a n) ++ (entry (length u) (extend c u) ∷ [])
unfolding range
entries_extend c a zero u h = ap {B = List ℕ} (λ j. entry j (extend c u) ∷ []) (omega arith)
entries_extend c a (suc n) u h = ap₂ {C = List ℕ} (λ x y. x ∷ y) (entry_extend c a u (omega arith)) (entries_extend c (suc a) n u (omega arith))

pub tower_extend : {m : ℕ} (c : ℕ) (u : List ℕ) → Tail m c u → tower_of (extend c u) ≡ tower_of u ++ ((m + 2 - c) ∷ [])
unfolding tower_of
tower_extend c u t =
    let e : pred (length (extend c u)) ≡ suc (pred (length u)) = omega (arith, length_extend c u, t.rest.size) in
    rw e (entries_extend c 1 (pred (length u)) u (omega (arith, t.rest.size)) ∙ ap {B = List ℕ} (λ a. tower_of u ++ (a ∷ [])) (entry_last c u t))
