-- The permutation of a tower: one entry a more extends it by the value m + 2 - a. So towers and permutations undo each other.
-- Rests on Standard and Tower.
use mathlib.Core.Path.{◌≡◌, refl, sym, ap, ap₂, ◌∙◌}
use mathlib.Core.List.{List, [], ◌∷◌, ◌++◌}
use Prim.Native.Nat.{ℕ, zero, suc, pred, ◌+◌, ◌-◌, ◌≤◌, ◌<◌}
use native.Mathlib.Omega.{arith}
use lib.ListN.{length, get_or, take, length-append, get_or-eq_default}
use lib.Seq.{length-take-le, take_all, take-suc, get_or-take}
use Rattle.lists.specs.Lists.{range}
use Rattle.lists.proofs.Test.{LessView, lt, ge, less?}
use Rattle.perms.specs.Permutation.{Perm, product, identity, Letter, Word, of_word}
use Rattle.perms.specs.Extend.{extend}
use Rattle.perms.specs.Tower.{tower_of, Tower, cycle, cycles, standard, of_cycles, images_of}
use Rattle.perms.proofs.Perm.{rgt, rgt_word}
use Rattle.perms.proofs.Identity.{perm_identity}
use Rattle.perms.proofs.Image.{perm_image}
use Rattle.perms.proofs.Products.{product_of_word, of_word_rgt}
use Rattle.perms.proofs.Word.{word_cycle}
use Rattle.perms.proofs.Extend.{extend_snoc, rgt_above, rgt_upper, identity_suc}
use Rattle.perms.proofs.Split.{Tail, perm_extend, Apart, split, perm_zero}
use Rattle.perms.proofs.Tower.{tower_is, tower_extend}
use Rattle.perms.proofs.Standard.{word_standard, cycles_snoc, images_of_word}

-- ---- what the words of a tower make

-- a(j, k) takes the last value from j + 1 to j + 1 - k
cycle_makes : (j k c : ℕ) (u : List ℕ) → 1 ≤ c → c + k ≡ suc j → rgt_word (cycle j k) (extend (suc j) u) ≡ extend c u
unfolding cycle rgt_word
cycle_makes j zero c u l h = ap (λ x. extend x u) (omega arith)
cycle_makes zero (suc k) c u l h = absurd (omega arith)
cycle_makes (suc j) (suc k) c u l h = ap (rgt_word (cycle j k)) (rgt_upper (suc j) u) ∙ cycle_makes j k c u l (omega arith)

-- a word of rank m fixes one more point
word_extend : (m : ℕ) (x w : List ℕ) → Word m x → rgt_word x (extend (m + 2) w) ≡ extend (m + 2) (rgt_word x w)
unfolding rgt_word
word_extend m [] w a = refl
word_extend m (i ∷ x) w a = let l : Letter m i = a.0 in rw (rgt_above i (m + 2) (omega arith) w) (word_extend m x (rgt i w) a.1)

-- u with one more fixed point, times a(m + 1, k)
pub extend_product : {m : ℕ} (k : ℕ) (u : List ℕ) → Perm m u → k ≤ suc m
    → product (u ++ ((m + 2) ∷ [])) (of_word (suc m) (cycle (suc m) k)) ≡ extend (m + 2 - k) u
extend_product {m} k u p h =
    ap (λ w. product w (of_word (suc m) x)) (sym (extend_snoc (m + 2) u (λ i l. omega (arith, perm_image u p i l))))
    ∙ product_of_word x (extend (m + 2) u) (word_cycle (suc m) (suc m) k (omega arith) h) (perm_extend record { low = omega arith; high = omega arith; rest = p })
    ∙ ap (λ c. rgt_word x (extend c u)) (omega arith)
    ∙ cycle_makes (suc m) k (m + 2 - k) u (omega arith) (omega arith)
  where
    x : List ℕ
    x = cycle (suc m) k

rgt_word_append : (x y w : List ℕ) → rgt_word (x ++ y) w ≡ rgt_word y (rgt_word x w)
unfolding rgt_word
rgt_word_append [] y w = refl
rgt_word_append (i ∷ x) y w = rgt_word_append x y (rgt i w)

images_of_rgt : {m : ℕ} (t : List ℕ) → Tower m t → images_of t ≡ rgt_word (standard t) (identity m)
images_of_rgt {m} t c = images_of_word t c ∙ of_word_rgt m (standard t) (word_standard t c)

bound_snoc : (j a : ℕ) (t : List ℕ) → a ≤ j + length t → ((i : ℕ) → get_or t i 0 ≤ j + i) → (i : ℕ) → get_or (t ++ (a ∷ [])) i 0 ≤ j + i
bound_snoc j a [] h k zero = h
bound_snoc j a [] h k (suc i) = omega arith
bound_snoc j a (b ∷ t) h k zero = k 0
bound_snoc j a (b ∷ t) h k (suc i) = omega (arith, bound_snoc (suc j) a t (omega arith) (λ i. omega (arith, k (suc i))) i)

tower_snoc : {m a : ℕ} (t : List ℕ) → Tower m t → a ≤ suc m → Tower (suc m) (t ++ (a ∷ []))
tower_snoc {m} {a} t c h = record {
  size = length-append t (a ∷ []) ∙ omega (arith, c.size);
  within = λ i. omega (arith, bound_snoc 1 a t (omega (arith, c.size)) (λ i. omega (arith, c.within i)) i);
}

pub images_of_snoc : (m a : ℕ) (t : List ℕ) → Tower m t → a ≤ suc m → images_of (t ++ (a ∷ [])) ≡ extend (m + 2 - a) (images_of t)
unfolding standard
images_of_snoc m a t c h =
    images_of_rgt (t ++ (a ∷ [])) (tower_snoc t c h)
    ∙ ap (λ x. rgt_word x (identity (suc m))) (cycles_snoc 1 a t ∙ ap (λ j. cycles 1 t ++ cycle j a) (omega (arith, c.size)))
    ∙ rgt_word_append (standard t) (cycle (suc m) a) (identity (suc m))
    ∙ ap (λ w. rgt_word (cycle (suc m) a) (rgt_word (standard t) w)) (identity_suc m)
    ∙ ap (rgt_word (cycle (suc m) a)) (word_extend m (standard t) (identity m) (word_standard t c) ∙ ap₂ extend (omega arith) (sym (images_of_rgt t c)))
    ∙ cycle_makes (suc m) a (m + 2 - a) (images_of t) (omega arith) (omega arith)

-- ---- the first entries of a tower

pub tower_take : {m : ℕ} (t : List ℕ) (k : ℕ) → Tower m t → k ≤ m → Tower k (take k t)
tower_take t k c h = record { size = length-take-le k t (omega (arith, c.size)); within = λ i. go i (less? i k) }
  where
    go : (i : ℕ) → LessView i k → get_or (take k t) i 0 ≤ suc i
    go i (lt l e) = omega (arith, get_or-take k t i 0 l, c.within i)
    go i (ge l e) = omega (arith, get_or-eq_default (take k t) 0 {n = i} (omega (arith, length-take-le k t (omega (arith, c.size)))))

pub images_of_take : {m : ℕ} (t : List ℕ) (k : ℕ) → Tower m t → k < m → images_of (take (suc k) t) ≡ extend (suc (suc k) - get_or t k 0) (images_of (take k t))
images_of_take t k c h =
    ap images_of (take-suc t k 0 (omega (arith, c.size)))
    ∙ images_of_snoc k (get_or t k 0) (take k t) (tower_take t k c (omega arith)) (c.within k)
    ∙ ap (λ n. extend n (images_of (take k t))) (omega arith)

-- a tower of rank m + 1 is its first m entries and then its last
tower_last : {m : ℕ} (t : List ℕ) → Tower (suc m) t → t ≡ take m t ++ (get_or t m 0 ∷ [])
tower_last {m} t c = sym (take_all (suc m) t (omega (arith, c.size))) ∙ take-suc t m 0 (omega (arith, c.size))

images_of_last : {m : ℕ} (t : List ℕ) → Tower (suc m) t → images_of t ≡ extend (m + 2 - get_or t m 0) (images_of (take m t))
images_of_last {m} t c = ap images_of (tower_last t c) ∙ images_of_snoc m (get_or t m 0) (take m t) (tower_take t m c (omega arith)) (c.within m)

-- ---- towers and permutations

tail_of : {m : ℕ} (t : List ℕ) → Tower (suc m) t → Perm m (images_of (take m t)) → Tail m (m + 2 - get_or t m 0) (images_of (take m t))
tail_of {m} t c p = record { low = omega (arith, c.within m); high = omega arith; rest = p }

pub perm_is : (m : ℕ) (t : List ℕ) → Tower m t → Perm m (images_of t)
unfolding images_of of_cycles
perm_is zero [] c = perm_identity 0
perm_is zero (a ∷ t) c = absurd (omega (arith, c.size))
perm_is (suc m) t c = rw (images_of_last t c) (perm_extend (tail_of t c (perm_is m (take m t) (tower_take t m c (omega arith)))))

pub length_images_of : (t : List ℕ) → Tower (length t) t → length (images_of t) ≡ suc (length t)
length_images_of t c = omega (arith, (perm_is (length t) t c).size)

-- a list made of a tower is a permutation
pub perm_made : {t w : List ℕ} → Tower (length t) t → w ≡ images_of t → (length w ≡ suc (length t)) × Perm (pred (length w)) w
perm_made {t} {w} c e =
    let n : length w ≡ suc (length t) = ap length e ∙ length_images_of t c in
    (n, rw (n, e) (perm_is (length t) t c))

-- and of the tower's rank
pub perm_ranked : {m : ℕ} {t w : List ℕ} → Tower (length t) t → m ≡ length t → w ≡ images_of t → Perm m w
perm_ranked {m} {t} {w} c n e = rw (n, e) (perm_is (length t) t c)

pub back_and_there : (m : ℕ) (t : List ℕ) → Tower m t → tower_of (images_of t) ≡ t
unfolding images_of of_cycles identity tower_of range
back_and_there zero [] c = refl
back_and_there zero (a ∷ t) c = absurd (omega (arith, c.size))
back_and_there (suc m) t c =
    let d : Tower m (take m t) = tower_take t m c (omega arith) in
    ap tower_of (images_of_last t c)
    ∙ tower_extend (m + 2 - get_or t m 0) (images_of (take m t)) (tail_of t c (perm_is m (take m t) d))
    ∙ ap₂ {C = List ℕ} (λ u a. u ++ (a ∷ [])) (back_and_there m (take m t) d) (omega (arith, c.within m))
    ∙ sym (tower_last t c)

pub there_and_back : (m : ℕ) (w : List ℕ) → Perm m w → images_of (tower_of w) ≡ w
unfolding images_of of_cycles identity tower_of range
there_and_back zero w p = rw (perm_zero w p)
there_and_back (suc m) w p = go (there_and_back m) (split w p)
  where
    go : ((u : List ℕ) → Perm m u → images_of (tower_of u) ≡ u) → Apart m w → images_of (tower_of w) ≡ w
    go ih a =
        let t : Tail m a.top a.rest = a.fit in
        ap (λ v. images_of (tower_of v)) a.whole
        ∙ ap images_of (tower_extend a.top a.rest t)
        ∙ images_of_snoc m (m + 2 - a.top) (tower_of a.rest) (tower_is m a.rest t.rest) (omega arith)
        ∙ ap₂ extend (omega arith) (ih a.rest t.rest)
        ∙ sym a.whole
