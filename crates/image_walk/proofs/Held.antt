-- What a walk holds after the first j images, beside the whole list: the record `Walk`. Rests on lists' Search and perms' Prefix.
use Rattle.std.proofs.Common.{◌≡◌, ℕ, suc, ◌<◌, ◌≤◌, ◌||◌, List, [], length, get_or, take, sym, refl, ap, ◌∙◌, ap₂, arith, get_or-take, take-take}
use Rattle.lists.specs.Lists.{same, less, first, count}
use Rattle.lists.proofs.Test.{LessView, lt, ge, less?, less_yes, less_no}
use Rattle.lists.proofs.Search.{first_found, first_same}
use Rattle.perms.specs.Tower.{tower_of}
use Rattle.perms.proofs.Prefix.{tower_prefix}
use Rattle.perm_calls.specs.Calls.{bad_image, first_bad_image}
use Rattle.image_walk.specs.Walk.{Held, Entries, Bad, held, Walk}

-- ---- by the first bad one of j images

-- none of the first j images is bad
abbrev pub Good : List ℕ → ℕ → Type 0
Good w j = j ≤ first (bad_image w) 0 j

pub held_good : (w : List ℕ) (j : ℕ) → Good w j → held w j ≡ Entries (tower_of (take j w))
unfolding held
held_good w j h = rw (less_no h) refl

pub held_bad : (w : List ℕ) (j : ℕ) → first (bad_image w) 0 j < j → held w j ≡ Bad (first (bad_image w) 0 j)
unfolding held
held_bad w j h = rw (less_yes h) refl

-- ---- what is held tells

abbrev entries_of : Held → List ℕ
entries_of (Entries t) = t
entries_of (Bad i) = []

abbrev index_of : Held → ℕ
index_of (Entries t) = 0
index_of (Bad i) = suc i

pub held_entries : (w : List ℕ) (j : ℕ) {t : List ℕ} → held w j ≡ Entries t → Good w j × (t ≡ tower_of (take j w))
held_entries w j {t} e = go (less? (first (bad_image w) 0 j) j)
  where
    go : LessView (first (bad_image w) 0 j) j → Good w j × (t ≡ tower_of (take j w))
    go (lt h f) = absurd (omega (arith, ap index_of (sym (held_bad w j h) ∙ e)))
    go (ge h f) = (h, ap entries_of (sym e ∙ held_good w j h))

pub held_index : (w : List ℕ) (j : ℕ) {i : ℕ} → held w j ≡ Bad i → (first (bad_image w) 0 j ≡ i) × (i < j)
held_index w j {i} e = go (less? (first (bad_image w) 0 j) j)
  where
    go : LessView (first (bad_image w) 0 j) j → (first (bad_image w) 0 j ≡ i) × (i < j)
    go (lt h f) = let at : first (bad_image w) 0 j ≡ i = omega (arith, ap index_of (sym (held_bad w j h) ∙ e)) in (at, omega (arith, at, h))
    go (ge h f) = absurd (omega (arith, ap index_of (sym (held_good w j h) ∙ e)))

-- ---- beside the whole list

-- whether an image is bad depends on the images up to it and on their number
bad_alone : (w v : List ℕ) (j i : ℕ) → length v ≡ length w → take j v ≡ take j w → i < j → bad_image v i ≡ bad_image w i
unfolding bad_image
bad_alone w v j i size e h = ap₂ (λ (x : ℕ) (u : List ℕ). same x 0 || less (length v) x || less 0 (count x u)) here before
    ∙ ap (λ n. same (get_or w i 0) 0 || less n (get_or w i 0) || less 0 (count (get_or w i 0) (take i w))) size
  where
    here : get_or v i 0 ≡ get_or w i 0
    here = sym (get_or-take j v i 0 h) ∙ ap (λ u. get_or u i 0) e ∙ get_or-take j w i 0 h

    before : take i v ≡ take i w
    before = sym (take-take i j v (omega arith)) ∙ ap (take i) e ∙ take-take i j w (omega arith)

pub walk_held : (w : List ℕ) (j : ℕ) → j ≤ length w → Walk w j
unfolding first_bad_image held
walk_held w j l = record {
  before = λ h. held_good w j (good h (less? among j)) ∙ ap Entries (tower_prefix w j l);
  after = λ h. held_bad w j (omega (arith, found h, h)) ∙ ap Bad (found h);
  prefix = sym (tower_prefix w j l);
  alone = λ v size e. rw (first_same (bad_image v) (bad_image w) 0 j (λ i h. bad_alone w v j i size e (omega arith)), e) refl;
}
  where
    among : ℕ
    among = first (bad_image w) 0 j

    good : j ≤ first_bad_image w → LessView among j → Good w j
    good h (lt k e) = absurd (omega (arith, first_found (bad_image w) j (length w) k (omega arith)))
    good h (ge k e) = k

    found : first_bad_image w < j → among ≡ first_bad_image w
    found h = first_found (bad_image w) (length w) j (omega arith) h
