-- Lists of which each element has a property: any list, a weaker property, joined lists, mapped lists, elements by index, and members. Rests on nothing here.
use mathlib.Core.Path.{◌≡◌, refl, sym, ap₂, subst}
use mathlib.Core.List.{List, [], ◌∷◌, ◌++◌, map, Memᴰ}
use Prim.Native.Nat.{ℕ, zero, suc, ◌<◌, suc-le-suc}
use native.Mathlib.Nat.{le_of_suc-le-suc}
use native.Mathlib.Omega.{arith}
use lib.ListN.{length, get_or}
use Rattle.lists.specs.Lists.{All}

module _ {B : Type 0} (P : B → Type 0) where
  pub all_any : ((x : B) → P x) → (s : List B) → All P s
  all_any h [] = tt
  all_any h (x ∷ s) = (h x, all_any h s)

  pub all_then : (Q : B → Type 0) → ((x : B) → P x → Q x) → (s : List B) → All P s → All Q s
  all_then Q h [] a = tt
  all_then Q h (x ∷ s) a = (h x a.0, all_then Q h s a.1)

  pub all_append : (s t : List B) → All P s → All P t → All P (s ++ t)
  all_append [] t a b = b
  all_append (x ∷ s) t a b = (a.0, all_append s t a.1 b)

  pub all_map : {C : Type 0} (Q : C → Type 0) (f : B → C) → ((x : B) → P x → Q (f x)) → (s : List B) → All P s → All Q (map f s)
  all_map Q f h [] a = tt
  all_map Q f h (x ∷ s) a = (h x a.0, all_map Q f h s a.1)

  pub map_all : {C : Type 0} (f g : B → C) → ((x : B) → P x → f x ≡ g x) → (s : List B) → All P s → map f s ≡ map g s
  map_all f g h [] a = refl
  map_all {C} f g h (x ∷ s) a = ap₂ {C = List C} (λ y t. y ∷ t) (h x a.0) (map_all f g h s a.1)

  pub all_get_or : (s : List B) (i : ℕ) (d : B) → i < length s → All P s → P (get_or s i d)
  all_get_or [] i d h a = absurd (omega arith)
  all_get_or (x ∷ s) zero d h a = a.0
  all_get_or (x ∷ s) (suc i) d h a = all_get_or s i d (le_of_suc-le-suc h) a.1

  pub all_index : (s : List B) (d : B) → ((i : ℕ) → i < length s → P (get_or s i d)) → All P s
  all_index [] d h = tt
  all_index (x ∷ s) d h = (h 0 (omega arith), all_index s d (λ i l. h (suc i) (suc-le-suc l)))

  pub all_member : {x : B} {s : List B} → Memᴰ x s → All P s → P x
  all_member (Memᴰ.head e) a = subst P (sym e) a.0
  all_member (Memᴰ.tail i) a = all_member i a.1
