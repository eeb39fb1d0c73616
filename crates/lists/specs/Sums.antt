-- Sums over a list by any operation, in the order of the list, and lists in another order.
--
--   onto add x s f      x + f(k) + f(k') + .., for the elements k, k', .. of s from the first to the last
--   sum_by add e s f    f(k) + f(k') + .., likewise; e where s is empty
--   Adds add P          the operation keeps the property P, and is commutative and associative on what has it
--   Rearranged s t      s has the elements of t in another order: at i it has what t has at from(i), and no two are from the same index
use Rattle.std.specs.Prelude.{◌≡◌, List, [], ◌∷◌, ℕ, ◌<◌, length, get_or}

module _ {A B : Type 0} (add : A → A → A) where
  unfoldable pub onto : A → List B → (B → A) → A
  onto x [] f = x
  onto x (k ∷ s) f = onto (add x (f k)) s f

  unfoldable pub sum_by : A → List B → (B → A) → A
  sum_by e [] f = e
  sum_by e (k ∷ s) f = onto (f k) s f

pub record Adds {A : Type 0} (add : A → A → A) (P : A → Type 0) : Type 0 where
  pub keeps : (x y : A) → P x → P y → P (add x y)
  pub comm : (x y : A) → P x → P y → add x y ≡ add y x
  pub assoc : (x y z : A) → P x → P y → P z → add (add x y) z ≡ add x (add y z)

pub record Rearranged {B : Type 0} (s t : List B) : Type 0 where
  pub size : length s ≡ length t
  pub from : ℕ → ℕ
  pub within : (i : ℕ) → i < length s → from i < length t
  pub apart : (i j : ℕ) → i < length s → j < length s → from i ≡ from j → i ≡ j
  pub same : (d : B) (i : ℕ) → i < length s → get_or s i d ≡ get_or t (from i) d
