-- Every definition that uses ring operations commutes with a map of them: one claim for each.
--
--   mapped f x        the list of x mapped, with the count of x
--   Along f F G       the map f takes the operator F on pairs to G
--   Maps              the map f from A to B takes each definition over the operations o to that over p. This holds where f takes o to p (`Hom`).
--                     The fields bear the names of the definitions; `counted_sum` and `counted_multiple` are ⊞ and ⊠
use Rattle.std.specs.Prelude.{◌≡◌, List, map, ℕ}
use Rattle.ring.specs.Ring.{Ops}
use Rattle.ring.specs.Sum.{sum}
use Rattle.algebra.specs.Element.{coefficient, element, plus, scale, sum_over, basis, unit, T}
use Rattle.algebra.specs.Product.{minus_one, basis_letter, letter, act, times}
use Rattle.algebra.specs.Pairs.{OnPair, forward, on_pairs}
use Rattle.algebra.specs.Nested.{Counted, ◌⊞◌, ◌⊠◌, sum_along, part, level, nested_act, nested}
use Rattle.algebra.specs.Pairing.{power, pairing}

unfoldable pub mapped : {A B : Type 0} → (A → B) → Counted A → Counted B
mapped f x = record { value = map f x.value; count = x.count }

pub record Along {A B : Type 0} (f : A → B) (F : OnPair A) (G : OnPair B) : Type 0 where
  pub shorter : (s t : A) → f (F.shorter s t) ≡ G.shorter (f s) (f t)
  pub longer : (s t : A) → f (F.longer s t) ≡ G.longer (f s) (f t)

pub record Maps (A B : Type 0) (o : Ops A) (p : Ops B) (f : A → B) (q r : A) : Type 1 where
  pub sum : {D : Type 0} (s : List D) (g : D → A) → f (sum A o s g) ≡ sum B p s (λ x. f (g x))
  pub minus_one : f (minus_one A o q) ≡ minus_one B p (f q)
  pub coefficient : (h : List A) (w : List ℕ) → f (coefficient A o h w) ≡ coefficient B p (map f h) w
  pub element : (m : ℕ) (F : List ℕ → A) → map f (element A o m F) ≡ element B p m (λ w. f (F w))
  pub plus : (h g : List A) → map f (plus A o h g) ≡ plus B p (map f h) (map f g)
  pub scale : (x : A) (h : List A) → map f (scale A o x h) ≡ scale B p (f x) (map f h)
  pub sum_over : {D : Type 0} (m : ℕ) (s : List D) (g : D → List A) → map f (sum_over A o m s g) ≡ sum_over B p m s (λ v. map f (g v))
  pub basis : (m : ℕ) (w : List ℕ) → map f (basis A o m w) ≡ basis B p m w
  pub unit : (m : ℕ) → map f (unit A o m) ≡ unit B p m
  pub T : (m i : ℕ) → map f (T A o m i) ≡ T B p m i
  pub basis_letter : (m i : ℕ) (w : List ℕ) → map f (basis_letter A o q r m i w) ≡ basis_letter B p (f q) (f r) m i w
  pub letter : (m i : ℕ) (h : List A) → map f (letter A o q r m i h) ≡ letter B p (f q) (f r) m i (map f h)
  pub act : (m : ℕ) (x : List ℕ) (h : List A) → map f (act A o q r m x h) ≡ act B p (f q) (f r) m x (map f h)
  pub times : (m l : ℕ) (h g : List A) → map f (times A o q r m l h g) ≡ times B p (f q) (f r) m l (map f h) (map f g)
  pub forward : Along f (forward A o q r) (forward B p (f q) (f r))
  pub on_pairs : (F : OnPair A) (G : OnPair B) → Along f F G → (m i : ℕ) (h : List A) → map f (on_pairs A o F m i h) ≡ on_pairs B p G m i (map f h)
  pub power : (x : A) (n : ℕ) → f (power A o x n) ≡ power B p (f x) n
  pub pairing : (m : ℕ) (a b : List A) → f (pairing A o q m a b) ≡ pairing B p (f q) m (map f a) (map f b)
  pub counted_sum : (x y : Counted A) → mapped f (◌⊞◌ A o x y) ≡ ◌⊞◌ B p (mapped f x) (mapped f y)
  pub counted_multiple : (c : A) (x : Counted A) → mapped f (◌⊠◌ A o c x) ≡ ◌⊠◌ B p (f c) (mapped f x)
  pub sum_along : (s : List ℕ) (x : ℕ → Counted A) → mapped f (sum_along A o s x) ≡ sum_along B p s (λ i. mapped f (x i))
  pub part : (F : ℕ → ℕ → List A → Counted A) (G : ℕ → ℕ → List B → Counted B) → ((j l : ℕ) (x : List A) → mapped f (F j l x) ≡ G j l (map f x))
      → (m j : ℕ) (h : List A) (i : ℕ) → mapped f (part A o F m j h i) ≡ part B p G m j (map f h) i
  pub level : (F : ℕ → ℕ → List A → Counted A) (G : ℕ → ℕ → List B → Counted B) → ((j l : ℕ) (x : List A) → mapped f (F j l x) ≡ G j l (map f x))
      → (m j l : ℕ) (h : List A) → mapped f (level A o q r F m j l h) ≡ level B p (f q) (f r) G m j l (map f h)
  pub nested_act : (m j l : ℕ) (h : List A) → mapped f (nested_act A o q r m j l h) ≡ nested_act B p (f q) (f r) m j l (map f h)
  pub nested : (order : ℕ → List ℕ) (m l : ℕ) (h g : List A) → mapped f (nested A o q r order m l h g) ≡ nested B p (f q) (f r) order m l (map f h) (map f g)
