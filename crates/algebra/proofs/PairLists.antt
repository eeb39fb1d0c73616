-- Two lists taken together, and two blocks exchanged: lengths, entries, the exchange of two blocks of a longer list, and formula 4.1 on two lists by sums
-- and multiples. Rests on the definitions alone.
use mathlib.Core.Path.{◌≡◌, refl, sym, ap, ap₂, ◌∙◌}
use mathlib.Core.List.{List, [], ◌∷◌, ◌++◌}
use Prim.Native.Nat.{ℕ, zero, suc, ◌+◌, ◌*◌, ◌≤◌, ◌<◌}
use native.Mathlib.Nat.{le_of_suc-le-suc, add-mul}
use native.Mathlib.Omega.{arith}
use lib.ListN.{length, get_or, take, drop, length-drop}
use lib.Seq.{take-add, take_at, drop_at, drop-drop, length-take-le}
use Rattle.ring.specs.Ring.{Ops}
use Rattle.lists.specs.Blocks.{block}
use Rattle.algebra.specs.Element.{plus, scale}
use Rattle.algebra.specs.Pairs.{OnPair, forward, zipped, exchanged}

module _ {A : Type 0} where
  -- ---- two lists

  pub zipped_length : (g : A → A → A) (x y : List A) → length x ≡ length y → length (zipped g x y) ≡ length x
  unfolding zipped
  zipped_length g [] y e = refl
  zipped_length g (a ∷ x) [] e = absurd (omega arith)
  zipped_length g (a ∷ x) (b ∷ y) e = ap suc (zipped_length g x y (omega arith))

  pub get_or_zipped : (g : A → A → A) (x y : List A) (i : ℕ) (z : A) → i < length x → length x ≡ length y → get_or (zipped g x y) i z ≡ g (get_or x i z) (get_or y i z)
  unfolding zipped
  get_or_zipped g [] y i z l e = absurd (omega arith)
  get_or_zipped g (a ∷ x) [] i z l e = absurd (omega arith)
  get_or_zipped g (a ∷ x) (b ∷ y) zero z l e = refl
  get_or_zipped g (a ∷ x) (b ∷ y) (suc i) z l e = get_or_zipped g x y i z (le_of_suc-le-suc l) (omega arith)

  -- ---- two blocks

  halves : (b : ℕ) (x : List A) → length x ≡ b + b → length (take b x) ≡ length (drop b x)
  halves b x e = length-take-le b x (omega arith) ∙ sym (length-drop b x ∙ omega arith)

  -- the blocks a and a + 1
  pub exchanged_blocks : (f : OnPair A) (b a : ℕ) (x : List A) → (a + 2) * b ≤ length x
      → exchanged f b (take (b + b) (drop (a * b) x))
      ≡ zipped f.shorter (block b a x) (block b (a + 1) x) ++ zipped f.longer (block b a x) (block b (a + 1) x)
  unfolding exchanged block
  exchanged_blocks f b a x h = ap₂ {C = List A} (λ u v. zipped f.shorter u v ++ zipped f.longer u v) first second
    where
      y : List A
      y = drop (a * b) x

      size : length (take b y) ≡ b
      size = length-take-le b y (omega (arith, length-drop (a * b) x, add-mul a 2 b))

      first : take b (take (b + b) y) ≡ take b y
      first = ap (take b) (take-add b b y) ∙ take_at (take b y) (take b (drop b y)) b size

      second : drop b (take (b + b) y) ≡ take b (drop ((a + 1) * b) x)
      second =
          let n : a * b + b ≡ (a + 1) * b = omega (arith, add-mul a 1 b) in
          ap (drop b) (take-add b b y) ∙ drop_at (take b y) (take b (drop b y)) b size
          ∙ ap (take b) (drop-drop b (a * b) x ∙ ap (λ (k : ℕ). drop k x) n)

-- ---- formula 4.1

module _ (A : Type 0) (o : Ops A) where
  pub zipped_shorter : (q r : A) (x y : List A) → length x ≡ length y → zipped (forward A o q r).shorter x y ≡ scale A o q y
  unfolding zipped scale
  zipped_shorter q r [] [] e = refl
  zipped_shorter q r [] (b ∷ y) e = absurd (omega arith)
  zipped_shorter q r (a ∷ x) [] e = absurd (omega arith)
  zipped_shorter q r (a ∷ x) (b ∷ y) e = ap {B = List A} (λ u. o.mul q b ∷ u) (zipped_shorter q r x y (omega arith))

  pub zipped_longer : (q r : A) (x y : List A) → zipped (forward A o q r).longer x y ≡ plus A o x (scale A o r y)
  unfolding zipped plus scale
  zipped_longer q r [] y = refl
  zipped_longer q r (a ∷ x) [] = refl
  zipped_longer q r (a ∷ x) (b ∷ y) = ap {B = List A} (λ u. o.add a (o.mul r b) ∷ u) (zipped_longer q r x y)
