-- Lists by blocks: the length of a block, the blocks of a rest, rows of blocks, and every list as its blocks; maps go block by block. Rests on the definitions alone.
use mathlib.Core.Path.{◌≡◌, refl, sym, ap, ap₂, ◌∙◌}
use mathlib.Core.List.{List, [], ◌∷◌, ◌++◌, map, append-nil, append_assoc, map-append}
use Prim.Native.Nat.{ℕ, zero, suc, ◌+◌, ◌*◌, ◌≤◌, ◌<◌}
use native.Mathlib.Nat.{zero-mul, suc-mul, add-mul, mul-le-mul_right}
use native.Mathlib.Omega.{arith}
use lib.ListN.{length, take, drop, length-drop}
use lib.Seq.{drop-drop, length-take-le, take-add, take_all}
use Rattle.lists.specs.Blocks.{block, blocks}

module _ {A : Type 0} where
  pub block_size : (B k : ℕ) (h : List A) → k * B + B ≤ length h → length (block B k h) ≡ B
  unfolding block
  block_size B k h l = length-take-le B (drop (k * B) h) (omega (arith, length-drop (k * B) h))

  pub block_length : (B n k : ℕ) (h : List A) → k < n → length h ≡ n * B → length (block B k h) ≡ B
  block_length B n k h l e = block_size B k h (omega (arith, mul-le-mul_right B l))

  pub block_drop : (B a k : ℕ) (h : List A) → block B k (drop (a * B) h) ≡ block B (a + k) h
  unfolding block
  block_drop B a k h = ap (take B) (drop-drop (k * B) (a * B) h ∙ ap (λ (n : ℕ). drop n h) (sym (add-mul a k B)))

  pub blocks_add : (a n : ℕ) (f : ℕ → List A) → blocks (a + n) f ≡ blocks a f ++ blocks n (λ i. f (a + i))
  unfolding blocks
  blocks_add a zero f = let e : a + 0 ≡ a = omega arith in ap (λ k. blocks k f) e ∙ sym (append-nil (blocks a f))
  blocks_add a (suc n) f =
      let e : a + suc n ≡ suc (a + n) = omega arith in
      ap (λ k. blocks k f) e
      ∙ ap {B = List A} (λ x. x ++ f (a + n)) (blocks_add a n f)
      ∙ append_assoc (blocks a f) (blocks n (λ i. f (a + i))) (f (a + n))

  pub blocks_cong : (n : ℕ) (f g : ℕ → List A) → ((k : ℕ) → k < n → f k ≡ g k) → blocks n f ≡ blocks n g
  unfolding blocks
  blocks_cong zero f g h = refl
  blocks_cong (suc n) f g h = ap₂ {C = List A} (λ x y. x ++ y) (blocks_cong n f g (λ k l. h k (omega arith))) (h n (omega arith))

  take_blocks : (B n : ℕ) (x : List A) → take (n * B) x ≡ blocks n (λ k. block B k x)
  unfolding block blocks
  take_blocks B zero x = ap (λ (p : ℕ). take p x) (zero-mul B)
  take_blocks B (suc n) x =
      ap (λ (p : ℕ). take p x) (suc-mul n B)
      ∙ take-add (n * B) B x
      ∙ ap {B = List A} (λ y. y ++ take B (drop (n * B) x)) (take_blocks B n x)

  pub by_blocks : (B n : ℕ) (x : List A) → length x ≡ n * B → x ≡ blocks n (λ k. block B k x)
  by_blocks B n x e = sym (take_all (n * B) x (omega arith)) ∙ take_blocks B n x

module _ {A B : Type 0} (f : A → B) where
  pub map_take : (n : ℕ) (h : List A) → map f (take n h) ≡ take n (map f h)
  map_take zero h = refl
  map_take (suc n) [] = refl
  map_take (suc n) (x ∷ h) = ap {B = List B} (λ t. f x ∷ t) (map_take n h)

  pub map_drop : (n : ℕ) (h : List A) → map f (drop n h) ≡ drop n (map f h)
  map_drop zero h = refl
  map_drop (suc n) [] = refl
  map_drop (suc n) (x ∷ h) = map_drop n h

  pub map_block : (D k : ℕ) (h : List A) → map f (block D k h) ≡ block D k (map f h)
  unfolding block
  map_block D k h = map_take D (drop (k * D) h) ∙ ap (take D) (map_drop (k * D) h)

  pub map_blocks : (n : ℕ) (g : ℕ → List A) → map f (blocks n g) ≡ blocks n (λ k. map f (g k))
  unfolding blocks
  map_blocks zero g = refl
  map_blocks (suc n) g = map-append f (blocks n g) (g n) ∙ ap {B = List B} (λ x. x ++ map f (g n)) (map_blocks n g)
