-- Inverse letters and signed words commute with a map of ring operations. Rests on algebra's NestedMaps and lists' Blocks.
use mathlib.Core.Path.{◌≡◌, refl, sym, ap, ap₂, ◌∙◌}
use mathlib.Core.List.{List, [], ◌∷◌, map}
use Prim.Native.Nat.{ℕ, zero, suc, ◌+◌, ◌-◌}
use lib.IntN.{ℤ, pos, negsuc}
use Rattle.ring.specs.Ring.{Ops, Hom}
use Rattle.lists.specs.Numbers.{factorial}
use Rattle.lists.specs.Blocks.{block}
use Rattle.lists.proofs.Blocks.{map_block}
use Rattle.algebra.specs.Nested.{free, ◌⧺◌, ◌⊞◌, ◌⊠◌}
use Rattle.algebra.specs.Maps.{mapped, Along, Maps}
use Rattle.algebra.proofs.NestedMaps.{map_free, map_join, map_row, maps}
use Rattle.signed_words.specs.InverseLetter.{Inverted, inverse_letter, inverse_t, backward}
use Rattle.signed_words.specs.Words.{signed_letter, signed_act}
use Rattle.signed_words.specs.Count.{back, nested_back}
use Rattle.signed_words.specs.Maps.{SignedMaps}

module _ {A B : Type 0} {o : Ops A} {p : Ops B} {f : A → B} (H : Hom A B o p f) (q r q' r' : A) where
  M : Maps A B o p f q r
  M = maps H q r

  map_inverted : Inverted A o q r q' r' → Inverted B p (f q) (f r) (f q') (f r')
  map_inverted v = record {
    product = sym (H.mul q q') ∙ ap f v.product ∙ H.one;
    less = less_one q r v.less;
    less' = less_one q' r' v.less';
  }
    where
      less_one : (x y : A) → o.add y o.one ≡ x → p.add (f y) p.one ≡ f x
      less_one x y e = ap (p.add (f y)) (sym H.one) ∙ sym (H.add y o.one) ∙ ap f e

  -- ---- letters and words

  map_inverse_letter : (m i : ℕ) (h : List A) → map f (inverse_letter A o q r q' r' m i h) ≡ inverse_letter B p (f q) (f r) (f q') (f r') m i (map f h)
  unfolding inverse_letter
  map_inverse_letter m i h = simp (M.plus, M.scale, M.letter)

  map_inverse_t : (m i : ℕ) → map f (inverse_t A o q r q' r' m i) ≡ inverse_t B p (f q) (f r) (f q') (f r') m i
  unfolding inverse_t
  map_inverse_t m i = simp (M.plus, M.scale, M.T, M.unit)

  backward_along : Along f (backward A o q' r') (backward B p (f q') (f r'))
  backward_along = record { shorter = λ s t. simp (H.add, H.mul); longer = λ s t. H.mul q' s }

  map_signed_letter : (m : ℕ) (z : ℤ) (h : List A) → map f (signed_letter A o q r q' r' m z h) ≡ signed_letter B p (f q) (f r) (f q') (f r') m z (map f h)
  unfolding signed_letter
  map_signed_letter m (pos i) h = M.letter m i h
  map_signed_letter m (negsuc i) h = map_inverse_letter m _ h

  map_signed_act : (m : ℕ) (x : List ℤ) (h : List A) → map f (signed_act A o q r q' r' m x h) ≡ signed_act B p (f q) (f r) (f q') (f r') m x (map f h)
  unfolding signed_act
  map_signed_act m [] h = refl
  map_signed_act m (z ∷ x) h =
      map_signed_act m x (signed_letter A o q r q' r' m z h) ∙ ap (signed_act B p (f q) (f r) (f q') (f r') m x) (map_signed_letter m z h)

  -- ---- block by block

  map_back : (x y : List A) → mapped f (back A o q' r' x y) ≡ back B p (f q') (f r') (map f x) (map f y)
  unfolding back
  map_back x y =
      map_join f _ _ ∙ ap₂ ◌⧺◌
      (M.counted_sum (free y) (◌⊠◌ A o r' (free x)) ∙ ap₂ (◌⊞◌ B p) (map_free f y) (M.counted_multiple r' (free x) ∙ ap (◌⊠◌ B p (f r')) (map_free f x)))
      (M.counted_multiple q' (free x) ∙ ap (◌⊠◌ B p (f q')) (map_free f x))

  map_nested_back : (m i : ℕ) (h : List A) → mapped f (nested_back A o q' r' m i h) ≡ nested_back B p (f q') (f r') m i (map f h)
  unfolding nested_back
  map_nested_back zero i h = map_free f h
  map_nested_back (suc m) i h =
      map_join f _ _ ∙ ap₂ ◌⧺◌ (map_row f 0 (suc m - i) _ _ (λ k. in_block i k (map_nested_back m)))
      (map_join f _ _ ∙ ap₂ ◌⧺◌
      (map_back (block D (suc m - i) h) (block D (suc m - i + 1) h)
      ∙ ap₂ (back B p (f q') (f r')) (map_block f D (suc m - i) h) (map_block f D (suc m - i + 1) h))
      (map_row f (suc m - i + 2) (i - 1) _ _ (λ k. in_block (i - 1) k (map_nested_back m))))
    where
      D : ℕ
      D = factorial (suc m)

      in_block : (i k : ℕ) → ((i : ℕ) (h : List A) → mapped f (nested_back A o q' r' m i h) ≡ nested_back B p (f q') (f r') m i (map f h))
          → mapped f (nested_back A o q' r' m i (block D k h)) ≡ nested_back B p (f q') (f r') m i (block D k (map f h))
      in_block i k ih = ih i (block D k h) ∙ ap (nested_back B p (f q') (f r') m i) (map_block f D k h)

  pub signed_maps : SignedMaps A B o p f q r q' r'
  signed_maps = record {
    inverted = map_inverted;
    inverse_letter = map_inverse_letter;
    inverse_t = map_inverse_t;
    backward = backward_along;
    signed_letter = map_signed_letter;
    signed_act = map_signed_act;
    back = map_back;
    nested_back = map_nested_back;
  }
