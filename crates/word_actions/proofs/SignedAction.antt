-- The signed letters of a word act one by one, as operators on pairs. Rests on algebra's OnPairs.
--
--   SignedActing p p' m word x₀ x i   the first i letters of the word have acted on x₀, of rank m, which is now x
use mathlib.Core.Path.{◌≡◌, refl, sym, ap, ◌∙◌}
use mathlib.Core.Bool.{true, false}
use mathlib.Core.List.{List, [], ◌∷◌, ◌++◌}
use Prim.Native.Nat.{ℕ, suc, ◌+◌, ◌≤◌, ◌<◌}
use native.Mathlib.Numerals.{add-one}
use native.Mathlib.Omega.{arith}
use lib.ListN.{length, get_or, take}
use lib.Seq.{take-suc, take_all}
use lib.IntN.{ℤ, pos, negsuc, nat_abs}
use lib.Signed.{lt_z}
use Rattle.lists.specs.Lists.{less}
use Rattle.lists.proofs.Test.{less_true}
use Rattle.lists.specs.Numbers.{factorial}
use Rattle.algebra.proofs.OnPairs.{on_pairs_length}
use Rattle.element_calls.specs.declared.Parameters.{Parameters}
use Rattle.element_calls.specs.Coefficients.{ring}
use Rattle.block_loops.specs.declared.Way.TheVariants.{Forward, Backward}
use Rattle.block_loops.specs.InPlace.{exchanging}
use Rattle.letters.specs.Letters.{lettered}
use Rattle.word_actions.specs.Steps.{signed_lettered, signed_acted}

-- ---- one letter

module _ (p p' : Parameters) (m : ℕ) (x : List ℕ) where
  pub forward_is : (z : ℤ) → lt_z z (pos 0) ≡ false → lettered Forward p m (nat_abs z) x ≡ signed_lettered p p' m z x
  forward_is (pos n) e = refl
  forward_is (negsuc n) e = let y : ◌≡◌ {A = ℕ} 0 1 = cc in absurd (omega arith)

  pub backward_is : (z : ℤ) → lt_z z (pos 0) ≡ true → lettered Backward p' m (nat_abs z) x ≡ signed_lettered p p' m z x
  unfolding less
  backward_is (pos n) e = absurd (omega (arith, less_true n 0 e))
  backward_is (negsuc n) e = refl

  lettered_length : (z : ℤ) → length (signed_lettered p p' m z x) ≡ factorial (suc m)
  lettered_length (pos n) = on_pairs_length ℕ (ring p) (exchanging Forward p) m n x
  lettered_length (negsuc n) = on_pairs_length ℕ (ring p') (exchanging Backward p') m (suc n) x

-- ---- the letters of a word

module _ (p p' : Parameters) (m : ℕ) where
  acted_last : (word : List ℤ) (z : ℤ) (x : List ℕ) → signed_acted p p' m (word ++ (z ∷ [])) x ≡ signed_lettered p p' m z (signed_acted p p' m word x)
  unfolding signed_acted
  acted_last [] z x = refl
  acted_last (y ∷ word) z x = acted_last word z (signed_lettered p p' m y x)

  pub record SignedActing (word : List ℤ) (x₀ x : List ℕ) (i : ℕ) : Type 0 where
    pub value : x ≡ signed_acted p p' m (take i word) x₀
    pub size : length x ≡ factorial (suc m)

module _ {p p' : Parameters} {m : ℕ} {word : List ℤ} {x₀ : List ℕ} where
  pub acting_none : length x₀ ≡ factorial (suc m) → SignedActing p p' m word x₀ x₀ 0
  unfolding signed_acted
  acting_none e = record { value = refl; size = e }

  pub acting_more : {x y : List ℕ} {i : ℕ} → i < length word → SignedActing p p' m word x₀ x i → y ≡ signed_lettered p p' m (get_or word i (pos 0)) x
      → SignedActing p p' m word x₀ y (i + 1)
  acting_more {x} {i = i} h a e =
      let z = get_or word i (pos 0) in
      let more : take (i + 1) word ≡ take i word ++ (z ∷ []) = ap (λ (n : ℕ). take n word) (add-one i) ∙ take-suc word i (pos 0) h in
      record {
        value = e ∙ ap (signed_lettered p p' m z) a.value ∙ sym (acted_last p p' m (take i word) z x₀) ∙ ap (λ (u : List ℤ). signed_acted p p' m u x₀) (sym more);
        size = ap length e ∙ lettered_length p p' m x z;
      }

  pub acting_all : {x : List ℕ} {i : ℕ} → length word ≤ i → SignedActing p p' m word x₀ x i → x ≡ signed_acted p p' m word x₀
  acting_all {i = i} h a = a.value ∙ ap (λ (u : List ℤ). signed_acted p p' m u x₀) (take_all i word h)
