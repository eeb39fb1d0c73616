-- The letters of a word act one by one. Rests on algebra's Generator and OnPairs.
--
--   Acting p m word x₀ x i   the first i letters of the word have acted on x₀, of rank m, which is now x
use mathlib.Core.Path.{◌≡◌, refl, sym, ap, ◌∙◌}
use mathlib.Core.List.{List, [], ◌∷◌, ◌++◌}
use Prim.Native.Nat.{ℕ, suc, ◌+◌, ◌≤◌, ◌<◌}
use native.Mathlib.Numerals.{add-one}
use lib.ListN.{length, get_or, take}
use lib.Seq.{take-suc, take_all}
use Rattle.lists.specs.Numbers.{factorial}
use Rattle.algebra.specs.Product.{letter, act}
use Rattle.algebra.proofs.Generator.{letter_on_pairs}
use Rattle.algebra.proofs.OnPairs.{on_pairs_length}
use Rattle.element_calls.specs.declared.Parameters.{Parameters}
use Rattle.element_calls.specs.Coefficients.{ring}
use Rattle.block_loops.specs.declared.Way.TheVariants.{Forward}
use Rattle.block_loops.specs.InPlace.{exchanging}
use Rattle.letters.specs.Letters.{lettered}

module _ (p : Parameters) (m : ℕ) where
  abbrev acts : List ℕ → List ℕ → List ℕ
  acts word x = act ℕ (ring p) p.q p.r m word x

  acts_last : (word : List ℕ) (i : ℕ) (x : List ℕ) → acts (word ++ (i ∷ [])) x ≡ lettered Forward p m i (acts word x)
  unfolding exchanging act
  acts_last [] i x = letter_on_pairs ℕ (ring p) p.q p.r m i x
  acts_last (k ∷ word) i x = acts_last word i (letter ℕ (ring p) p.q p.r m k x)

  pub record Acting (word x₀ x : List ℕ) (i : ℕ) : Type 0 where
    pub value : x ≡ acts (take i word) x₀
    pub size : length x ≡ factorial (suc m)

module _ {p : Parameters} {m : ℕ} {word x₀ : List ℕ} where
  pub acting_none : length x₀ ≡ factorial (suc m) → Acting p m word x₀ x₀ 0
  unfolding act
  acting_none e = record { value = refl; size = e }

  pub acting_more : {x y : List ℕ} {i : ℕ} → i < length word → Acting p m word x₀ x i → y ≡ lettered Forward p m (get_or word i 0) x → Acting p m word x₀ y (i + 1)
  acting_more {x} {i = i} h a e =
      let k = get_or word i 0 in
      let more : take (i + 1) word ≡ take i word ++ (k ∷ []) = ap (λ (n : ℕ). take n word) (add-one i) ∙ take-suc word i 0 h in
      record {
        value = e ∙ ap (lettered Forward p m k) a.value ∙ sym (acts_last p m (take i word) k x₀) ∙ ap (λ (u : List ℕ). acts p m u x₀) (sym more);
        size = ap length e ∙ on_pairs_length ℕ (ring p) (exchanging Forward p) m k x;
      }

  pub acting_all : {x : List ℕ} {i : ℕ} → length word ≤ i → Acting p m word x₀ x i → x ≡ acts p m word x₀
  acting_all {i = i} h a = a.value ∙ ap (λ (u : List ℕ). acts p m u x₀) (take_all i word h)
