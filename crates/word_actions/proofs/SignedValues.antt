-- The signed letters of a word, as operators on pairs, act as the word: where no letter is below 0, whatever is given for the inverse letters, and
-- where q has an inverse. So the parameters that are asked for suffice. Rests on lists' Test, algebra's Generator, signed_words' SignedModular,
-- inverses' Search, and element_calls' SignedVerdicts.
use mathlib.Core.Path.{◌≡◌, refl, sym, ap, ◌∙◌}
use mathlib.Core.Logic.{◌⊎◌, inl, inr}
use mathlib.Core.Bool.{true, false}
use mathlib.Core.List.{List, [], ◌∷◌}
use Prim.Native.Nat.{ℕ, suc, ◌^◌, ◌<◌}
use native.Mathlib.Omega.{arith}
use lib.ListN.{length}
use lib.IntN.{ℤ, pos, negsuc}
use Rattle.ring.specs.Modular.{word_modulus, words}
use Rattle.lists.specs.Lists.{less}
use Rattle.lists.proofs.Test.{LessView, lt, ge, less?}
use Rattle.algebra.specs.Element.{Element}
use Rattle.algebra.specs.Product.{letter}
use Rattle.algebra.proofs.Generator.{letter_on_pairs}
use Rattle.signed_words.specs.Words.{SignedLetter, SignedWord, is_below, signed_letter, signed_act}
use Rattle.signed_words.proofs.SignedModular.{word_signed, word_signed_closed}
use Rattle.inverses.specs.Inverses.{has_inverse}
use Rattle.inverses.proofs.Search.{inverses}
use Rattle.element_calls.specs.declared.Parameters.{Parameters}
use Rattle.element_calls.specs.Coefficients.{modulus, ring, parameters_of, inverse_parameters}
use Rattle.element_calls.specs.Calls.{first_below}
use Rattle.element_calls.specs.Steps.{asked_parameters}
use Rattle.element_calls.specs.Claims.{NoneBelow}
use Rattle.element_calls.proofs.SignedVerdicts.{all_plain}
use Rattle.block_loops.specs.InPlace.{exchanging}
use Rattle.word_actions.specs.Steps.{signed_lettered, signed_acted}

-- ---- no letter below 0

module _ (p a : Parameters) (q' r' m : ℕ) where
  plain_is : (x : List ℤ) (h : List ℕ) → NoneBelow x → signed_acted p a m x h ≡ signed_act ℕ (ring p) p.q p.r q' r' m x h
  unfolding exchanging signed_acted signed_act signed_letter is_below
  plain_is [] h n = refl
  plain_is (pos i ∷ x) h n =
      ap (signed_acted p a m x) (sym (letter_on_pairs ℕ (ring p) p.q p.r m i h)) ∙ plain_is x (letter ℕ (ring p) p.q p.r m i h) n.1
  plain_is (negsuc i ∷ x) h n = let e : true ≡ false = n.0 in let y : ◌≡◌ {A = ℕ} 0 1 = cc in absurd (omega arith)

-- ---- q has an inverse

module _ (m : ℕ) {q q' : ℕ} (hq : q < 2 ^ 64) (hq' : q' < 2 ^ 64) (one : words.mul q q' ≡ words.one) where
  abbrev p : Parameters
  p = parameters_of q

  abbrev p' : Parameters
  p' = parameters_of q'

  abbrev on : ℤ → List ℕ → List ℕ
  on z h = signed_letter ℕ words p.q p.r p'.q p'.r m z h

  abbrev E : List ℕ → Type 0
  E h = Element (λ n. n < 2 ^ 64) m h

  letter_is : (z : ℤ) (h : List ℕ) → SignedLetter m z → E h → signed_lettered p p' m z h ≡ on z h
  unfolding modulus exchanging signed_letter
  letter_is (pos i) h l e = sym (letter_on_pairs ℕ words p.q p.r m i h)
  letter_is (negsuc i) h l e = sym ((word_signed m hq hq' one).on_pairs_lem (suc i) l h e)

  letter_element : (z : ℤ) (h : List ℕ) → E h → E (on z h)
  unfolding signed_act
  letter_element z h e = (word_signed_closed m hq hq').signed_act_lem (z ∷ []) h e

  inverted_is : (x : List ℤ) (h : List ℕ) → SignedWord m x → E h → signed_acted p p' m x h ≡ signed_act ℕ words p.q p.r p'.q p'.r m x h
  unfolding signed_acted signed_act
  inverted_is [] h w e = refl
  inverted_is (z ∷ x) h w e = ap (signed_acted p p' m x) (letter_is z h w.0 e) ∙ inverted_is x (on z h) w.1 (letter_element z h e)

-- ---- the parameters that are asked for

module _ (m q : ℕ) (x : List ℤ) (h : List ℕ) (hq : q < 2 ^ 64) (w : SignedWord m x) (e : Element (λ n. n < 2 ^ 64) m h) where
  abbrev by_letters : List ℕ
  by_letters = let p = parameters_of q in let p' = inverse_parameters q in signed_act ℕ (ring p) p.q p.r p'.q p'.r m x h

  plain : (a : Parameters) → NoneBelow x → signed_acted (parameters_of q) a m x h ≡ by_letters
  plain a n = let p' = inverse_parameters q in plain_is (parameters_of q) a p'.q p'.r m x h n

  inverted : has_inverse word_modulus q ≡ true → signed_acted (parameters_of q) (inverse_parameters q) m x h ≡ by_letters
  unfolding modulus
  inverted t = let i = (inverses word_modulus q hq).is t in inverted_is m hq i.below i.product x h w e

  asked : less (first_below x) (length x) ≡ true → has_inverse word_modulus q ≡ true → asked_parameters q x ≡ inverse_parameters q
  unfolding asked_parameters
  asked f t = rw (f, t) refl

  pub asked_is : NoneBelow x ⊎ (has_inverse word_modulus q ≡ true) → signed_acted (parameters_of q) (asked_parameters q x) m x h ≡ by_letters
  asked_is (inl n) = plain (asked_parameters q x) n
  asked_is (inr t) = go (less? (first_below x) (length x))
    where
      go : LessView (first_below x) (length x) → signed_acted (parameters_of q) (asked_parameters q x) m x h ≡ by_letters
      go (lt l f) = ap (λ (a : Parameters). signed_acted (parameters_of q) a m x h) (asked f t) ∙ inverted t
      go (ge g f) = plain (asked_parameters q x) (all_plain x g)
