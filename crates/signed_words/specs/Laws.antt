-- What is claimed of inverse letters and of signed words (document 02, Ticket 1), for elements of rank m whose coefficients are ok.
--
--   Signed          letters and their inverses undo each other, and words and their mirrors do. There E h says that h is an element of rank m, t i is
--                   T_i and t' i is q' T_i + r' 1
--   SignedClosed    the results are elements
use Rattle.std.specs.Prelude.{◌≡◌, List, map, ℕ, ℤ, pos}
use Rattle.ring.specs.Ring.{Ops}
use Rattle.perms.specs.Permutation.{Letter}
use Rattle.algebra.specs.Element.{Element, unit, T}
use Rattle.algebra.specs.Product.{letter, act, times}
use Rattle.algebra.specs.Pairs.{on_pairs}
use Rattle.signed_words.specs.InverseLetter.{inverse_letter, inverse_t, backward}
use Rattle.signed_words.specs.Words.{SignedWord, mirror, signed_act}

module _ (A : Type 0) (o : Ops A) (q r q' r' : A) (ok : A → Type 0) (m : ℕ) where
  abbrev E : List A → Type 0
  E h = Element ok m h

  abbrev t : ℕ → List A
  t i = T A o m i

  abbrev t' : ℕ → List A
  t' i = inverse_t A o q r q' r' m i

  pub record Signed : Type 0 where
    -- first the letter and then the inverse letter; and the other way about
    pub undo : (i : ℕ) → Letter m i → (h : List A) → E h → inverse_letter A o q r q' r' m i (letter A o q r m i h) ≡ h
    pub redo : (i : ℕ) → Letter m i → (h : List A) → E h → letter A o q r m i (inverse_letter A o q r q' r' m i h) ≡ h
    -- the inverse letter is the product with t' i, which is the inverse of T_i on both sides
    pub is_product : (i : ℕ) → Letter m i → (h : List A) → E h → inverse_letter A o q r q' r' m i h ≡ times A o q r m m h (t' i)
    pub left : (i : ℕ) → Letter m i → times A o q r m m (t' i) (t i) ≡ unit A o m
    pub right : (i : ℕ) → Letter m i → times A o q r m m (t i) (t' i) ≡ unit A o m
    pub on_pairs_lem : (i : ℕ) → Letter m i → (h : List A) → E h → inverse_letter A o q r q' r' m i h ≡ on_pairs A o (backward A o q' r') m i h
    -- a word and then its mirror bring any element home; and the other way about
    pub home : (x : List ℤ) → SignedWord m x → (h : List A) → E h → signed_act A o q r q' r' m (mirror x) (signed_act A o q r q' r' m x h) ≡ h
    pub home' : (x : List ℤ) → SignedWord m x → (h : List A) → E h → signed_act A o q r q' r' m x (signed_act A o q r q' r' m (mirror x) h) ≡ h
    -- a word with no letter below 0 acts as that word
    pub plain : (x : List ℕ) (h : List A) → signed_act A o q r q' r' m (map pos x) h ≡ act A o q r m x h

  pub record SignedClosed : Type 0 where
    pub inverse_letter_lem : (i : ℕ) (h : List A) → E h → E (inverse_letter A o q r q' r' m i h)
    pub signed_act_lem : (x : List ℤ) (h : List A) → E h → E (signed_act A o q r q' r' m x h)
