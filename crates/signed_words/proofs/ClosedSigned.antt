-- Along a map of ring operations onto the coefficients that are meant, and no others, inverse letters and signed words make elements of elements.
-- Rests on Lengths and SignedMaps, and algebra's Onto and Closed.
use mathlib.Core.Path.{◌≡◌}
use mathlib.Core.List.{List, [], ◌∷◌, map}
use Prim.Native.Nat.{ℕ, suc}
use lib.ListN.{length}
use lib.IntN.{ℤ}
use Rattle.ring.specs.Ring.{Ops, Hom}
use Rattle.lists.specs.Numbers.{factorial}
use Rattle.algebra.specs.Element.{Element}
use Rattle.algebra.proofs.Onto.{any, Onto, every, elements}
use Rattle.algebra.proofs.Closed.{mapped_element}
use Rattle.signed_words.specs.InverseLetter.{inverse_letter}
use Rattle.signed_words.specs.Words.{signed_act}
use Rattle.signed_words.specs.Laws.{SignedClosed}
use Rattle.signed_words.specs.Maps.{SignedMaps}
use Rattle.signed_words.proofs.Lengths.{inverse_letter_length, signed_letter_length}
use Rattle.signed_words.proofs.SignedMaps.{signed_maps}

module _ (A : Type 0) (o : Ops A) (q r q' r' : A) (m : ℕ) where
  signed_act_length : (x : List ℤ) (h : List A) → length h ≡ factorial (suc m) → length (signed_act A o q r q' r' m x h) ≡ factorial (suc m)
  unfolding signed_act
  signed_act_length [] h e = e
  signed_act_length (z ∷ x) h e = signed_act_length x _ (signed_letter_length A o q r q' r' m z h e)

module _ {A B : Type 0} {o : Ops A} {p : Ops B} {f : A → B} (H : Hom A B o p f) (q r q' r' : A)
    {ok : B → Type 0} (s : Onto f any ok) (good : (a : A) → ok (f a)) (m : ℕ) where
  S : SignedMaps A B o p f q r q' r'
  S = signed_maps H q r q' r'

  E : Onto (map f) (Element any m) (Element ok m)
  E = elements s m

  pub closed_signed : SignedClosed B p (f q) (f r) (f q') (f r') ok m
  closed_signed = record {
    inverse_letter_lem = λ i. every E _ (λ h a.
        mapped_element H q r s good m (inverse_letter A o q r q' r' m i h) (S.inverse_letter m i h) (inverse_letter_length A o q r q' r' m i h a.size));
    signed_act_lem = λ x. every E _ (λ h a.
        mapped_element H q r s good m (signed_act A o q r q' r' m x h) (S.signed_act m x h) (signed_act_length A o q r q' r' m x h a.size));
  }
