-- The claims on inverse letters and signed words go over along a map of ring operations onto the coefficients that are meant.
-- Rests on SignedMaps and PlainWords, and algebra's NestedMaps and Onto.
use mathlib.Core.Path.{◌≡◌, ap}
use mathlib.Core.List.{List, map}
use Prim.Native.Nat.{ℕ}
use Rattle.ring.specs.Ring.{Ops, Hom}
use Rattle.algebra.specs.Element.{Element}
use Rattle.algebra.specs.Pairs.{on_pairs}
use Rattle.algebra.specs.Maps.{Maps}
use Rattle.algebra.proofs.NestedMaps.{maps}
use Rattle.algebra.proofs.Onto.{any, Onto, every, elements}
use Rattle.signed_words.specs.InverseLetter.{backward}
use Rattle.signed_words.specs.Laws.{Signed}
use Rattle.signed_words.specs.Maps.{SignedMaps}
use Rattle.signed_words.proofs.PlainWords.{plain}
use Rattle.signed_words.proofs.SignedMaps.{signed_maps}

module _ {A B : Type 0} {o : Ops A} {p : Ops B} {f : A → B} (H : Hom A B o p f) (q r q' r' : A) {ok : B → Type 0} (s : Onto f any ok) (m : ℕ) where
  M : Maps A B o p f q r
  M = maps H q r

  S : SignedMaps A B o p f q r q' r'
  S = signed_maps H q r q' r'

  E : Onto (map f) (Element any m) (Element ok m)
  E = elements s m

  on_backward : (i : ℕ) (h : List A) → map f (on_pairs A o (backward A o q' r') m i h) ≡ on_pairs B p (backward B p (f q') (f r')) m i (map f h)
  on_backward = M.on_pairs (backward A o q' r') (backward B p (f q') (f r')) S.backward m

  pub carry_signed : Signed A o q r q' r' any m → Signed B p (f q) (f r) (f q') (f r') ok m
  carry_signed L = record {
    undo = λ i l. every E _ (λ h a. simp (S.inverse_letter, M.letter) at (ap (map f) (L.undo i l h a)));
    redo = λ i l. every E _ (λ h a. simp (S.inverse_letter, M.letter) at (ap (map f) (L.redo i l h a)));
    is_product = λ i l. every E _ (λ h a. simp (S.inverse_letter, S.inverse_t, M.times) at (ap (map f) (L.is_product i l h a)));
    left = λ i l. simp (S.inverse_t, M.times, M.T, M.unit) at (ap (map f) (L.left i l));
    right = λ i l. simp (S.inverse_t, M.times, M.T, M.unit) at (ap (map f) (L.right i l));
    on_pairs_lem = λ i l. every E _ (λ h a. simp (S.inverse_letter, on_backward) at (ap (map f) (L.on_pairs_lem i l h a)));
    home = λ x w. every E _ (λ h a. simp S.signed_act at (ap (map f) (L.home x w h a)));
    home' = λ x w. every E _ (λ h a. simp S.signed_act at (ap (map f) (L.home' x w h a)));
    plain = plain B p (f q) (f r) m (f q') (f r');
  }
