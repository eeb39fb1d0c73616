-- Every definition on inverse letters and signed words that uses ring operations commutes with a map of them: one claim for each.
--
--   SignedMaps   the map f from A to B takes each definition over the operations o to that over p. This holds where f takes o to p (`Hom`).
--                The fields bear the names of the definitions
use Rattle.std.specs.Prelude.{◌≡◌, List, map, ℕ, ℤ}
use Rattle.ring.specs.Ring.{Ops}
use Rattle.algebra.specs.Maps.{mapped, Along}
use Rattle.signed_words.specs.InverseLetter.{Inverted, inverse_letter, inverse_t, backward}
use Rattle.signed_words.specs.Words.{signed_letter, signed_act}
use Rattle.signed_words.specs.Count.{back, nested_back}

pub record SignedMaps (A B : Type 0) (o : Ops A) (p : Ops B) (f : A → B) (q r q' r' : A) : Type 0 where
  pub inverted : Inverted A o q r q' r' → Inverted B p (f q) (f r) (f q') (f r')
  pub inverse_letter : (m i : ℕ) (h : List A) → map f (inverse_letter A o q r q' r' m i h) ≡ inverse_letter B p (f q) (f r) (f q') (f r') m i (map f h)
  pub inverse_t : (m i : ℕ) → map f (inverse_t A o q r q' r' m i) ≡ inverse_t B p (f q) (f r) (f q') (f r') m i
  pub backward : Along f (backward A o q' r') (backward B p (f q') (f r'))
  pub signed_letter : (m : ℕ) (z : ℤ) (h : List A) → map f (signed_letter A o q r q' r' m z h) ≡ signed_letter B p (f q) (f r) (f q') (f r') m z (map f h)
  pub signed_act : (m : ℕ) (x : List ℤ) (h : List A) → map f (signed_act A o q r q' r' m x h) ≡ signed_act B p (f q) (f r) (f q') (f r') m x (map f h)
  pub back : (x y : List A) → mapped f (back A o q' r' x y) ≡ back B p (f q') (f r') (map f x) (map f y)
  pub nested_back : (m i : ℕ) (h : List A) → mapped f (nested_back A o q' r' m i h) ≡ nested_back B p (f q') (f r') m i (map f h)
