-- Words of signed letters in a commutative ring: a word and then its mirror bring any element home. Rests on InverseLetters, InverseProducts, Lengths,
-- Mirrors and PlainWords.
use mathlib.Core.Path.{◌≡◌, refl, sym, ap, ◌∙◌}
use mathlib.Core.List.{List, [], ◌∷◌, ◌++◌}
use Prim.Native.Nat.{ℕ, zero, suc}
use native.Mathlib.Omega.{arith}
use lib.ListN.{length}
use lib.IntN.{ℤ, pos, negsuc, neg_ℤ}
use Rattle.ring.specs.Ring.{Ops, Ring}
use Rattle.lists.specs.Numbers.{factorial}
use Rattle.algebra.proofs.Onto.{any}
use Rattle.signed_words.specs.InverseLetter.{Inverted}
use Rattle.signed_words.specs.Words.{SignedLetter, SignedWord, mirror, signed_letter, signed_act}
use Rattle.signed_words.specs.Laws.{Signed}
use Rattle.signed_words.proofs.Lengths.{signed_letter_length}
use Rattle.signed_words.proofs.InverseLetters.{on_pairs_lem, undo, redo}
use Rattle.signed_words.proofs.InverseProducts.{is_product, left, right}
use Rattle.signed_words.proofs.Mirrors.{mirror_mirror, mirrored}
use Rattle.signed_words.proofs.PlainWords.{plain}

-- for any operations
signed_act_last : (A : Type 0) (o : Ops A) (q r q' r' : A) (m : ℕ) (x : List ℤ) (z : ℤ) (h : List A)
    → signed_act A o q r q' r' m (x ++ (z ∷ [])) h ≡ signed_letter A o q r q' r' m z (signed_act A o q r q' r' m x h)
unfolding signed_act
signed_act_last A o q r q' r' m [] z h = refl
signed_act_last A o q r q' r' m (y ∷ x) z h = signed_act_last A o q r q' r' m x z (signed_letter A o q r q' r' m y h)

module _ (A : Type 0) (o : Ops A) (𝓡 : Ring A o) {q r q' r' : A} (v : Inverted A o q r q' r') (m : ℕ) where
  abbrev M : ℕ
  M = factorial (suc m)

  abbrev on : ℤ → List A → List A
  on z h = signed_letter A o q r q' r' m z h

  abbrev acts : List ℤ → List A → List A
  acts x h = signed_act A o q r q' r' m x h

  off : (z : ℤ) (h : List A) → SignedLetter m z → length h ≡ M → on (neg_ℤ z) (on z h) ≡ h
  unfolding signed_letter
  off (pos zero) h l e = absurd (omega arith)
  off (pos (suc n)) h l e = undo A o 𝓡 v l h e
  off (negsuc n) h l e = redo A o 𝓡 v l h e

  home : (x : List ℤ) (h : List A) → SignedWord m x → length h ≡ M → acts (mirror x) (acts x h) ≡ h
  unfolding signed_act mirror
  home [] h w e = refl
  home (z ∷ x) h w e =
      signed_act_last A o q r q' r' m (mirror x) (neg_ℤ z) (acts x (on z h))
      ∙ ap (on (neg_ℤ z)) (home x (on z h) w.1 (signed_letter_length A o q r q' r' m z h e))
      ∙ off z h w.0 e

  pub signed : Signed A o q r q' r' any m
  signed = record {
    undo = λ i l h a. undo A o 𝓡 v l h a.size;
    redo = λ i l h a. redo A o 𝓡 v l h a.size;
    is_product = λ i l h a. is_product A o 𝓡 v l h a;
    left = λ i l. left A o 𝓡 v l;
    right = λ i l. right A o 𝓡 v l;
    on_pairs_lem = λ i l h a. on_pairs_lem A o 𝓡 v l h a.size;
    home = λ x w h a. home x h w a.size;
    home' = λ x w h a. ap (λ y. acts y (acts (mirror x) h)) (sym (mirror_mirror x)) ∙ home (mirror x) h (mirrored m x w) a.size;
    plain = plain A o q r m q' r';
  }
