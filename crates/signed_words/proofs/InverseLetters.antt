-- The inverse letter in a commutative ring: it is `backward` on the pairs, and letter and inverse letter undo each other. Rests on Undone, Inverted and
-- Lengths, and algebra's Generator and Elements.
use mathlib.Core.Path.{◌≡◌, ap, ◌∙◌}
use mathlib.Core.Bool.{Bool, true, false}
use mathlib.Core.List.{List, [], ◌∷◌}
use Prim.Native.Nat.{ℕ, suc}
use lib.ListN.{length}
use Rattle.ring.specs.Ring.{Ops, Ring}
use Rattle.lists.specs.Numbers.{factorial}
use Rattle.perms.specs.Permutation.{Letter}
use Rattle.perms.proofs.Perm.{rgt}
use Rattle.perms.proofs.Ascent.{asc_r}
use Rattle.algebra.specs.Element.{coefficient}
use Rattle.algebra.specs.Product.{letter, act}
use Rattle.algebra.specs.Pairs.{forward, on_pairs}
use Rattle.algebra.proofs.Generator.{letter_on_pairs, pick, P, step, R}
use Rattle.algebra.proofs.Words.{Rw}
use Rattle.algebra.proofs.Elements.{Has, has_own, has_scale, has_plus, has_on_pairs, has_act, equal_elements}
use Rattle.signed_words.specs.InverseLetter.{Inverted, inverse_letter, backward}
use Rattle.signed_words.proofs.Undone.{on_pairs_undo}
use Rattle.signed_words.proofs.Inverted.{cancels, at_longer, undoes, redoes}
use Rattle.signed_words.proofs.Lengths.{letter_length}

module _ (A : Type 0) (o : Ops A) (𝓡 : Ring A o) {q r q' r' : A} (v : Inverted A o q r q' r') {m i : ℕ} (l : Letter m i) where
  abbrev on : List A → List A
  on h = letter A o q r m i h

  abbrev off : List A → List A
  off h = inverse_letter A o q r q' r' m i h

  has_letter : {h : List A} {F : List ℕ → A} → Has A o m h F → Has A o m (on h) (R A o q r i F)
  unfolding act Rw
  has_letter a = has_act A o a q r (i ∷ []) (l, tt)

  pub on_pairs_lem : (h : List A) → length h ≡ factorial (suc m) → off h ≡ on_pairs A o (backward A o q' r') m i h
  unfolding inverse_letter P pick
  on_pairs_lem h e =
      let a = has_own A o e in
      equal_elements A o (has_plus A o (has_scale A o (has_letter a) _) (has_scale A o a _)) (has_on_pairs A o a (backward A o q' r') l)
      (λ w p. go (asc_r i w) (coefficient A o h (rgt i w)) (coefficient A o h w))
    where
      go : (b : Bool) (x y : A) → o.add (o.mul q' (step A o q r b x y)) (o.mul r' y) ≡ pick (backward A o q' r') b x y
      go true x y = ap (λ z. o.add z (o.mul r' y)) (cancels A o 𝓡 v x)
      go false x y = at_longer A o 𝓡 v x y

  pub undo : (h : List A) → length h ≡ factorial (suc m) → off (on h) ≡ h
  undo h e =
      on_pairs_lem (on h) (letter_length A o q r q' r' m i h) ∙ ap (on_pairs A o (backward A o q' r') m i) (letter_on_pairs A o q r m i h)
      ∙ on_pairs_undo A o (undoes A o 𝓡 v) l h e

  pub redo : (h : List A) → length h ≡ factorial (suc m) → on (off h) ≡ h
  redo h e =
      letter_on_pairs A o q r m i (off h) ∙ ap (on_pairs A o (forward A o q r) m i) (on_pairs_lem h e) ∙ on_pairs_undo A o (redoes A o 𝓡 v) l h e
