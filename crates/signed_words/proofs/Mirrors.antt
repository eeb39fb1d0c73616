-- The mirror of a signed word is one as long, and its mirror is the word. Rests on lists' All.
use mathlib.Core.Path.{◌≡◌, refl, ap, ap₂, ◌∙◌}
use mathlib.Core.List.{List, [], ◌∷◌, ◌++◌}
use Prim.Native.Nat.{ℕ, zero, suc}
use native.Mathlib.Omega.{arith}
use lib.ListN.{length, length-append}
use lib.IntN.{ℤ, pos, negsuc, neg_ℤ, neg_ℤ-neg_ℤ}
use Rattle.lists.proofs.All.{all_append}
use Rattle.signed_words.specs.Words.{SignedLetter, SignedWord, mirror}

mirror_last : (x : List ℤ) (z : ℤ) → mirror (x ++ (z ∷ [])) ≡ neg_ℤ z ∷ mirror x
unfolding mirror
mirror_last [] z = refl
mirror_last (y ∷ x) z = ap {B = List ℤ} (λ u. u ++ (neg_ℤ y ∷ [])) (mirror_last x z)

pub mirror_mirror : (x : List ℤ) → mirror (mirror x) ≡ x
unfolding mirror
mirror_mirror [] = refl
mirror_mirror (z ∷ x) = mirror_last (mirror x) (neg_ℤ z) ∙ ap₂ {C = List ℤ} (λ y u. y ∷ u) (neg_ℤ-neg_ℤ z) (mirror_mirror x)

pub mirror_length : (x : List ℤ) → length (mirror x) ≡ length x
unfolding mirror
mirror_length [] = refl
mirror_length (z ∷ x) = length-append (mirror x) (neg_ℤ z ∷ []) ∙ omega (arith, mirror_length x)

negated : {m : ℕ} (z : ℤ) → SignedLetter m z → SignedLetter m (neg_ℤ z)
negated (pos zero) l = l
negated (pos (suc n)) l = l
negated (negsuc n) l = l

pub mirrored : (m : ℕ) (x : List ℤ) → SignedWord m x → SignedWord m (mirror x)
unfolding mirror
mirrored m [] w = tt
mirrored m (z ∷ x) w = all_append (SignedLetter m) (mirror x) (neg_ℤ z ∷ []) (mirrored m x w.1) (negated z w.0, tt)
