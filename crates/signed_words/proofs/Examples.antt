-- The definitions, computed: over words with q = 3, where q' is 0xaaaa_aaaa_aaaa_aaab and 3 r' is -2. Rests on the definitions alone.
use mathlib.Core.Path.{◌≡◌, refl}
use mathlib.Core.List.{[], ◌∷◌, map}
use Prim.Native.Nat.{ℕ}
use lib.IntN.{pos, negsuc}
use Rattle.ring.specs.Modular.{modular, words}
use Rattle.lists.specs.Lists.{same, less, range, tally}
use Rattle.lists.specs.Numbers.{factorial, series}
use Rattle.lists.specs.Blocks.{block, blocks}
use Rattle.perms.specs.Permutation.{product, identity, swap, generator, of_word, below, len}
use Rattle.perms.specs.Tower.{above, entry, cycle}
use Rattle.algebra.specs.Place.{place, join, perms}
use Rattle.algebra.specs.Element.{coefficient, element, plus, scale, basis, unit, T}
use Rattle.algebra.specs.Product.{minus_one, letter}
use Rattle.algebra.specs.Nested.{both, free, ◌⧺◌, row, ◌⊞◌, ◌⊠◌}
use Rattle.signed_words.specs.InverseLetter.{inverse_letter, inverse_t, backward}
use Rattle.signed_words.specs.Words.{mirror, signed_letter, signed_act}
use Rattle.signed_words.specs.Count.{back, nested_back}

abbrev q' : ℕ
q' = 0xaaaa_aaaa_aaaa_aaab

abbrev r' : ℕ
r' = 0xaaaa_aaaa_aaaa_aaaa

less_one : minus_one ℕ words q' ≡ r'
unfolding modular minus_one
less_one = refl

-- ---- rank 1: a pair (s, t) becomes (t + r' s, q' s)

inverse_letters : map (inverse_letter ℕ words 3 2 q' r' 1 1) ((1 ∷ 0 ∷ []) ∷ (0 ∷ 1 ∷ []) ∷ (3 ∷ 5 ∷ []) ∷ [])
    ≡ (r' ∷ q' ∷ []) ∷ (1 ∷ 0 ∷ []) ∷ (3 ∷ 1 ∷ []) ∷ []
unfolding modular same less range tally product identity swap generator of_word below len above entry cycle factorial series blocks place join perms
    coefficient element plus scale letter inverse_letter
inverse_letters = refl

the_inverse : inverse_t ℕ words 3 2 q' r' 1 1 ≡ r' ∷ q' ∷ []
unfolding modular same less range tally product identity swap generator of_word below len above entry cycle factorial series blocks place join perms
    coefficient element plus scale basis unit T inverse_t
the_inverse = refl

on_a_pair : ((backward ℕ words q' r').shorter 3 5 ≡ 3) × ((backward ℕ words q' r').longer 3 5 ≡ 1)
unfolding modular
on_a_pair = (refl, refl)

counted : nested_back ℕ words q' r' 1 1 (3 ∷ 5 ∷ []) ≡ record { value = 3 ∷ 1 ∷ []; count = record { sums = 1; products = 2 } }
unfolding modular factorial block plus scale both free ◌⧺◌ row ◌⊞◌ ◌⊠◌ back nested_back
counted = refl

-- ---- words

mirrored : mirror (pos 1 ∷ negsuc 1 ∷ pos 3 ∷ []) ≡ negsuc 2 ∷ pos 2 ∷ negsuc 0 ∷ []
unfolding mirror
mirrored = refl

letter_and_two_inverse_letters : signed_act ℕ words 3 2 q' r' 1 (pos 1 ∷ negsuc 0 ∷ negsuc 0 ∷ []) (3 ∷ 5 ∷ []) ≡ 3 ∷ 1 ∷ []
unfolding modular same less range tally product identity swap generator of_word below len above entry cycle factorial series blocks place join perms
    coefficient element plus scale letter inverse_letter signed_letter signed_act
letter_and_two_inverse_letters = refl

-- rank 2: T_1 and then the inverse of T_2 is q' T_(s_1 s_2) + r' T_1
left_to_right : signed_act ℕ words 3 2 q' r' 2 (pos 1 ∷ negsuc 1 ∷ []) (1 ∷ 0 ∷ 0 ∷ 0 ∷ 0 ∷ 0 ∷ []) ≡ 0 ∷ r' ∷ 0 ∷ q' ∷ 0 ∷ 0 ∷ []
unfolding modular same less range tally product identity swap generator of_word below len above entry cycle factorial series blocks place join perms
    coefficient element plus scale letter inverse_letter signed_letter signed_act
left_to_right = refl
