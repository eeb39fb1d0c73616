-- The definitions agree with the reference program on each of its permutations and products, by computation. Rests on Vectors and on the definitions alone.
use mathlib.Core.Path.{◌≡◌, refl}
use mathlib.Core.List.{map}
use lib.ListN.{length}
use Rattle.lists.specs.Lists.{same, less, range, first, tally}
use Rattle.perms.specs.Permutation.{product, identity, inverse, swap, generator, below, len, descent, of_word}
use Rattle.perms.specs.Tower.{above, entry, tower_of, cycle, cycles, standard, of_cycles, images_of, total, mask}
use Rattle.perms.specs.ShortestWord.{first_letters, shortest_word}
use Rattle.perms.proofs.Vectors.{vectors, pairs}

pub products : map (λ p. product p.left p.right) pairs ≡ map (λ p. p.product) pairs
unfolding product
products = refl

pub towers : map (λ v. tower_of v.images) vectors ≡ map (λ v. v.tower) vectors
unfolding less range tally above entry tower_of
towers = refl

pub inverses : map (λ v. inverse v.images) vectors ≡ map (λ v. v.inverse) vectors
unfolding same range first inverse
inverses = refl

pub lengths : map (λ v. len v.images) vectors ≡ map (λ v. v.length) vectors
unfolding less tally below len
lengths = refl

pub totals : map (λ v. total v.tower) vectors ≡ map (λ v. v.length) vectors
unfolding total
totals = refl

pub standard_words : map (λ v. standard v.tower) vectors ≡ map (λ v. v.word) vectors
unfolding cycle cycles standard
standard_words = refl

pub word_images : map (λ v. of_word (length v.tower) v.word) vectors ≡ map (λ v. v.images) vectors
unfolding same range product identity swap generator of_word
word_images = refl

pub tower_images : map (λ v. images_of v.tower) vectors ≡ map (λ v. v.images) vectors
unfolding same range product identity swap generator of_word cycle of_cycles images_of
tower_images = refl

pub descent_masks : map (λ v. let m = length v.tower in mask (descent m v.images) m) vectors ≡ map (λ v. v.descents) vectors
unfolding same less range tally product identity swap generator below len descent mask
descent_masks = refl

pub shortest_images : map (λ v. let m = length v.tower in of_word m (shortest_word m v.images)) vectors ≡ map (λ v. v.images) vectors
unfolding same less range first tally product identity swap generator below len descent of_word first_letters shortest_word
shortest_images = refl

pub shortest_lengths : map (λ v. length (shortest_word (length v.tower) v.images)) vectors ≡ map (λ v. v.length) vectors
unfolding same less range first tally product identity swap generator below len descent first_letters shortest_word
shortest_lengths = refl
