-- The definitions agree with the reference program on each of its vectors: product over permutations, nested method with its count in the falling
-- and in the rising order, and C; by computation. Rests on Vectors and on the definitions alone.
use mathlib.Core.Path.{◌≡◌, refl}
use mathlib.Core.List.{List, map}
use Prim.Native.Nat.{ℕ}
use Rattle.ring.specs.Modular.{modular, words}
use Rattle.lists.specs.Lists.{same, less, range, first, tally}
use Rattle.lists.specs.Numbers.{factorial, series}
use Rattle.lists.specs.Sums.{onto, sum_by}
use Rattle.lists.specs.Blocks.{block, blocks}
use Rattle.perms.specs.Permutation.{product, identity, swap, generator, of_word, below, len, descent}
use Rattle.perms.specs.Tower.{above, entry, cycle}
use Rattle.perms.specs.ShortestWord.{first_letters, shortest_word}
use Rattle.algebra.specs.Place.{place, join, perms}
use Rattle.algebra.specs.Element.{coefficient, element, plus, scale, sum_over}
use Rattle.algebra.specs.Product.{minus_one, letter, act, times}
use Rattle.algebra.specs.Nested.{operations, Counted, both, rising, falling, free, onward, ◌⧺◌, row, ◌⊞◌, ◌⊠◌, sum_along, part, level, nested_act, nested}
use Rattle.algebra.specs.Cost.{c_line, c, C}
use Rattle.algebra.proofs.Vectors.{Vector, vector, vectors}

abbrev result : Vector → List ℕ
result (vector m l q h g k n) = k

abbrev count : Vector → ℕ
count (vector m l q h g k n) = n

abbrev defined : Vector → List ℕ
defined (vector m l q h g k n) = times ℕ words q (minus_one ℕ words q) m l h g

-- in an order of the parts
abbrev method : (ℕ → List ℕ) → Vector → Counted ℕ
method order (vector m l q h g k n) = nested ℕ words q (minus_one ℕ words q) order m l h g

abbrev value : (ℕ → List ℕ) → Vector → List ℕ
value order v = (method order v).value

abbrev counted : (ℕ → List ℕ) → Vector → ℕ
counted order v = operations (method order v).count

abbrev recursion : Vector → ℕ
recursion (vector m l q h g k n) = C m l

pub products : map defined vectors ≡ map result vectors
unfolding modular same less range first tally product identity swap generator of_word below len above entry cycle descent first_letters shortest_word
    factorial series blocks place join perms coefficient element plus scale sum_over minus_one letter act times
products = refl

pub method_products : map (value falling) vectors ≡ map result vectors
unfolding modular range onto sum_by rising falling factorial plus scale minus_one block both free onward ◌⧺◌ row ◌⊞◌ ◌⊠◌ sum_along part level nested_act nested
method_products = refl

pub method_counts : map (counted falling) vectors ≡ map count vectors
unfolding modular range onto sum_by rising falling factorial plus scale minus_one block both free onward ◌⧺◌ row ◌⊞◌ ◌⊠◌ sum_along part level nested_act nested
    operations
method_counts = refl

pub rising_products : map (value rising) vectors ≡ map result vectors
unfolding modular range onto sum_by rising factorial plus scale minus_one block both free onward ◌⧺◌ row ◌⊞◌ ◌⊠◌ sum_along part level nested_act nested
rising_products = refl

pub rising_counts : map (counted rising) vectors ≡ map count vectors
unfolding modular range onto sum_by rising factorial plus scale minus_one block both free onward ◌⧺◌ row ◌⊞◌ ◌⊠◌ sum_along part level nested_act nested
    operations
rising_counts = refl

pub recursions : map recursion vectors ≡ map count vectors
unfolding factorial series c_line c C
recursions = refl
