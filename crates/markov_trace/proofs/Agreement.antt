-- The definitions on words, computed, give what was worked out by hand at rank 2 with q = 3, r = 2 and z = 5, and the trace agrees with the reference
-- program on each of its vectors. Rests on Vectors and on the definitions alone.
--
-- The places 0 to 5 are those of 1, s_1, s_2, s_1 s_2, s_2 s_1 and s_1 s_2 s_1. The traces of T_w there are 1, z, z, z², z² and z (r z + q).
use mathlib.Core.Path.{◌≡◌, refl}
use mathlib.Core.List.{List, [], ◌∷◌, map}
use Prim.Native.Nat.{ℕ}
use Rattle.ring.specs.Sum.{sum}
use Rattle.ring.specs.Modular.{words, modular}
use Rattle.lists.specs.Lists.{same, less, range, first, tally}
use Rattle.lists.specs.Numbers.{factorial, series}
use Rattle.lists.specs.Blocks.{block, blocks}
use Rattle.perms.specs.Permutation.{product, identity, swap, generator, of_word, below, len}
use Rattle.perms.specs.Tower.{above, entry, cycle}
use Rattle.algebra.specs.Place.{place, join, perms}
use Rattle.algebra.specs.Element.{coefficient, element, plus, scale}
use Rattle.algebra.specs.Product.{minus_one, letter, act}
use Rattle.markov_trace.specs.Trace.{embed, sums, turned, trace, lowered}
use Rattle.markov_trace.proofs.Vectors.{Vector, vector, vectors}

abbrev tens : List ℕ
tens = 1 ∷ 10 ∷ 100 ∷ 1000 ∷ 10000 ∷ 100000 ∷ []

pub trace_tens : trace ℕ words 3 2 5 2 tens ≡ 6775551
unfolding modular sum same less range first tally product identity swap generator of_word below len above entry cycle factorial series block blocks
    place join perms coefficient element letter act turned trace
trace_tens = refl

-- (10000, 100000) T_1 is (q 100000, 10000 + r 100000)
pub turned_tens : turned ℕ words 3 2 1 tens 2 ≡ 300000 ∷ 210000 ∷ []
unfolding modular same less range first tally product identity swap generator of_word below len above entry cycle factorial series block blocks
    place join perms coefficient element letter act turned
turned_tens = refl

-- (1, 10) + z ((100, 1000) + (300000, 210000))
pub lowered_tens : lowered ℕ words 3 2 5 1 tens ≡ 1500501 ∷ 1055010 ∷ []
unfolding modular same less range first tally product identity swap generator of_word below len above entry cycle factorial series block blocks
    place join perms coefficient element plus scale letter act sums turned lowered
lowered_tens = refl

pub embed_two : embed ℕ words 1 (7 ∷ 8 ∷ []) ≡ 7 ∷ 8 ∷ 0 ∷ 0 ∷ 0 ∷ 0 ∷ []
unfolding modular range factorial embed
embed_two = refl

-- ---- the vectors

abbrev result : Vector → ℕ
result (vector m q z h t) = t

abbrev defined : Vector → ℕ
defined (vector m q z h t) = trace ℕ words q (minus_one ℕ words q) z m h

pub traces : map defined vectors ≡ map result vectors
unfolding modular sum same less range first tally product identity swap generator of_word below len above entry cycle factorial series block blocks
    place join perms coefficient element minus_one letter act turned trace
traces = refl
