-- Parts, sums and multiples of lists of words in the place of a list of the same size.
--
--   load_into d s at   the words of s from an index on, as many as d has, in the place of d, if there are as many, and else d
--   sum_into d h g     h + g in the place of d, if the three sizes agree, and else d
--   scale_into d c s   c s in the place of d, if the two sizes agree, and else d
use Rattle.std.specs.Prelude.{cond, ◌&&◌, List, ℕ, ◌+◌, length, take, drop}
use Rattle.ring.specs.Modular.{words}
use Rattle.lists.specs.Lists.{same, less}
use Rattle.algebra.specs.Element.{plus, scale}

unfoldable pub load_into : (d s : List ℕ) (at : ℕ) → List ℕ
load_into d s at = cond (less (length s) (at + length d)) d (take (length d) (drop at s))

unfoldable pub sum_into : (d h g : List ℕ) → List ℕ
sum_into d h g = cond (same (length d) (length h) && same (length h) (length g)) (plus ℕ words h g) d

unfoldable pub scale_into : (d : List ℕ) (c : ℕ) (s : List ℕ) → List ℕ
scale_into d c s = cond (same (length d) (length s)) (scale ℕ words c s) d
