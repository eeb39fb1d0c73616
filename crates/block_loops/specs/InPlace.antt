-- What the loops leave in the place of a list of coefficients, for the parameters p: if the sizes fit the result, and else the list as it was.
--
--   exchanging w p         a letter as an operator on pairs: formula 4.1, or its inverse, for which p has q' and q' - 1
--   add_to p d s           d + s in the place of d
--   add_multiple p d c s   d + c s in the place of d
--   fold_into p d s        s + r d in the place of d
--   move_down p b x        two blocks of b coefficients: q times the second in the place of the first
--   exchange_in w p b x    two blocks of b coefficients, after a letter
use Rattle.std.specs.Prelude.{cond, List, ◌++◌, ℕ, ◌+◌, length, drop}
use Rattle.lists.specs.Lists.{same}
use Rattle.algebra.specs.Element.{plus, scale}
use Rattle.algebra.specs.Pairs.{OnPair, forward, exchanged}
use Rattle.signed_words.specs.InverseLetter.{backward}
use Rattle.element_calls.specs.declared.Parameters.{Parameters}
use Rattle.element_calls.specs.Coefficients.{ring}
use Rattle.block_loops.specs.declared.Way.{Way}
use Rattle.block_loops.specs.declared.Way.TheVariants.{Forward, Backward}

unfoldable pub exchanging : Way → Parameters → OnPair ℕ
exchanging Forward p = forward ℕ (ring p) p.q p.r
exchanging Backward p = backward ℕ (ring p) p.q p.r

unfoldable pub exchange_in : Way → Parameters → ℕ → List ℕ → List ℕ
exchange_in w p b x = cond (same (length x) (b + b)) (exchanged (exchanging w p) b x) x

module _ (p : Parameters) where
  unfoldable pub add_to : (d s : List ℕ) → List ℕ
  add_to d s = cond (same (length d) (length s)) (plus ℕ (ring p) d s) d

  unfoldable pub add_multiple : (d : List ℕ) (c : ℕ) (s : List ℕ) → List ℕ
  add_multiple d c s = cond (same (length d) (length s)) (plus ℕ (ring p) d (scale ℕ (ring p) c s)) d

  unfoldable pub fold_into : (d s : List ℕ) → List ℕ
  fold_into d s = cond (same (length d) (length s)) (plus ℕ (ring p) s (scale ℕ (ring p) p.r d)) d

  unfoldable pub move_down : (b : ℕ) → List ℕ → List ℕ
  move_down b x = cond (same (length x) (b + b)) (scale ℕ (ring p) p.q (drop b x) ++ drop b x) x
