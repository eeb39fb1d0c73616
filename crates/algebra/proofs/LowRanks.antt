-- An operator on pairs on an element of rank 1 is one exchange of two coefficients; on one of rank 2 it is two exchanges, one of two coefficients and
-- one of two blocks of 2. Rests on ByBlocks.
use mathlib.Core.Path.{◌≡◌, refl, ap, ap₂, ◌∙◌}
use mathlib.Core.List.{List, ◌++◌, append-nil}
use native.Mathlib.Omega.{arith}
use lib.ListN.{length, take, drop, length-drop}
use lib.Seq.{take_all, length-take-le}
use Rattle.ring.specs.Ring.{Ops}
use Rattle.lists.specs.Numbers.{factorial}
use Rattle.lists.specs.Blocks.{block, blocks}
use Rattle.algebra.specs.Pairs.{OnPair, on_pairs, exchanged}
use Rattle.algebra.proofs.ByBlocks.{on_pairs_blocks}

module _ (A : Type 0) (o : Ops A) (f : OnPair A) (x : List A) where
  pub rank_one : length x ≡ 2 → on_pairs A o f 1 1 x ≡ exchanged f 1 x
  unfolding blocks factorial
  rank_one e =
      on_pairs_blocks A o f 1 1 1 x (record { low = omega arith; high = omega arith }) e refl
      ∙ append-nil (exchanged f 1 (take 2 x)) ∙ ap (exchanged f 1) (take_all 2 x (omega arith))

module _ (A : Type 0) (o : Ops A) (f : OnPair A) (x : List A) (e : length x ≡ 6) where
  pub rank_two_1 : on_pairs A o f 2 1 x ≡ exchanged f 1 (take 2 x) ++ exchanged f 2 (drop 2 x)
  unfolding block blocks factorial
  rank_two_1 =
      on_pairs_blocks A o f 2 1 2 x (record { low = omega arith; high = omega arith }) e refl
      ∙ ap₂ {C = List A} (λ u v. u ++ v) (rank_one A o f (take 2 x) (length-take-le 2 x (omega arith)))
      (append-nil (exchanged f 2 (take 4 (drop 2 x))) ∙ ap (exchanged f 2) (take_all 4 (drop 2 x) (omega (arith, length-drop 2 x))))

  pub rank_two_2 : on_pairs A o f 2 2 x ≡ exchanged f 2 (take 4 x) ++ exchanged f 1 (drop 4 x)
  unfolding block blocks factorial
  rank_two_2 =
      on_pairs_blocks A o f 2 2 2 x (record { low = omega arith; high = omega arith }) e refl
      ∙ ap {B = List A} (λ u. exchanged f 2 (take 4 x) ++ u) (ap (on_pairs A o f 1 1) (take_all 2 (drop 4 x) (omega (arith, length-drop 4 x)))
      ∙ rank_one A o f (drop 4 x) (length-drop 4 x ∙ omega arith))
