-- What the loops leave, where the sizes fit. Rests on lists' Test.
use mathlib.Core.Path.{◌≡◌, refl}
use mathlib.Core.List.{List, ◌++◌}
use Prim.Native.Nat.{ℕ, ◌+◌}
use lib.ListN.{length, drop}
use Rattle.lists.proofs.Test.{same_yes}
use Rattle.algebra.specs.Element.{plus, scale}
use Rattle.algebra.specs.Pairs.{exchanged}
use Rattle.element_calls.specs.declared.Parameters.{Parameters}
use Rattle.element_calls.specs.Coefficients.{ring}
use Rattle.block_loops.specs.declared.Way.{Way}
use Rattle.block_loops.specs.InPlace.{exchanging, add_to, add_multiple, fold_into, move_down, exchange_in}

pub exchange_fits : (w : Way) (p : Parameters) (b : ℕ) (x : List ℕ) → length x ≡ b + b → exchange_in w p b x ≡ exchanged (exchanging w p) b x
unfolding exchange_in
exchange_fits w p b x e = rw (same_yes e) refl

module _ (p : Parameters) where
  pub add_fits : (d s : List ℕ) → length d ≡ length s → add_to p d s ≡ plus ℕ (ring p) d s
  unfolding add_to
  add_fits d s e = rw (same_yes e) refl

  pub multiple_fits : (d : List ℕ) (c : ℕ) (s : List ℕ) → length d ≡ length s → add_multiple p d c s ≡ plus ℕ (ring p) d (scale ℕ (ring p) c s)
  unfolding add_multiple
  multiple_fits d c s e = rw (same_yes e) refl

  pub fold_fits : (d s : List ℕ) → length d ≡ length s → fold_into p d s ≡ plus ℕ (ring p) s (scale ℕ (ring p) p.r d)
  unfolding fold_into
  fold_fits d s e = rw (same_yes e) refl

  pub move_fits : (b : ℕ) (x : List ℕ) → length x ≡ b + b → move_down p b x ≡ scale ℕ (ring p) p.q (drop b x) ++ drop b x
  unfolding move_down
  move_fits b x e = rw (same_yes e) refl
