-- A command in range puts elements of M words into registers, and changes nothing else. Rests on machine's Put and operands' InRange.
--
--   puts_obey   what holds of registers before such a command, and is kept where an element is put, holds after it
--   obey_size   it keeps the size of the registers
use mathlib.Core.Path.{◌≡◌, refl, sym, ◌∙◌}
use mathlib.Core.Bool.{true}
use mathlib.Core.List.{List, [], ◌∷◌}
use Prim.Native.Nat.{ℕ, suc, ◌*◌, ◌<◌}
use native.Mathlib.Omega.{arith}
use lib.ListN.{length, length-set, length-replicate}
use Rattle.ring.specs.Modular.{words}
use Rattle.lists.specs.Numbers.{factorial}
use Rattle.lists.proofs.Overwrite.{overwrite_size}
use Rattle.perms.specs.Permutation.{identity}
use Rattle.algebra.specs.Element.{unit}
use Rattle.algebra.proofs.Lists.{plus_length, scale_length}
use Rattle.algebra.proofs.Coefficients.{basis_length}
use Rattle.algebra.proofs.CoefficientActions.{act_length, times_length}
use Rattle.signed_words.proofs.Lengths.{inverse_letter_length}
use Rattle.element_calls.specs.Coefficients.{ring, parameters_of, inverse_parameters}
use Rattle.ranks.proofs.Sizes.{sheet_size_small}
use Rattle.sheet_format.specs.declared.Header.{Header}
use Rattle.sheet_format.specs.declared.Update.{Update}
use Rattle.sheet_format.specs.declared.Update.TheVariants.{Unit, Set, Letter, InverseLetter, Product, Sum, Scale}
use Rattle.sheet_format.specs.declared.Command.{Command}
use Rattle.sheet_format.specs.declared.Command.TheVariants.{End, Begin, Change, Show}
use Rattle.operands.specs.Operands.{in_range}
use Rattle.operands.specs.Bounds.{UpdateBounds, Bounds}
use Rattle.operands.proofs.InRange.{low, within}
use Rattle.machine.specs.Registers.{element, put, zeros}
use Rattle.machine.specs.Step.{updated, obey}
use Rattle.machine.proofs.Put.{element_size}

module _ (h : Header) (c : Command) (range : in_range h.rank c ≡ true) where
  abbrev m : ℕ
  m = h.rank

  abbrev M : ℕ
  M = factorial (suc m)

  module _ (P : List ℕ → Type 0) (four : (y : List ℕ) → P y → length y ≡ 2880)
      (putting : (y : List ℕ) (r : ℕ) (g : List ℕ) → r < 4 → length g ≡ M → P y → P (put r g y)) (x : List ℕ) (k : P x) where
    -- the element of register r
    sized : (r : ℕ) → r < 4 → length (element m r x) ≡ M
    sized r l = element_size {size = M} (record { low = low m c range; whole = refl; four = four x k }) l

    updates : (u : Update) → UpdateBounds m u → P (updated h u x)
    unfolding updated unit
    updates (Unit r) w = putting x r _ w (basis_length ℕ words m (identity m)) k
    updates (Set r i v) w = putting x r _ w.0 (length-set (element m r x) i v ∙ sized r w.0) k
    updates (Letter r i) w = let p = parameters_of h.q in
        putting x r _ w.0 (act_length ℕ (ring p) p.q p.r m (i ∷ []) (element m r x) (sized r w.0)) k
    updates (InverseLetter r i) w = let p = parameters_of h.q in let p' = inverse_parameters h.q in
        putting x r _ w.0 (inverse_letter_length ℕ (ring p) p.q p.r p'.q p'.r m i (element m r x) (sized r w.0)) k
    updates (Product d a b) w = let p = parameters_of h.q in
        putting x d _ w.0 (times_length ℕ (ring p) p.q p.r m m (element m a x) (element m b x) (sized a w.1)) k
    updates (Sum d a b) w = let e = sized a w.1 in
        putting x d _ w.0 (plus_length ℕ words (element m a x) (element m b x) (e ∙ sym (sized b w.2)) ∙ e) k
    updates (Scale r v) w = putting x r _ w (scale_length ℕ words v (element m r x) ∙ sized r w) k

    pub puts_obey : P (obey h c x)
    unfolding obey zeros
    puts_obey = go c (within m c range refl)
      where
        go : (c : Command) → Bounds m c → P (obey h c x)
        go End w = k
        go (Begin n) w = let e = length-replicate {A = ℕ} M 0 in
            putting _ 3 _ (omega arith) e (putting _ 2 _ (omega arith) e (putting _ 1 _ (omega arith) e (putting x 0 _ (omega arith) e k)))
        go (Change u) w = updates u w
        go (Show q) w = k

  pub obey_size : (x : List ℕ) → length x ≡ 2880 → length (obey h c x) ≡ 2880
  obey_size = puts_obey (λ y. length y ≡ 2880) (λ y e. e)
      (λ y r g l size e. overwrite_size (720 * r) g y (omega (arith, l, size, e, sheet_size_small m (low m c range))) ∙ e)
