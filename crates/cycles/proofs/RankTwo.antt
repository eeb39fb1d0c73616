-- The steps of `level_of_rank_two` on lists of six and of at least two words give x T_a(2,2), by computation. Rests on the definitions alone.
use mathlib.Core.Path.{◌≡◌, refl}
use mathlib.Core.List.{List, [], ◌∷◌}
use Prim.Native.Nat.{ℕ, ◌-◌, ◌≤◌}
use native.Mathlib.Omega.{arith}
use lib.ListN.{length, take, drop}
use borrow.Rule.Slice.PartMut.{put_mid}
use Rattle.lists.specs.Numbers.{factorial}
use Rattle.lists.specs.Lists.{same, less, range}
use Rattle.lists.specs.Sums.{onto, sum_by}
use Rattle.lists.specs.Blocks.{block}
use Rattle.algebra.specs.Element.{plus, scale}
use Rattle.algebra.specs.Pairs.{zipped, exchanged}
use Rattle.algebra.specs.Nested.{free, ◌⧺◌, row, ◌⊞◌, ◌⊠◌, sum_along, part, level, nested_act}
use Rattle.element_calls.specs.declared.Parameters.{Parameters}
use Rattle.block_loops.specs.declared.Way.TheVariants.{Forward}
use Rattle.word_lists.specs.Into.{load_into}
use Rattle.block_loops.specs.InPlace.{exchanging, exchange_in, add_to}
use Rattle.cycles.specs.Steps.{acted, shifted, TwoPre}

module _ (p : Parameters) where
  -- ---- x and work after each step that changes them, where v₁ .. v₄ are what came back

  abbrev x₁ : (x v₂ : List ℕ) → List ℕ
  x₁ x v₂ = put_mid 2 (4 - 2) x v₂

  abbrev x₂ : (x v₂ v₃ : List ℕ) → List ℕ
  x₂ x v₂ v₃ = put_mid 4 (length (x₁ x v₂) - 4) (x₁ x v₂) v₃

  abbrev w₁ : (w v₁ : List ℕ) → List ℕ
  w₁ w v₁ = put_mid 0 (2 - 0) w v₁

  abbrev w₂ : (w v₁ v₄ : List ℕ) → List ℕ
  w₂ w v₁ v₄ = put_mid 0 (2 - 0) (w₁ w v₁) v₄

  -- ---- what comes back

  abbrev copied : (x w : List ℕ) → List ℕ
  copied x w = load_into (take (2 - 0) w) (take (4 - 2) (drop 2 x)) 0

  abbrev first : List ℕ → List ℕ
  first x = exchange_in Forward p 1 (take (4 - 2) (drop 2 x))

  abbrev second : (x v₂ : List ℕ) → List ℕ
  second x v₂ = exchange_in Forward p 1 (take (length (x₁ x v₂) - 4) (drop 4 (x₁ x v₂)))

  abbrev added : (x w v₁ v₂ v₃ : List ℕ) → List ℕ
  added x w v₁ v₂ v₃ = add_to p (take (2 - 0) (w₁ w v₁)) (take (length (x₂ x v₂ v₃) - 4) (drop 4 (x₂ x v₂ v₃)))

  abbrev result : (x w v₁ v₂ v₃ v₄ : List ℕ) → List ℕ
  result x w v₁ v₂ v₃ v₄ = shifted p 2 (x₂ x v₂ v₃) (take 2 (w₂ w v₁ v₄))

  abbrev whole : (x w : List ℕ) → List ℕ
  whole x w =
      let v₁ = copied x w in let v₂ = first x in let v₃ = second x v₂ in
      result x w v₁ v₂ v₃ (added x w v₁ v₂ v₃)

  -- ---- all of them

  six_words : (x w : List ℕ) → length x ≡ 6 → 2 ≤ length w → whole x w ≡ acted p 2 2 2 x
  unfolding load_into add_to exchange_in same less exchanging acted nested_act level part sum_along sum_by onto range
      row free ◌⧺◌ ◌⊞◌ ◌⊠◌ block factorial plus scale zipped exchanged
  six_words [] w e l = absurd (omega arith)
  six_words (a ∷ []) w e l = absurd (omega arith)
  six_words (a ∷ b ∷ []) w e l = absurd (omega arith)
  six_words (a ∷ b ∷ c ∷ []) w e l = absurd (omega arith)
  six_words (a ∷ b ∷ c ∷ d ∷ []) w e l = absurd (omega arith)
  six_words (a ∷ b ∷ c ∷ d ∷ s ∷ []) w e l = absurd (omega arith)
  six_words (a ∷ b ∷ c ∷ d ∷ s ∷ t ∷ []) [] e l = absurd (omega arith)
  six_words (a ∷ b ∷ c ∷ d ∷ s ∷ t ∷ []) (g ∷ []) e l = absurd (omega arith)
  six_words (a ∷ b ∷ c ∷ d ∷ s ∷ t ∷ []) (g ∷ h ∷ w) e l = refl
  six_words (a ∷ b ∷ c ∷ d ∷ s ∷ t ∷ u ∷ x) w e l = absurd (omega arith)

  pub level_rank_two : (x w : List ℕ) {v₁ v₂ v₃ v₄ v₅ : List ℕ} → TwoPre x w → v₁ ≡ copied x w → v₂ ≡ first x → v₃ ≡ second x v₂
      → v₄ ≡ added x w v₁ v₂ v₃ → v₅ ≡ result x w v₁ v₂ v₃ v₄ → v₅ ≡ acted p 2 2 2 x
  level_rank_two x w s e₁ e₂ e₃ e₄ e₅ = rw (e₅, e₄, e₃, e₂, e₁) (six_words x w s.size s.work)
