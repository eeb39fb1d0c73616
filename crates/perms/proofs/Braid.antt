-- The two sides of a commuting relation and of a braid relation are shortest words of one permutation. Rests on Reduced and Walk.
use mathlib.Core.Path.{◌≡◌, sym, ap, ap₂, ◌∙◌, fun_ext}
use mathlib.Core.Logic.{◌≢◌, ◌⊎◌, inl, inr}
use mathlib.Core.List.{List, [], ◌∷◌, map}
use Prim.Native.Nat.{ℕ, suc, ◌<◌}
use native.Mathlib.Omega.{arith}
use Rattle.perms.specs.Permutation.{identity, swap, Letter, of_word, Shortest}
use Rattle.perms.proofs.Swap.{swap_off, swap_lo, swap_hi, swap_carry}
use Rattle.perms.proofs.Walk.{walk, walk_injective, of_word_walk}
use Rattle.perms.proofs.Ascent.{before, asc_r, before_rgt}
use Rattle.perms.proofs.Ascending.{Ascends, ascends_word}
use Rattle.perms.proofs.Reduced.{before_identity, asc_identity, ascends_short}

-- two words that move each point alike, and each letter of which makes the identity longer
short_alike : (m : ℕ) (x y : List ℕ) → Ascends m x (identity m) → Ascends m y (identity m) → ((v : ℕ) → walk y v ≡ walk x v) → Shortest m y (of_word m x)
short_alike m x y c d h = rw (
    of_word_walk m y (ascends_word m y (identity m) d) ∙ ap (λ f. map f (identity m)) (fun_ext h) ∙ sym (of_word_walk m x (ascends_word m x (identity m) c))
    ) at (ascends_short m y d)

-- ---- letters that are not next to each other

record Far (i j : ℕ) : Type 0 where
  ne : i ≢ j
  up : suc i ≢ j
  down : i ≢ suc j

far : {i j : ℕ} → (suc i < j) ⊎ (suc j < i) → Far i j
far (inl h) = record { ne = omega arith; up = omega arith; down = omega arith }
far (inr h) = record { ne = omega arith; up = omega arith; down = omega arith }

far_sym : {i j : ℕ} → Far i j → Far j i
far_sym f = record { ne = omega arith; up = omega arith; down = omega arith }

far_ascends : {m i j : ℕ} → Letter m i → Letter m j → Far i j → Ascends m (i ∷ j ∷ []) (identity m)
unfolding asc_r
far_ascends {m} {i} {j} a b f = (
  a,
  asc_identity a,
  (
    b,
    before_rgt i j (suc j) (identity m)
        ∙ ap₂ (λ x y. before x y (identity m)) (swap_off i j (omega arith) (omega arith)) (swap_off i (suc j) (omega arith) (omega arith))
        ∙ before_identity m j (suc j) b.low (omega arith) (omega arith),
    tt,
  ),
)

module _ {m i j : ℕ} (a : Letter m i) (b : Letter m j) (f : (suc i < j) ⊎ (suc j < i)) where
  pub commuting_left : Shortest m (i ∷ j ∷ []) (of_word m (i ∷ j ∷ []))
  commuting_left = ascends_short m (i ∷ j ∷ []) (far_ascends a b (far f))

  pub commuting_right : Shortest m (j ∷ i ∷ []) (of_word m (i ∷ j ∷ []))
  unfolding walk
  commuting_right = let n : Far i j = far f in
      short_alike m (i ∷ j ∷ []) (j ∷ i ∷ []) (far_ascends a b n) (far_ascends b a (far_sym n))
      (λ v. swap_carry (swap i) (walk_injective (i ∷ [])) j j v (swap_off i j (omega arith) (omega arith)) (swap_off i (suc j) (omega arith) (omega arith)))

-- ---- neighbours

-- the point of i, i + 1 and i + 2 that each of the two leaves fixed
swap_two : (i : ℕ) → swap i (suc (suc i)) ≡ suc (suc i)
swap_two i = swap_off i (suc (suc i)) (omega arith) (omega arith)

swap_under : (i : ℕ) → swap (suc i) i ≡ i
swap_under i = swap_off (suc i) i (omega arith) (omega arith)

module _ {m i : ℕ} (a : Letter m i) (b : Letter m (suc i)) where
  ascends_left : Ascends m (i ∷ suc i ∷ i ∷ []) (identity m)
  unfolding asc_r
  ascends_left = (
    a,
    asc_identity a,
    (
      b,
      simp (before_rgt, swap_hi, swap_two) (before_identity m i (suc (suc i)) a.low (omega arith) (omega arith)),
      (
        a,
        simp (before_rgt, swap_under, swap_lo, swap_two) (before_identity m (suc i) (suc (suc i)) b.low (omega arith) (omega arith)),
        tt,
      ),
    ),
  )

  ascends_right : Ascends m (suc i ∷ i ∷ suc i ∷ []) (identity m)
  unfolding asc_r
  ascends_right = (
    b,
    asc_identity b,
    (
      a,
      simp (before_rgt, swap_under, swap_lo) (before_identity m i (suc (suc i)) a.low (omega arith) (omega arith)),
      (
        b,
        simp (before_rgt, swap_hi, swap_two, swap_under) (before_identity m i (suc i) a.low (omega arith) (omega arith)),
        tt,
      ),
    ),
  )

  pub braid_left : Shortest m (i ∷ suc i ∷ i ∷ []) (of_word m (i ∷ suc i ∷ i ∷ []))
  braid_left = ascends_short m (i ∷ suc i ∷ i ∷ []) ascends_left

  -- s_(i+1) s_i takes i and i + 1 to i + 1 and i + 2
  pub braid_right : Shortest m (suc i ∷ i ∷ suc i ∷ []) (of_word m (i ∷ suc i ∷ i ∷ []))
  unfolding walk
  braid_right =
      short_alike m (i ∷ suc i ∷ i ∷ []) (suc i ∷ i ∷ suc i ∷ []) ascends_left ascends_right
      (λ v. sym (swap_carry (walk (suc i ∷ i ∷ [])) (walk_injective (suc i ∷ i ∷ [])) i (suc i) v
      (simp (swap_under, swap_lo)) (simp (swap_lo, swap_two))))
