-- A letter on elements of rank 1 and 2, by the exchanges that are made. Rests on algebra's LowRanks, block_loops' Fits and
-- lists' InRow.
use mathlib.Core.Path.{◌≡◌, sym, ap, ◌∙◌}
use mathlib.Core.List.{List, ◌++◌}
use Prim.Native.Nat.{ℕ, suc, ◌+◌, ◌-◌, ◌≤◌}
use native.Mathlib.Omega.{arith}
use lib.ListN.{length, take, drop}
use lib.Seq.{length-take-le}
use borrow.Rule.Slice.PartMut.{mid_of, put_mid}
use Rattle.lists.specs.Numbers.{factorial}
use Rattle.algebra.specs.Pairs.{exchanged}
use Rattle.algebra.proofs.LowRanks.{rank_one, rank_two_1, rank_two_2}
use Rattle.element_calls.specs.declared.Parameters.{Parameters}
use Rattle.element_calls.specs.Coefficients.{ring}
use Rattle.block_loops.specs.declared.Way.{Way}
use Rattle.block_loops.specs.InPlace.{exchanging, exchange_in}
use Rattle.block_loops.proofs.Fits.{exchange_fits}
use Rattle.letters.specs.Letters.{lettered, LetterPre}
use Rattle.lists.proofs.InRow.{both_back, second_size}

-- ---- sizes

pub rank_one_size : {m j : ℕ} {x : List ℕ} → m ≡ 1 → LetterPre m j x → length x ≡ 2
unfolding factorial
rank_one_size e p = p.size ∙ ap (λ (n : ℕ). factorial (suc n)) e

pub rank_two_size : {j : ℕ} {x : List ℕ} → LetterPre 2 j x → length x ≡ 6
unfolding factorial
rank_two_size p = p.size

module _ (w : Way) (p : Parameters) where
  -- ---- rank 1

  pub exchanged_one : {m j : ℕ} {x v : List ℕ} → m ≡ 1 → LetterPre m j x → v ≡ exchange_in w p 1 x → v ≡ lettered w p m j x
  exchanged_one {m} {j} {x} e pre h =
      let one : 1 ≡ j = omega (arith, pre.letter.low, pre.letter.high) in
      let size = rank_one_size e pre in
      h ∙ exchange_fits w p 1 x size ∙ sym (rank_one ℕ (ring p) (exchanging w p) x size) ∙ (λ i. lettered w p (sym e i) (one i) x)

  -- ---- rank 2: the first exchange left v₁, the second v₂

  module _ {j : ℕ} {x : List ℕ} (pre : LetterPre 2 j x) (v₁ : List ℕ) {v₂ : List ℕ} where
    -- the first at blocks of b words, the second at the other words
    both : (at b c : ℕ) → at ≡ b + b → 6 ≡ at + (c + c) → length v₁ ≡ length (take (at - 0) x) → v₁ ≡ exchange_in w p b (take (at - 0) x)
        → let y = put_mid 0 (at - 0) x v₁ in v₂ ≡ exchange_in w p c (mid_of at (length y - at) y)
        → put_mid at (length y - at) y v₂ ≡ exchanged (exchanging w p) b (take (at - 0) x) ++ exchanged (exchanging w p) c (drop at x)
    both at b c eb ec s e₁ e₂ =
        let size = rank_two_size pre in
        let within : at ≤ length x = omega (arith, size) in
        both_back at x v₁ within s (exchanged (exchanging w p) b) (exchanged (exchanging w p) c)
        (e₁ ∙ exchange_fits w p b (take (at - 0) x) (length-take-le (at - 0) x (omega arith) ∙ omega arith))
        (e₂ ∙ exchange_fits w p c _ (second_size at x v₁ within s ∙ omega (arith, size)))

    pub exchanged_two_1 : j ≡ 1 → length v₁ ≡ length (take 2 x) → v₁ ≡ exchange_in w p 1 (take 2 x)
        → let y = put_mid 0 2 x v₁ in v₂ ≡ exchange_in w p 2 (mid_of 2 (length y - 2) y) → put_mid 2 (length y - 2) y v₂ ≡ lettered w p 2 j x
    exchanged_two_1 e s e₁ e₂ =
        both 2 1 2 (omega arith) (omega arith) s e₁ e₂
        ∙ sym (rank_two_1 ℕ (ring p) (exchanging w p) x (rank_two_size pre)) ∙ ap (λ (i : ℕ). lettered w p 2 i x) (sym e)

    pub exchanged_two_2 : 2 ≡ j → length v₁ ≡ length (take 4 x) → v₁ ≡ exchange_in w p 2 (take 4 x)
        → let y = put_mid 0 4 x v₁ in v₂ ≡ exchange_in w p 1 (mid_of 4 (length y - 4) y) → put_mid 4 (length y - 4) y v₂ ≡ lettered w p 2 j x
    exchanged_two_2 e s e₁ e₂ =
        both 4 2 1 (omega arith) (omega arith) s e₁ e₂
        ∙ sym (rank_two_2 ℕ (ring p) (exchanging w p) x (rank_two_size pre)) ∙ ap (λ (i : ℕ). lettered w p 2 i x) e
