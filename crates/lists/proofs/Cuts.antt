-- A list of blocks of b words, cut into three parts that are lent one after another and come back: the sizes of the parts, and the list when all are
-- back. Rests on InRow, Blocks and Parts.
--
--   Cut a n c b high x   x is a + n + c blocks of b words; the second part is the n blocks up to the index `high`
--   block_take           a block of the first words is a block of the list
use mathlib.Core.Path.{◌≡◌, sym, ap, ◌∙◌}
use mathlib.Core.List.{List, ◌++◌}
use Prim.Native.Nat.{ℕ, ◌+◌, ◌*◌, ◌-◌, ◌≤◌}
use native.Mathlib.Nat.{add-mul}
use native.Mathlib.Omega.{arith}
use lib.ListN.{length, take, drop}
use lib.Seq.{take-add, take-take, drop_at, length-take-le}
use borrow.Rule.Slice.PartMut.{mid_of, put_mid, mid_len, same_len_mid}
use Rattle.lists.specs.Blocks.{block, blocks}
use Rattle.lists.proofs.Blocks.{blocks_cong}
use Rattle.lists.proofs.Parts.{below_block, rest_size}
use Rattle.lists.proofs.InRow.{first_back, second_back, third_back, rest_part}

pub block_take : (b k n : ℕ) (x : List ℕ) → k * b + b ≤ n → n ≤ length x → block b k (take n x) ≡ block b k x
unfolding block
block_take b k n x h g =
    let at = k * b in
    let e : n ≡ at + (n - at) = omega arith in
    ap (λ (p : ℕ). take b (drop at (take p x))) e
    ∙ ap (λ (y : List ℕ). take b (drop at y)) (take-add at (n - at) x)
    ∙ ap (take b) (drop_at (take at x) (take (n - at) (drop at x)) at (length-take-le at x (omega arith)))
    ∙ take-take b (n - at) (drop at x) (omega arith)

-- ---- the three parts

pub record Cut (a n c b high : ℕ) (x : List ℕ) : Type 0 where
  pub top : high ≡ (a + n) * b
  pub whole : length x ≡ (a + n + c) * b

module _ {a n c b high : ℕ} {x : List ℕ} (p : Cut a n c b high x) where
  abbrev low : ℕ
  low = a * b

  pub above_low : high ≡ low + n * b
  above_low = p.top ∙ add-mul a n b

  pub above_high : length x ≡ high + c * b
  above_high = p.whole ∙ add-mul (a + n) c b ∙ ap (λ (k : ℕ). k + c * b) (sym p.top)

  pub high_within : high ≤ length x
  high_within = omega (arith, above_high)

  pub low_within : low ≤ length x
  low_within = omega (arith, above_low, above_high)

  pub low_size : length (take (low - 0) x) ≡ a * b
  low_size = length-take-le (low - 0) x (omega (arith, low_within)) ∙ omega arith

  -- ---- the first part is back as v₁

  module _ (v₁ : List ℕ) (s₁ : length v₁ ≡ length (take (low - 0) x)) where
    abbrev y₁ : List ℕ
    y₁ = put_mid 0 (low - 0) x v₁

    pub size_1 : length y₁ ≡ length x
    size_1 = same_len_mid 0 (low - 0) x v₁ s₁

    pub middle_end : high ≤ length y₁
    middle_end = omega (arith, high_within, size_1)

    pub middle_size : length (mid_of low (high - low) y₁) ≡ n * b
    middle_size = mid_len low high y₁ middle_end ∙ omega (arith, above_low)

    -- ---- the second part is back as v₂

    module _ (v₂ : List ℕ) (s₂ : length v₂ ≡ length (mid_of low (high - low) y₁)) where
      abbrev y₂ : List ℕ
      y₂ = put_mid low (high - low) y₁ v₂

      pub size_2 : length y₂ ≡ length x
      size_2 = same_len_mid low (high - low) y₁ v₂ s₂ ∙ size_1

      pub high_size : length (mid_of high (length y₂ - high) y₂) ≡ c * b
      high_size = rest_size high y₂ ∙ omega (arith, above_high, size_2)

      -- ---- the third part is back as v₃

      module _ (v₃ : List ℕ) where
        -- f on each block of the first part, F on the second part, g on each block of the third
        pub cut_whole : (f F g : List ℕ → List ℕ) → v₁ ≡ blocks a (λ k. f (block b k (take (low - 0) x))) → v₂ ≡ F (mid_of low (high - low) y₁)
            → v₃ ≡ blocks c (λ k. g (block b k (mid_of high (length y₂ - high) y₂)))
            → put_mid high (length y₂ - high) y₂ v₃
            ≡ blocks a (λ k. f (block b k x)) ++ (F (take (high - low) (drop low x)) ++ blocks c (λ k. g (block b k (drop high x))))
        cut_whole f F g e₁ e₂ e₃ = third_back low high x v₁ v₂ lh high_within n₁ n₂ v₃ ∙ (λ i. first i ++ (second i ++ third i))
          where
            lh : low ≤ high
            lh = omega (arith, above_low)

            n₁ : length v₁ ≡ low
            n₁ = s₁ ∙ low_size

            n₂ : length v₂ ≡ high - low
            n₂ = s₂ ∙ mid_len low high y₁ middle_end

            first : v₁ ≡ blocks a (λ k. f (block b k x))
            first = e₁ ∙ blocks_cong a _ _ (λ k h. ap f (block_take b k (low - 0) x (omega (arith, below_block k a b h)) (omega (arith, low_within))))

            second : v₂ ≡ F (take (high - low) (drop low x))
            second = e₂ ∙ ap (λ (y : List ℕ). F (take (high - low) y)) (first_back low x v₁ low_within n₁)

            third : v₃ ≡ blocks c (λ k. g (block b k (drop high x)))
            third = e₃ ∙ ap (λ (y : List ℕ). blocks c (λ k. g (block b k y)))
                (rest_part high y₂ ∙ second_back low high x v₁ v₂ lh high_within n₁ n₂)

        -- the same, with all numbers as numbers of blocks
        pub cut_blocks : (f F g : List ℕ → List ℕ) → v₁ ≡ blocks a (λ k. f (block b k (take (low - 0) x))) → v₂ ≡ F (mid_of low (high - low) y₁)
            → v₃ ≡ blocks c (λ k. g (block b k (mid_of high (length y₂ - high) y₂)))
            → put_mid high (length y₂ - high) y₂ v₃
            ≡ blocks a (λ k. f (block b k x)) ++ (F (take (n * b) (drop (a * b) x)) ++ blocks c (λ k. g (block b k (drop ((a + n) * b) x))))
        cut_blocks f F g e₁ e₂ e₃ =
            let size : high - low ≡ n * b = omega (arith, above_low) in
            cut_whole f F g e₁ e₂ e₃
            ∙ (λ i. blocks a (λ k. f (block b k x)) ++ (F (take (size i) (drop low x)) ++ blocks c (λ k. g (block b k (drop (p.top i) x)))))
