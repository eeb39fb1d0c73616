-- Parts of a list that stand in a row, are lent one after another and come back: what stands after the parts that are back, and the list of two and of
-- three parts when all are back. Rests on Parts.
use mathlib.Core.Path.{◌≡◌, refl, sym, ap, ◌∙◌}
use mathlib.Core.List.{List, ◌++◌, append_assoc}
use Prim.Native.Nat.{ℕ, ◌+◌, ◌-◌, ◌≤◌}
use native.Mathlib.Omega.{arith}
use lib.ListN.{length, take, drop, length-drop, length-append}
use lib.Seq.{take_at, drop-drop, take_all, length-take-le}
use borrow.Rule.Slice.PartMut.{mid_of, put_mid, drop_put, mid_len, same_len_mid}
use Rattle.lists.proofs.Parts.{front_put, rest_put}

-- the last part, as it is lent
pub rest_part : (at : ℕ) (x : List ℕ) → mid_of at (length x - at) x ≡ drop at x
rest_part at x = take_all (length x - at) (drop at x) (rw length-drop (omega arith))

pub first_back : (at : ℕ) (x v : List ℕ) → at ≤ length x → length v ≡ at → drop at (put_mid 0 (at - 0) x v) ≡ drop at x
first_back at x v h e = drop_put 0 at x v (omega arith) h (e ∙ omega arith)

-- ---- three parts: the first up to `low`, the second up to `high`

module _ (low high : ℕ) (x v₁ v₂ : List ℕ) (lh : low ≤ high) (hx : high ≤ length x) (e₁ : length v₁ ≡ low) (e₂ : length v₂ ≡ high - low) where
  abbrev x₁ : List ℕ
  x₁ = put_mid 0 (low - 0) x v₁

  abbrev x₂ : List ℕ
  x₂ = put_mid low (high - low) x₁ v₂

  size_1 : length x₁ ≡ length x
  size_1 = same_len_mid 0 (low - 0) x v₁ (e₁ ∙ sym (mid_len 0 low x (omega arith) ∙ omega arith))

  split : (y : List ℕ) → drop high y ≡ drop (high - low) (drop low y)
  split y = let s : high ≡ low + (high - low) = omega arith in ap (λ (n : ℕ). drop n y) s ∙ sym (drop-drop (high - low) low y)

  pub second_back : drop high x₂ ≡ drop high x
  second_back =
      drop_put low high x₁ v₂ lh (omega (arith, size_1)) e₂
      ∙ split x₁ ∙ ap (drop (high - low)) (first_back low x v₁ (omega arith) e₁) ∙ sym (split x)

  pub third_back : (v₃ : List ℕ) → put_mid high (length x₂ - high) x₂ v₃ ≡ v₁ ++ (v₂ ++ v₃)
  third_back v₃ =
      let rest = drop (high - low) (drop low x₁) in
      rest_put high x₂ v₃
      ∙ ap (λ (p : List ℕ). take high (p ++ (v₂ ++ rest)) ++ v₃) (take_at v₁ (drop (low - 0) x) low e₁)
      ∙ ap (λ (y : List ℕ). take high y ++ v₃) (sym (append_assoc v₁ v₂ rest))
      ∙ ap (λ (y : List ℕ). y ++ v₃) (take_at (v₁ ++ v₂) rest high (length-append v₁ v₂ ∙ omega arith))
      ∙ append_assoc v₁ v₂ v₃

-- ---- two parts: the first, up to `at`, is back as v₁

module _ (at : ℕ) (x v₁ : List ℕ) (h : at ≤ length x) (s₁ : length v₁ ≡ length (take (at - 0) x)) where
  abbrev y : List ℕ
  y = put_mid 0 (at - 0) x v₁

  pub same_size : length y ≡ length x
  same_size = same_len_mid 0 (at - 0) x v₁ s₁

  second_part : mid_of at (length y - at) y ≡ drop at x
  second_part = rest_part at y ∙ first_back at x v₁ h (s₁ ∙ length-take-le (at - 0) x (omega arith) ∙ omega arith)

  pub second_size : length (mid_of at (length y - at) y) ≡ length x - at
  second_size = ap length second_part ∙ length-drop at x

  -- f on the first part, and g on the second
  pub both_back : (f g : List ℕ → List ℕ) {v₂ : List ℕ} → v₁ ≡ f (take (at - 0) x) → v₂ ≡ g (mid_of at (length y - at) y)
      → put_mid at (length y - at) y v₂ ≡ f (take (at - 0) x) ++ g (drop at x)
  both_back f g {v₂} e₁ e₂ =
      rest_put at y v₂ ∙ ap (λ (p : List ℕ). p ++ v₂) (front_put at x v₁ _ refl h s₁) ∙ (λ i. e₁ i ++ (e₂ ∙ ap g second_part) i)
