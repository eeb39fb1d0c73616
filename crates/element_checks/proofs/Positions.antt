-- The search `first` along a list, by the position of what passes a test. Rests on lists' First and Test.
use Rattle.std.proofs.Common.{◌≡◌, refl, sym, ◌∙◌, arith, Bool, true, false, cond, List, ℕ, zero, suc, ◌+◌, ◌≤◌, ◌<◌, length, get_or, Some, None}
use Rattle.std.specs.List.{position, position_or_len}
use Rattle.std.proofs.lemmas.Option.{none-some, cond_some}
use Rattle.std.proofs.lemmas.List.Sums.{position_or_len_is}
use Rattle.std.proofs.lemmas.List.Quantifiers.{position-Some}
use Rattle.lists.specs.Lists.{less, first}
use Rattle.lists.proofs.First.{passed, first_true}
use Rattle.lists.proofs.Test.{less_false}

-- a search ends at its end at the latest
first_within : (p : ℕ → Bool) (a n : ℕ) → first p a n ≤ a + n
unfolding first
first_within p a zero = omega arith
first_within p a (suc n) = go (p a) (first_within p (suc a) n)
  where
    go : (b : Bool) → first p (suc a) n ≤ suc a + n → cond b a (first p (suc a) n) ≤ a + suc n
    go true h = omega arith
    go false h = omega arith

module _ {A : Type 0} (p : A → Bool) (d : A) (x : List A) where
  abbrev q : ℕ → Bool
  q i = p (get_or x i d)

  abbrev at : ℕ
  at = first q 0 (length x)

  at_position : at ≡ position_or_len p x
  at_position = sym (position_or_len_is p x at d (omega (arith, first_within q 0 (length x))) (λ k l. passed q 0 (length x) k (omega arith) l) (first_true q (length x)))

  pub found : {i : ℕ} → position p x ≡ Some i → (i ≡ at) × (i < length x)
  found {i} e = (sym (at_position ∙ (cond_some _ _ _ e).1), (position-Some p x i d e).0)

  pub found_none : position p x ≡ None → length x ≤ at
  unfolding less
  found_none e = go (less at (length x)) refl
    where
      go : (b : Bool) → less at (length x) ≡ b → length x ≤ at
      go false f = less_false at (length x) f
      go true f = absurd (none-some (position_or_len p x) (sym e ∙ rw (← at_position, f) refl))
