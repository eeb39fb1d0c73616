-- What acceptance says of a word of signed letters and of check 15, and what is accepted. Rests on WordChecks, Verdicts, InverseVerdicts, lists' Test,
-- First and All, and refusals' Verdicts.
use mathlib.Core.Path.{◌≡◌, refl, sym, ap, ◌∙◌}
use mathlib.Core.Logic.{◌⊎◌, inl, inr}
use mathlib.Core.Bool.{Bool, true, false, not, ◌&&◌, ◌||◌}
use mathlib.Core.List.{List}
use Prim.Native.Nat.{ℕ, suc, ◌≤◌}
use native.Mathlib.Omega.{arith}
use lib.ListN.{length, get_or}
use lib.IntN.{ℤ, pos, nat_abs}
use Rattle.ring.specs.Modular.{word_modulus}
use Rattle.lists.specs.Lists.{same, less, bit}
use Rattle.lists.specs.Numbers.{factorial}
use Rattle.lists.proofs.Test.{less_true, less_false}
use Rattle.lists.proofs.First.{passed, first_past}
use Rattle.lists.proofs.All.{all_get_or, all_index}
use Rattle.inverses.specs.Inverses.{has_inverse}
use Rattle.refusals.specs.Refusals.{◌then◌}
use Rattle.refusals.specs.declared.Refusal.TheVariants as R
use Rattle.refusals.proofs.Verdicts.{accepts_first, accepts_next, accepts_unless, Near, near_then, near_unless}
use Rattle.signed_words.specs.Words.{SignedLetter, SignedWord, is_below}
use Rattle.element_calls.specs.Calls.{rank_verdict, size_verdict, first_bad_signed, signed_word_verdict, first_below, inverse_verdict, signed_verdict}
use Rattle.element_calls.specs.Claims.{NoneBelow}
use Rattle.element_calls.proofs.WordChecks.{letter_good, good_letter, searched_few, searched_good, searched_taken, searched_near}
use Rattle.element_calls.proofs.Verdicts.{rank_taken, size_taken, one_accepted}
use Rattle.element_calls.proofs.InverseVerdicts.{has_one, none_below}
use Rattle.std.specs.Prelude.{Ok}

-- ---- the letters

-- the test that a letter fails
abbrev bad_signed : ℕ → List ℤ → ℕ → Bool
bad_signed m x i = same (nat_abs (get_or x i (pos 0))) 0 || less m (nat_abs (get_or x i (pos 0)))

module _ (m : ℕ) (x : List ℤ) where
  pub letters_accepted : signed_word_verdict m x ≡ Ok tt → SignedWord m x × (length x ≤ 4096)
  unfolding signed_word_verdict first_bad_signed
  letters_accepted e = (
    all_index (SignedLetter m) x (pos 0) (λ i h. letter_good m (nat_abs (get_or x i (pos 0))) (searched_good (bad_signed m x) (length x) e i h)),
    searched_few (bad_signed m x) (length x) e,
  )

  pub letters_taken : SignedWord m x → length x ≤ 4096 → signed_word_verdict m x ≡ Ok tt
  unfolding signed_word_verdict first_bad_signed
  letters_taken w h = searched_taken (bad_signed m x) (length x) h
      (λ i k. good_letter m (nat_abs (get_or x i (pos 0))) (all_get_or (SignedLetter m) x i (pos 0) k w))

  letters_near : Near (signed_word_verdict m x)
  unfolding signed_word_verdict first_bad_signed
  letters_near = searched_near (bad_signed m x) (length x)

-- ---- check 15

-- the test that a letter is below 0
abbrev pub below_at : List ℤ → ℕ → Bool
below_at x i = is_below (get_or x i (pos 0))

module _ (x : List ℤ) where
  pub all_plain : length x ≤ first_below x → NoneBelow x
  unfolding first_below
  all_plain h = all_index (λ z. is_below z ≡ false) x (pos 0) (λ i l. passed (below_at x) 0 (length x) i (omega arith) (omega arith))

  plain_past : NoneBelow x → first_below x ≡ length x
  unfolding first_below
  plain_past w = first_past (below_at x) 0 (length x) (λ i k l. all_get_or (λ z. is_below z ≡ false) x i (pos 0) (omega arith) w) ∙ omega arith

module _ (q : ℕ) (x : List ℤ) where
  inverse_accepted : inverse_verdict q x ≡ Ok tt → NoneBelow x ⊎ (has_inverse word_modulus q ≡ true)
  unfolding inverse_verdict
  inverse_accepted e = go (less (first_below x) (length x)) refl (has_inverse word_modulus q) refl
      (accepts_unless (less (first_below x) (length x) && not (has_inverse word_modulus q)) (R.NoInverse (first_below x)) e)
    where
      go : (a : Bool) → less (first_below x) (length x) ≡ a → (b : Bool) → has_inverse word_modulus q ≡ b
          → (less (first_below x) (length x) && not (has_inverse word_modulus q)) ≡ false → NoneBelow x ⊎ (has_inverse word_modulus q ≡ true)
      go false f b g k = inl (all_plain x (less_false (first_below x) (length x) f))
      go true f true g k = inr g
      go true f false g k = absurd (omega (arith, ap bit (rw (f, g) at k)))

  pub inverse_taken : NoneBelow x ⊎ (has_inverse word_modulus q ≡ true) → inverse_verdict q x ≡ Ok tt
  inverse_taken (inl w) = sym (none_below q x {i = first_below x} refl (omega (arith, plain_past x w)))
  inverse_taken (inr e) = sym (has_one q x e)

  inverse_near : length x ≤ 4096 → Near (inverse_verdict q x)
  unfolding inverse_verdict
  inverse_near h = near_unless (a && b) (R.NoInverse (first_below x)) (λ t. omega (arith, less_true (first_below x) (length x) (both a b t)))
    where
      a : Bool
      a = less (first_below x) (length x)

      b : Bool
      b = not (has_inverse word_modulus q)

      both : (a b : Bool) → (a && b) ≡ true → a ≡ true
      both true b t = refl
      both false b t = t

-- ---- all checks of the call

module _ (m n q : ℕ) (x : List ℤ) where
  pub signed_accepted : signed_verdict m n q x ≡ Ok tt
      → (m ≤ 6) × (n ≡ factorial (suc m)) × SignedWord m x × (length x ≤ 4096) × (NoneBelow x ⊎ (has_inverse word_modulus q ≡ true))
  signed_accepted e =
      let one = rank_verdict m then size_verdict m n in
      let two = one then signed_word_verdict m x in
      let first = accepts_first two (inverse_verdict q x) e in
      let a = one_accepted m n (accepts_first one (signed_word_verdict m x) first) in
      let b = letters_accepted m x (accepts_next one (signed_word_verdict m x) first) in
      (a.0, a.1, b.0, b.1, inverse_accepted q x (accepts_next two (inverse_verdict q x) e))

  pub signed_taken : m ≤ 6 → n ≡ factorial (suc m) → SignedWord m x → length x ≤ 4096 → NoneBelow x ⊎ (has_inverse word_modulus q ≡ true)
      → signed_verdict m n q x ≡ Ok tt
  signed_taken low e w h c = rw (rank_taken m low, size_taken m n low e, letters_taken m x w h) (inverse_taken q x c)

  pub signed_near : Near (rank_verdict m then size_verdict m n) → Near (signed_verdict m n q x)
  signed_near h =
      let one = rank_verdict m then size_verdict m n in
      let two = one then signed_word_verdict m x in
      near_then two (inverse_verdict q x) (near_then one (signed_word_verdict m x) h (λ e. letters_near m x)) (λ e.
      inverse_near q x (letters_accepted m x (accepts_next one (signed_word_verdict m x) e)).1)
