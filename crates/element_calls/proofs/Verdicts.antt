-- What acceptance says, and what is accepted: a rank up to 6, an element's slice, enough scratch, and a word. Rests on WordChecks, ranks' Sizes, lists'
-- Test and All, and refusals' Verdicts.
use mathlib.Core.Path.{◌≡◌, refl, sym, ◌∙◌}
use mathlib.Core.Bool.{Bool, not, ◌||◌}
use mathlib.Core.List.{List}
use Prim.Native.Nat.{ℕ, suc, ◌≤◌}
use native.Mathlib.Omega.{arith}
use lib.ListN.{length, get_or}
use Rattle.lists.specs.Lists.{same, less}
use Rattle.lists.specs.Numbers.{factorial}
use Rattle.lists.proofs.Test.{same_yes, less_no, same_true, less_false, not_false}
use Rattle.lists.proofs.All.{all_get_or, all_index}
use Rattle.refusals.specs.Refusals.{◌then◌}
use Rattle.refusals.specs.declared.Refusal.TheVariants as R
use Rattle.refusals.proofs.Verdicts.{accepts_first, accepts_next, accepts_unless, Near}
use Rattle.perms.specs.Permutation.{Letter, Word}
use Rattle.ranks.specs.Ranks.{size, needed, scratch_size}
use Rattle.ranks.proofs.Sizes.{size_is, scratch_size_is}
use Rattle.element_calls.specs.Calls.{rank_verdict, size_verdict, scratch_verdict, first_bad_letter, word_verdict}
use Rattle.element_calls.proofs.WordChecks.{letter_good, good_letter, searched_few, searched_good, searched_taken, searched_near}
use Rattle.std.specs.Prelude.{Ok}

-- ---- the rank, an element, the scratch

pub rank_accepted : (m : ℕ) → rank_verdict m ≡ Ok tt → m ≤ 6
unfolding rank_verdict
rank_accepted m e = less_false 6 m (accepts_unless (less 6 m) R.Rank e)

pub rank_taken : (m : ℕ) → m ≤ 6 → rank_verdict m ≡ Ok tt
unfolding rank_verdict
rank_taken m h = rw (less_no h) refl

module _ (m n : ℕ) (low : m ≤ 6) where
  pub size_accepted : size_verdict m n ≡ Ok tt → n ≡ factorial (suc m)
  unfolding size_verdict
  size_accepted e = same_true n (size m) (not_false _ (accepts_unless (not (same n (size m))) R.Size e)) ∙ size_is m low

  pub size_taken : n ≡ factorial (suc m) → size_verdict m n ≡ Ok tt
  unfolding size_verdict
  size_taken e = rw (same_yes (e ∙ sym (size_is m low))) refl

  pub scratch_accepted : scratch_verdict m n ≡ Ok tt → needed m ≤ n
  unfolding scratch_verdict
  scratch_accepted e = omega (arith, less_false n (scratch_size m) (accepts_unless (less n (scratch_size m)) R.Scratch e), scratch_size_is m low)

  pub scratch_taken : needed m ≤ n → scratch_verdict m n ≡ Ok tt
  unfolding scratch_verdict
  scratch_taken h = rw (less_no {x = n} {a = scratch_size m} (omega (arith, scratch_size_is m low))) refl

-- the rank and one element, two and three
pub one_accepted : (m a : ℕ) → (rank_verdict m then size_verdict m a) ≡ Ok tt → (m ≤ 6) × (a ≡ factorial (suc m))
one_accepted m a e =
    let low = rank_accepted m (accepts_first (rank_verdict m) (size_verdict m a) e) in
    (low, size_accepted m a low (accepts_next (rank_verdict m) (size_verdict m a) e))

pub two_accepted : (m a b : ℕ) → (rank_verdict m then size_verdict m a then size_verdict m b) ≡ Ok tt
    → (m ≤ 6) × (a ≡ factorial (suc m)) × (b ≡ factorial (suc m))
two_accepted m a b e =
    let one = rank_verdict m then size_verdict m a in let good = one_accepted m a (accepts_first one (size_verdict m b) e) in
    (good.0, good.1, size_accepted m b good.0 (accepts_next one (size_verdict m b) e))

pub three_accepted : (m a b c : ℕ) → (rank_verdict m then size_verdict m a then size_verdict m b then size_verdict m c) ≡ Ok tt
    → (m ≤ 6) × (a ≡ factorial (suc m)) × (b ≡ factorial (suc m)) × (c ≡ factorial (suc m))
three_accepted m a b c e =
    let two = rank_verdict m then size_verdict m a then size_verdict m b in let good = two_accepted m a b (accepts_first two (size_verdict m c) e) in
    (good.0, good.1, good.2, size_accepted m c good.0 (accepts_next two (size_verdict m c) e))

-- and the scratch
pub trace_accepted : (m a n : ℕ) → (rank_verdict m then size_verdict m a then scratch_verdict m n) ≡ Ok tt
    → (m ≤ 6) × (a ≡ factorial (suc m)) × (needed m ≤ n)
trace_accepted m a n e =
    let one = rank_verdict m then size_verdict m a in let good = one_accepted m a (accepts_first one (scratch_verdict m n) e) in
    (good.0, good.1, scratch_accepted m n good.0 (accepts_next one (scratch_verdict m n) e))

pub product_accepted : (m a b c n : ℕ)
    → (rank_verdict m then size_verdict m a then size_verdict m b then size_verdict m c then scratch_verdict m n) ≡ Ok tt
    → (m ≤ 6) × (a ≡ factorial (suc m)) × (b ≡ factorial (suc m)) × (c ≡ factorial (suc m)) × (needed m ≤ n)
product_accepted m a b c n e =
    let three = rank_verdict m then size_verdict m a then size_verdict m b then size_verdict m c in
    let good = three_accepted m a b c (accepts_first three (scratch_verdict m n) e) in
    (good.0, good.1, good.2, good.3, scratch_accepted m n good.0 (accepts_next three (scratch_verdict m n) e))

-- ---- a word

-- the test that a letter fails
abbrev bad_letter : ℕ → List ℕ → ℕ → Bool
bad_letter m x i = same (get_or x i 0) 0 || less m (get_or x i 0)

pub word_accepted : (m : ℕ) (x : List ℕ) → word_verdict m x ≡ Ok tt → Word m x × (length x ≤ 4096)
unfolding word_verdict first_bad_letter
word_accepted m x e =
    (all_index (Letter m) x 0 (λ i h. letter_good m (get_or x i 0) (searched_good (bad_letter m x) (length x) e i h)), searched_few (bad_letter m x) (length x) e)

pub word_taken : (m : ℕ) (x : List ℕ) → Word m x → length x ≤ 4096 → word_verdict m x ≡ Ok tt
unfolding word_verdict first_bad_letter
word_taken m x w h = searched_taken (bad_letter m x) (length x) h (λ i k. good_letter m (get_or x i 0) (all_get_or (Letter m) x i 0 k w))

pub word_near : (m : ℕ) (x : List ℕ) → Near (word_verdict m x)
unfolding word_verdict first_bad_letter
word_near m x = searched_near (bad_letter m x) (length x)
