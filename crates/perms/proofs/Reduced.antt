-- Shortest words: each letter of one makes the permutation longer, on the right and on the left of the identity, and a word of which that holds
-- is one. The empty word and a letter are. Rests on Ascending.
use mathlib.Core.Path.{◌≡◌, refl, sym, ap, ◌∙◌}
use mathlib.Core.Bool.{true}
use mathlib.Core.List.{List, [], ◌∷◌}
use Prim.Native.Nat.{ℕ, zero, suc, ◌+◌, ◌≤◌, ◌<◌}
use native.Mathlib.Omega.{arith}
use Rattle.lists.specs.Lists.{range, tally}
use Rattle.lists.proofs.Test.{SameView, is, isnt, same?, same_no, less_no}
use Rattle.perms.specs.Permutation.{Perm, identity, generator, below, len, Letter, Word, of_word, Shortest}
use Rattle.perms.proofs.Perm.{rgt_word}
use Rattle.perms.proofs.Identity.{perm_identity}
use Rattle.perms.proofs.Products.{product_identity, perm_generator, of_word_rgt}
use Rattle.perms.proofs.Ascent.{before, asc_r}
use Rattle.perms.proofs.LeftRight.{lft_word, perm_of_word, of_word_lft}
use Rattle.perms.proofs.Ascending.{Ascends, ascends_word, ascends_len, ascends_of_len, AscendsL, ascends_l_of_len}

-- ---- the identity

below_range : (x a n : ℕ) → x ≤ a → below x (range a n) ≡ 0
unfolding range below tally
below_range x a zero h = refl
below_range x a (suc n) h = rw (less_no {x = a} {a = x} h) (omega (arith, below_range x (suc a) n (omega arith)))

len_range : (a n : ℕ) → len (range a n) ≡ 0
unfolding range len
len_range a zero = refl
len_range a (suc n) = omega (arith, below_range a (suc a) n (omega arith), len_range (suc a) n)

pub len_identity : (m : ℕ) → len (identity m) ≡ 0
unfolding identity
len_identity m = len_range 1 (m + 1)

before_range : (a b c n : ℕ) → a < b → c ≤ a → a < c + n → before a b (range c n) ≡ true
unfolding before range
before_range a b c zero h k l = absurd (omega arith)
before_range a b c (suc n) h k l = go (before_range a b (suc c) n h) (same? c a)
  where
    go : (suc c ≤ a → a < suc c + n → before a b (range (suc c) n) ≡ true) → SameView c a → before a b (c ∷ range (suc c) n) ≡ true
    go ih (is p e) = rw e
    go ih (isnt p e) = rw (e, same_no {x = c} {a = b} (omega arith)) (ih (omega arith) (omega arith))

pub before_identity : (m a b : ℕ) → 1 ≤ a → a < b → a ≤ m + 1 → before a b (identity m) ≡ true
unfolding identity
before_identity m a b l h k = before_range a b 1 (m + 1) h l (omega arith)

pub asc_identity : {m i : ℕ} → Letter m i → asc_r i (identity m) ≡ true
unfolding asc_r
asc_identity {m} {i} l = before_identity m i (suc i) l.low (omega arith) (omega arith)

-- ---- what a shortest word does

module _ {m : ℕ} {x w : List ℕ} (s : Shortest m x w) where
  pub short_perm : Perm m w
  short_perm = rw (← s.makes) (perm_of_word m x s.word)

  pub short_makes : rgt_word x (identity m) ≡ w
  short_makes = sym (of_word_rgt m x s.word) ∙ s.makes

  pub short_makes_l : lft_word x (identity m) ≡ w
  short_makes_l = sym (of_word_lft m x s.word) ∙ s.makes

  pub short_ascends : Ascends m x (identity m)
  short_ascends = ascends_of_len x (identity m) s.word (perm_identity m) (omega (arith, ap len short_makes, s.short, len_identity m))

  pub short_ascends_l : AscendsL m x (identity m)
  short_ascends_l = ascends_l_of_len x (identity m) s.word (perm_identity m) (omega (arith, ap len short_makes_l, s.short, len_identity m))

-- ---- which words are shortest

pub ascends_short : (m : ℕ) (x : List ℕ) → Ascends m x (identity m) → Shortest m x (of_word m x)
ascends_short m x c =
    let a : Word m x = ascends_word m x (identity m) c in
    record { word = a; makes = refl; short = ap len (of_word_rgt m x a) ∙ omega (arith, ascends_len x (identity m) (perm_identity m) c, len_identity m) }

pub short_nil : (m : ℕ) → Shortest m [] (identity m)
unfolding of_word
short_nil m = ascends_short m [] tt

pub short_letter : {m i : ℕ} → Letter m i → Shortest m (i ∷ []) (generator m i)
unfolding of_word
short_letter {m} {i} l = rw (product_identity (generator m i) (perm_generator l)) at (ascends_short m (i ∷ []) (l, asc_identity l, tt))
