-- Words each letter of which makes a permutation longer, on the right and on the left: those that add as much to the length as they have letters.
-- Rests on LeftRight and Longer.
use mathlib.Core.Path.{◌≡◌, ◌∙◌}
use mathlib.Core.Bool.{true}
use mathlib.Core.List.{List, [], ◌∷◌}
use Prim.Native.Nat.{ℕ, ◌+◌, ◌≤◌}
use native.Mathlib.Omega.{arith}
use lib.ListN.{length}
use Rattle.lists.proofs.Test.{less_yes}
use Rattle.perms.specs.Permutation.{Perm, len, Letter, Word}
use Rattle.perms.proofs.Perm.{rgt, rgt_word, perm_rgt}
use Rattle.perms.proofs.Ascent.{asc_r, asc_l}
use Rattle.perms.proofs.Longer.{up_l, up_r, len_lft_le, len_rgt_le, asc_l_longer, asc_r_longer}
use Rattle.perms.proofs.LeftRight.{lft_word, perm_lft_word}

-- ---- on the right

abbrev pub Ascends : ℕ → List ℕ → List ℕ → Type 0
Ascends m [] w = Unit {0}
Ascends m (i ∷ x) w = Letter m i × (asc_r i w ≡ true) × Ascends m x (rgt i w)

pub ascends_word : (m : ℕ) (x w : List ℕ) → Ascends m x w → Word m x
ascends_word m [] w c = tt
ascends_word m (i ∷ x) w c = (c.0, ascends_word m x (rgt i w) c.2)

pub ascends_len : {m : ℕ} (x w : List ℕ) → Perm m w → Ascends m x w → len (rgt_word x w) ≡ len w + length x
unfolding rgt_word
ascends_len [] w p c = omega arith
ascends_len (i ∷ x) w p c = omega (arith, ascends_len x (rgt i w) (perm_rgt c.0 p) c.2, up_r i w c.0 p c.1)

pub rgt_word_le : {m : ℕ} (x w : List ℕ) → Word m x → Perm m w → len (rgt_word x w) ≤ len w + length x
unfolding rgt_word
rgt_word_le [] w a p = omega arith
rgt_word_le (i ∷ x) w a p = omega (arith, rgt_word_le x (rgt i w) a.1 (perm_rgt a.0 p), len_rgt_le i w a.0 p)

pub ascends_of_len : {m : ℕ} (x w : List ℕ) → Word m x → Perm m w → len (rgt_word x w) ≡ len w + length x → Ascends m x w
unfolding rgt_word
ascends_of_len [] w a p e = tt
ascends_of_len {m} (i ∷ x) w a p e =
    let q : Perm m (rgt i w) = perm_rgt a.0 p in
    let u : asc_r i w ≡ true = asc_r_longer i w a.0 p ∙ less_yes (omega (arith, e, rgt_word_le x (rgt i w) a.1 q)) in
    (a.0, u, ascends_of_len x (rgt i w) a.1 q (omega (arith, e, up_r i w a.0 p u)))

-- ---- on the left

abbrev pub AscendsL : ℕ → List ℕ → List ℕ → Type 0
AscendsL m [] w = Unit {0}
AscendsL m (i ∷ x) w = Letter m i × (asc_l i (lft_word x w) ≡ true) × AscendsL m x w

lft_word_le : {m : ℕ} (x w : List ℕ) → Word m x → Perm m w → len (lft_word x w) ≤ len w + length x
unfolding lft_word
lft_word_le [] w a p = omega arith
lft_word_le (i ∷ x) w a p = omega (arith, lft_word_le x w a.1 p, len_lft_le i (lft_word x w) a.0 (perm_lft_word x p))

pub ascends_l_of_len : {m : ℕ} (x w : List ℕ) → Word m x → Perm m w → len (lft_word x w) ≡ len w + length x → AscendsL m x w
unfolding lft_word
ascends_l_of_len [] w a p e = tt
ascends_l_of_len {m} (i ∷ x) w a p e =
    let q : Perm m (lft_word x w) = perm_lft_word x p in
    let u : asc_l i (lft_word x w) ≡ true = asc_l_longer i (lft_word x w) a.0 q ∙ less_yes (omega (arith, e, lft_word_le x w a.1 p)) in
    (a.0, u, ascends_l_of_len x w a.1 p (omega (arith, e, up_l i (lft_word x w) a.0 q u)))
