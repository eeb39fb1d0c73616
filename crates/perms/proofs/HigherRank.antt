-- A shortest word of rank l is one of every rank m ≥ l, of the permutation that also fixes the points up to m + 1. Rests on Extend, Reduced and CycleReduced.
--
--   higher l k v    v of rank l as the permutation of rank l + k that also fixes the points from l + 2 on
use mathlib.Core.Path.{◌≡◌, refl, sym, ap, ◌∙◌, subst}
use mathlib.Core.List.{List, [], ◌∷◌}
use Prim.Native.Nat.{ℕ, zero, suc, ◌+◌, ◌-◌, ◌≤◌}
use native.Mathlib.Numerals.{unary_clauses}
use native.Mathlib.Omega.{arith}
use Rattle.perms.specs.Permutation.{Letter, Word, of_word, Shortest}
use Rattle.perms.specs.Extend.{extend}
use Rattle.perms.proofs.Perm.{rgt, rgt_word}
use Rattle.perms.proofs.Products.{of_word_rgt}
use Rattle.perms.proofs.Word.{word_up}
use Rattle.perms.proofs.Extend.{rgt_above, identity_suc}
use Rattle.perms.proofs.Ascending.{Ascends}
use Rattle.perms.proofs.Reduced.{short_makes, short_ascends, ascends_short}
use Rattle.perms.proofs.CycleReduced.{ascends_extend}

rgt_word_extend : (m : ℕ) (x w : List ℕ) → Word m x → rgt_word x (extend (m + 2) w) ≡ extend (m + 2) (rgt_word x w)
unfolding rgt_word
rgt_word_extend m [] w a = refl
rgt_word_extend m (i ∷ x) w a =
    let l : Letter m i = a.0 in
    ap (rgt_word x) (rgt_above i (m + 2) (omega arith) w) ∙ rgt_word_extend m x (rgt i w) a.1

-- one more point, which is fixed
short_extend : {m : ℕ} {x v : List ℕ} → Shortest m x v → Shortest (suc m) x (extend (m + 2) v)
short_extend {m} {x} {v} s = subst (Shortest (suc m) x) makes
    (ascends_short (suc m) x (subst (Ascends (suc m) x) (sym (identity_suc m)) (ascends_extend m x _ (short_ascends s))))
  where
    makes : of_word (suc m) x ≡ extend (m + 2) v
    makes =
        of_word_rgt (suc m) x (word_up x (omega arith) s.word)
        ∙ ap (rgt_word x) (identity_suc m)
        ∙ rgt_word_extend m x _ s.word
        ∙ ap (extend (m + 2)) (short_makes s)

unfoldable pub higher : ℕ → ℕ → List ℕ → List ℕ
higher l zero v = v
higher l (suc k) v = extend (l + k + 2) (higher l k v)

short_higher : (l k : ℕ) {x v : List ℕ} → Shortest l x v → Shortest (l + k) x (higher l k v)
unfolding higher
short_higher l zero s = simp unary_clauses s
short_higher l (suc k) s = simp unary_clauses (simp unary_clauses at (short_extend (short_higher l k s)))

pub short_up : {l m : ℕ} {x v : List ℕ} → l ≤ m → Shortest l x v → Shortest m x (higher l (m - l) v)
short_up {l} {m} {x} {v} h s =
    let e : l + (m - l) ≡ m = omega arith in
    subst (λ n. Shortest n x (higher l (m - l) v)) e (short_higher l (m - l) s)
