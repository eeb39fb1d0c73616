-- The ascents on the right of an extended list: where the new value is above or below both values they are those of the list, and where it is one
-- of the two, that is an ascent just if it is the upper. Rests on Ascent, Extend and Split.
use mathlib.Core.Path.{◌≡◌, sym, ap, ◌∙◌}
use mathlib.Core.Logic.{◌≢◌}
use mathlib.Core.Bool.{true, false, not}
use mathlib.Core.List.{List, [], ◌∷◌}
use Prim.Native.Nat.{ℕ, suc, ◌≤◌, ◌<◌}
use native.Mathlib.Omega.{arith}
use Rattle.lists.specs.Lists.{same, count, tally}
use Rattle.lists.proofs.Test.{SameView, is, isnt, same?, same_no}
use Rattle.perms.specs.Extend.{bump, extend}
use Rattle.perms.proofs.Ascent.{before, asc_r, asc_r_rgt}
use Rattle.perms.proofs.Extend.{rgt_upper}
use Rattle.perms.proofs.Split.{same_bump, same_under, same_over, count_under}

-- a and b stand in the extended list just where a' and b' do in the list
before_extend : (a b a' b' c : ℕ) → c ≢ a → c ≢ b → ((v : ℕ) → same (bump c v) a ≡ same v a') → ((v : ℕ) → same (bump c v) b ≡ same v b')
    → (u : List ℕ) → before a b (extend c u) ≡ before a' b' u
unfolding before extend
before_extend a b a' b' c n k f g [] = rw (same_no n, same_no k)
before_extend a b a' b' c n k f g (x ∷ u) = rw (f x, g x, before_extend a b a' b' c n k f g u)

-- c is above both values
pub asc_above : (i c : ℕ) → suc i < c → (u : List ℕ) → asc_r i (extend c u) ≡ asc_r i u
unfolding asc_r
asc_above i c h u =
    before_extend i (suc i) i (suc i) c (omega arith) (omega arith) (λ v. same_under c i v (omega arith)) (λ v. same_under c (suc i) v h) u

-- c is below both
pub asc_below : (i c : ℕ) → c ≤ i → (u : List ℕ) → asc_r (suc i) (extend c u) ≡ asc_r i u
unfolding asc_r
asc_below i c h u =
    before_extend (suc i) (suc (suc i)) i (suc i) c (omega arith) (omega arith) (λ v. same_over c i v h) (λ v. same_over c (suc i) v (omega arith)) u

-- c is the upper of the two, and stands last
pub asc_upper : (i : ℕ) (u : List ℕ) → 1 ≤ count i u → asc_r i (extend (suc i) u) ≡ true
unfolding asc_r before extend count tally
asc_upper i [] h = absurd (omega arith)
asc_upper i (x ∷ u) h = go (asc_upper i u) (same? x i)
  where
    go : (1 ≤ count i u → before i (suc i) (extend (suc i) u) ≡ true) → SameView x i → before i (suc i) (bump (suc i) x ∷ extend (suc i) u) ≡ true
    go ih (is p e) = rw (same_under (suc i) i x (omega arith), e)
    go ih (isnt p e) = rw (same_under (suc i) i x (omega arith), same_bump (suc i) x, e) (ih (omega (arith, rw e at h)))

-- c is the lower
pub asc_lower : (i : ℕ) (u : List ℕ) → 1 ≤ count i u → asc_r i (extend i u) ≡ false
asc_lower i u h =
    ap (asc_r i) (sym (rgt_upper i u)) ∙ asc_r_rgt i (extend (suc i) u) (omega (arith, count_under (suc i) i u (omega arith))) ∙ ap not (asc_upper i u h)
