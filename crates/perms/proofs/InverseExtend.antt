-- The inverse of `extend c u`: the inverse of u with the point m + 2 put before its index c - 1. Rests on Inverses, Split and Tower.
use mathlib.Core.Path.{◌≡◌, sym, ap, ◌∙◌}
use mathlib.Core.List.{List}
use Prim.Native.Nat.{ℕ, suc, pred, ◌+◌, ◌≤◌, ◌<◌}
use native.Mathlib.Omega.{arith}
use lib.ListN.{length, get_or}
use Rattle.perms.specs.Permutation.{inverse}
use Rattle.perms.specs.Extend.{bump, extend}
use Rattle.perms.proofs.Extend.{BumpView, under, over, bump?, bump_under, bump_over, length_extend}
use Rattle.perms.proofs.Split.{Tail, perm_extend}
use Rattle.perms.proofs.Tower.{get_or_extend, get_or_extend_last}
use Rattle.perms.proofs.Inverses.{image_inverse, inverse_at}

bump_pred : (c i : ℕ) → 1 ≤ c → pred (bump c (suc i)) ≡ bump (pred c) i
bump_pred c i h = go (bump? c (suc i))
  where
    go : BumpView c (suc i) → pred (bump c (suc i)) ≡ bump (pred c) i
    go (under p e) = ap pred e ∙ sym (bump_under (omega arith))
    go (over p e) = ap pred e ∙ sym (bump_over (omega arith))

module _ {m c : ℕ} {u : List ℕ} (t : Tail m c u) where
  pub inverse_extend_top : get_or (inverse (extend c u)) (pred c) 0 ≡ m + 2
  inverse_extend_top =
      ap (λ v. get_or (inverse (extend c u)) (pred v) 0) (sym (get_or_extend_last c u))
      ∙ inverse_at (extend c u) (perm_extend t) (length u) (omega (arith, length_extend c u))
      ∙ omega (arith, t.rest.size)

  pub inverse_extend_rest : (i : ℕ) → i < m + 1 → get_or (inverse (extend c u)) (bump (pred c) i) 0 ≡ get_or (inverse u) i 0
  inverse_extend_rest i h =
      let q = image_inverse u t.rest i (omega (arith, t.rest.size)) in
      let j = pred (get_or (inverse u) i 0) in
      let l : j < length u = omega arith in
      ap (λ v. get_or (inverse (extend c u)) v 0) (sym (ap pred (get_or_extend c j u l ∙ ap (bump c) q.0) ∙ bump_pred c i t.low))
      ∙ inverse_at (extend c u) (perm_extend t) j (omega (arith, length_extend c u))
      ∙ omega arith
