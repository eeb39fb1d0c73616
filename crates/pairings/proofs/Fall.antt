-- The fall of an inverse, as one point more comes to the permutation: with c = `pred` of its image, the weight c counts c times, and the rest falls by
-- the other weights. Rests on perms' Extend and InverseExtend.
use mathlib.Core.Path.{◌≡◌, sym, ap, ap₂, ◌∙◌}
use mathlib.Core.Bool.{false}
use mathlib.Core.List.{List}
use Prim.Native.Nat.{ℕ, suc, pred, ◌+◌, ◌*◌, ◌≤◌, ◌<◌}
use native.Mathlib.Omega.{arith}
use lib.ListN.{length, get_or}
use Rattle.lists.specs.Lists.{less, bit}
use Rattle.lists.specs.Numbers.{series}
use Rattle.lists.proofs.Test.{less_yes, less_no}
use Rattle.lists.proofs.Series.{series_cong, series_const}
use Rattle.perms.specs.Permutation.{inverse}
use Rattle.perms.specs.Extend.{bump, extend}
use Rattle.perms.proofs.Image.{perm_image}
use Rattle.perms.proofs.Extend.{BumpView, under, over, bump?, bump_under, series_without}
use Rattle.perms.proofs.Split.{Tail, perm_extend}
use Rattle.perms.proofs.InverseExtend.{inverse_extend_top, inverse_extend_rest}
use Rattle.perms.proofs.Group.{perm_inverse}
use Rattle.pairings.specs.Walk.{lower, fall}

-- ---- one point more

-- v' is v with a value above all others put before the index c
record Put (n c : ℕ) (v v' : List ℕ) : Type 0 where
  within : c ≤ n
  size : length v ≡ n
  size' : length v' ≡ suc n
  top : (i : ℕ) → i < n → get_or v i 0 < get_or v' c 0
  rest : (i : ℕ) → i < n → get_or v' (bump c i) 0 ≡ get_or v i 0

module _ {n c : ℕ} {v v' : List ℕ} (p : Put n c v v') where
  low : (i : ℕ) → i < c → get_or v' i 0 ≡ get_or v i 0
  low i l = ap (λ j. get_or v' j 0) (sym (bump_under l)) ∙ p.rest i (omega (arith, p.within))

  lower_top : lower v' c ≡ c
  unfolding lower
  lower_top =
      series_cong 0 c (λ i. bit (less (get_or v' i 0) (get_or v' c 0))) (λ i. 1)
      (λ i l. ap bit (less_yes (omega (arith, low (0 + i) (omega arith), p.top (0 + i) (omega (arith, p.within))))))
      ∙ series_const 0 c 1 ∙ omega arith

  lower_rest : (j : ℕ) → j < n → lower v' (bump c j) ≡ lower v j
  unfolding lower
  lower_rest j l = go (bump? c j)
    where
      test : ℕ → ℕ → ℕ
      test x i = bit (less (get_or v' i 0) x)

      go : BumpView c j → lower v' (bump c j) ≡ lower v j
      go (under b e) =
          ap (lower v') e ∙ series_cong 0 j _ _ (λ i k. ap₂ (λ x y. bit (less x y)) (low (0 + i) (omega arith)) (low j b))
      go (over b e) =
          let at : get_or v' (suc j) 0 ≡ get_or v j 0 = ap (λ i. get_or v' i 0) (sym e) ∙ p.rest j l in
          let none : less (get_or v' c 0) (get_or v j 0) ≡ false = less_no (omega (arith, p.top j l)) in
          ap (lower v') e ∙ ap (λ x. series 0 (suc j) (test x)) at
          ∙ series_without j c (test (get_or v j 0)) b
          ∙ ap₂ ◌+◌ (ap bit none)
          (series_cong 0 j (λ i. test (get_or v j 0) (bump c i)) (λ i. bit (less (get_or v i 0) (get_or v j 0)))
          (λ i k. ap (λ x. bit (less x (get_or v j 0))) (p.rest (0 + i) (omega arith))))
          ∙ omega arith

  fall_more : (f : ℕ → ℕ) → fall f v' ≡ f c * c + fall (λ j. f (bump c j)) v
  unfolding fall
  fall_more f =
      ap (λ k. series 0 k (λ j. f j * lower v' j)) p.size'
      ∙ series_without n c (λ j. f j * lower v' j) p.within
      ∙ ap₂ ◌+◌ (ap (λ k. f c * k) lower_top)
      (series_cong 0 n _ _ (λ i l. ap (λ k. f (bump c (0 + i)) * k) (lower_rest (0 + i) (omega arith)))
      ∙ ap (λ k. series 0 k (λ j. f (bump c j) * lower v j)) (sym p.size))

pub fall_extend : {m c : ℕ} {u : List ℕ} → Tail m c u → (f : ℕ → ℕ)
    → fall f (inverse (extend c u)) ≡ f (pred c) * pred c + fall (λ j. f (bump (pred c) j)) (inverse u)
fall_extend {m} {c} {u} t f =
    let p = perm_inverse u t.rest in
    let p' = perm_inverse (extend c u) (perm_extend t) in
    fall_more record {
      within = omega (arith, t.low, t.high);
      size = p.size;
      size' = p'.size ∙ omega arith;
      top = λ i l. omega (arith, perm_image (inverse u) p i (omega (arith, p.size)), inverse_extend_top t);
      rest = inverse_extend_rest t;
    } f
