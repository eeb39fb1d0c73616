-- By factorials, the place of a permutation and its fall make the last place: an image before another is above it or below it. Rests on lists' Series
-- and Prefix, and perms' Image.
use mathlib.Core.Path.{◌≡◌, sym, ap, ap₂, ◌∙◌}
use mathlib.Core.List.{List}
use Prim.Native.Nat.{ℕ, suc, pred, ◌+◌, ◌*◌, ◌<◌}
use native.Mathlib.Omega.{arith}
use lib.ListN.{length, get_or}
use Rattle.lists.specs.Lists.{less, bit}
use Rattle.lists.specs.Numbers.{factorial, series}
use Rattle.lists.proofs.Test.{LessView, lt, ge, less?}
use Rattle.lists.proofs.Series.{series_cong, series_add, series_const, series_first, series_factorials}
use Rattle.lists.proofs.Prefix.{tally_take}
use Rattle.perms.specs.Permutation.{Perm}
use Rattle.perms.specs.Tower.{above, entry}
use Rattle.perms.proofs.Image.{perm_distinct}
use Rattle.algebra.specs.Place.{place}
use Rattle.pairings.specs.Walk.{lower, fall}

entry_lower : {m : ℕ} (w : List ℕ) → Perm m w → (j : ℕ) → j < length w → entry j w + lower w j ≡ j
unfolding entry above lower
entry_lower w p j h =
    let x = get_or w j 0 in
    ap (λ k. k + series 0 j (λ i. bit (less (get_or w i 0) x))) (tally_take (λ y. less x y) w j (omega arith))
    ∙ sym (series_add 0 j (λ i. bit (less x (get_or w i 0))) (λ i. bit (less (get_or w i 0) x)))
    ∙ series_cong 0 j _ (λ i. 1) (λ i l. one (0 + i) (omega arith) (less? x (get_or w (0 + i) 0)) (less? (get_or w (0 + i) 0) x))
    ∙ series_const 0 j 1 ∙ omega arith
  where
    one : (i : ℕ) → i < j → LessView (get_or w j 0) (get_or w i 0) → LessView (get_or w i 0) (get_or w j 0)
        → bit (less (get_or w j 0) (get_or w i 0)) + bit (less (get_or w i 0) (get_or w j 0)) ≡ 1
    one i l (lt a e) (lt b f) = absurd (omega arith)
    one i l (lt a e) (ge b f) = rw (e, f) (omega arith)
    one i l (ge a e) (lt b f) = rw (e, f) (omega arith)
    one i l (ge a e) (ge b f) = absurd (omega (arith, perm_distinct w p i j (omega arith) h (omega arith)))

place_series : {m : ℕ} (w : List ℕ) → Perm m w → place w ≡ series 0 (suc m) (λ j. factorial j * entry j w)
unfolding place
place_series {m} w p =
    let e : pred (length w) ≡ m = omega (arith, p.size) in
    ap (λ k. series 1 k (λ j. entry j w * factorial j)) e
    ∙ series_cong 1 m _ (λ j. factorial j * entry j w) (λ i l. omega arith)
    ∙ sym (series_first m (λ j. factorial j * entry j w) ∙ ap (λ k. k + series 1 m (λ j. factorial j * entry j w)) first ∙ omega arith)
  where
    first : factorial 0 * entry 0 w ≡ 0
    first =
        let none : entry 0 w ≡ 0 = omega (arith, entry_lower w p 0 (omega (arith, p.size))) in
        ap (λ k. factorial 0 * k) none ∙ omega arith

pub place_fall : {m : ℕ} (w : List ℕ) → Perm m w → suc (place w + fall factorial w) ≡ factorial (suc m)
unfolding fall
place_fall {m} w p =
    let size : length w ≡ suc m = omega (arith, p.size) in
    ap₂ (λ a k. suc (a + series 0 k (λ j. factorial j * lower w j))) (place_series w p) size
    ∙ ap suc (sym (series_add 0 (suc m) (λ j. factorial j * entry j w) (λ j. factorial j * lower w j)))
    ∙ ap suc (series_cong 0 (suc m) _ (λ j. factorial j * j) (λ i l. each (0 + i) (omega arith)))
    ∙ series_factorials (suc m)
  where
    each : (j : ℕ) → j < suc m → factorial j * entry j w + factorial j * lower w j ≡ factorial j * j
    each j h = omega (arith, ap (λ k. factorial j * k) (entry_lower w p j (omega (arith, p.size))))
